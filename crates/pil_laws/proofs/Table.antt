-- What a namespace sends whose columns hold rows.
use Rattle.std.proofs.Common.{ℕ, zero, suc, ◌+◌, ◌-◌, ◌*◌, ◌<◌, ◌≤◌, ◌≡◌, ◌&&◌, Bool, true, false, not, cond, List, [], ◌∷◌, Option, Some, None, length, map, flat_map, slice_get, mod-lt, refl, sym, ap, ◌∙◌, arith}
use Rattle.std.specs.Prelude.{nat_le, nat_lt, ◌==◌}
use Rattle.std.proofs.lemmas.List.Concat.{flat_map_single}
use Rattle.std.proofs.lemmas.Bool.{and_parts, eqb-true, leb-true, ltb-true}
use Rattle.pil_ast.specs.Term.{Term, col, Tuples, Namespace, space_at}
use Rattle.pil_ast.specs.Columns.{Columns}
use Rattle.pil_ast.specs.Value.{Cells, value, ahead, public_value, value_in, row_after}
use Rattle.pil_ast.specs.Holds.{chosen, sent, row_sent, selected, tuple}
use Rattle.pil_laws.specs.Table.{AreHeld, Gives, held, is_held, row_ahead, cells, sent_by, of_row}
use Rattle.pil_laws.proofs.Ranges.{by_instances}
use Rattle.pil_laws.proofs.Values.{same_value}

module _ {R : Type 0} (ns : List Namespace) (c : Columns) (s first width : ℕ) (value_of : R → ℕ → ℕ) (rows : List R) (are : AreHeld c s first width value_of rows) (i r : ℕ) (inside : i < c.instances s) (row_inside : r < c.rows s) where
  -- the row t rows further on
  abbrev pub place : ℕ → Option R
  place t = slice_get rows (i * c.rows s + ahead (c.rows s) r t)

  abbrev pub others_at : ℕ → ℕ → ℕ → ℕ
  others_at t n k = c.at n i k (ahead (c.rows s) r t)

  abbrev pub cells_at : Cells
  cells_at = cells s first width value_of others_at (public_value ns c) (place 0) (λ t. place (suc t))

  ahead_inside : (t : ℕ) → ahead (c.rows s) r t < c.rows s
  unfolding row_after
  ahead_inside zero = row_inside
  ahead_inside (suc t) = mod-lt (ahead (c.rows s) r t + 1) (omega (arith, row_inside))

  placed : (t : ℕ) → row_ahead (place 0) (λ u. place (suc u)) t ≡ place t
  placed zero = refl
  placed (suc t) = refl

  one : (t n k : ℕ) (b : Bool) → is_held s first width n k ≡ b → c.at n i k (ahead (c.rows s) r t) ≡ cond b (held value_of (row_ahead (place 0) (λ u. place (suc u)) t) (k - first)) (others_at t n k)
  one t n k false e = refl
  one t n k true e =
      let u = and_parts (n == s) (nat_le first k && nat_lt k (first + width)) e in
      let w = and_parts (nat_le first k) (nat_lt k (first + width)) u.1 in
      let same : n ≡ s = eqb-true n s u.0 in
      let low : first ≤ k = leb-true first k w.0 in
      let high : k < first + width = ltb-true k (first + width) w.1 in
      ap (λ m. c.at m i k (ahead (c.rows s) r t)) same ∙ ap (λ j. c.at s i j (ahead (c.rows s) r t)) (omega arith)
      ∙ are.each i (ahead (c.rows s) r t) (k - first) inside (ahead_inside t) (omega arith) ∙ ap (λ o. held value_of o (k - first)) (sym (placed t))

  agree : (t n k : ℕ) → c.at n i k (ahead (c.rows s) r t) ≡ cells_at.column t n k
  agree t n k = one t n k (is_held s first width n k) refl

  -- an expression's value at a row is by the rows that are held
  pub value-held : (e : Term) → value_in ns c s i r e ≡ value (space_at ns s).items cells_at e
  value-held e = same_value (space_at ns s).items (λ t n k. c.at n i k (ahead (c.rows s) r t)) (λ t n k. cells_at.column t n k) (public_value ns c) agree e

  all_held : (es : List Term) → map (value_in ns c s i r) es ≡ map (value (space_at ns s).items cells_at) es
  all_held [] = refl
  all_held (e ∷ es) = ap (λ v. v ∷ map (value_in ns c s i r) es) (value-held e) ∙ ap (λ vs. value (space_at ns s).items cells_at e ∷ vs) (all_held es)

  selected_held : (o : Option Term) → selected ns c s i r o ≡ chosen (space_at ns s).items cells_at o
  selected_held None = refl
  selected_held (Some e) = ap (λ v. not (v == 0)) (value-held e)

  pub sent-held : (o : Option Term) (es : List Term) → row_sent ns c (record { space = s; sel = o; terms = es }) i r ≡ sent_by (space_at ns s).items cells_at (record { space = s; sel = o; terms = es })
  sent-held o es =
      ap (λ b. cond b (map (value_in ns c s i r) es ∷ []) []) (selected_held o) ∙ ap (λ vs. cond (chosen (space_at ns s).items cells_at o) (vs ∷ []) []) (all_held es)

-- rows that send what f gives of a list's elements, one instance after the other, send it in order
pub sent-each : {R : Type 0} (ns : List Namespace) (c : Columns) (f : R → List (List ℕ)) (rows : List R) (a : Tuples) → length rows ≤ c.instances a.space * c.rows a.space
    → ((i r : ℕ) → i < c.instances a.space → r < c.rows a.space → row_sent ns c a i r ≡ of_row f (slice_get rows (i * c.rows a.space + r))) → sent ns c a ≡ flat_map f rows
unfolding sent
sent-each ns c f rows a room each = by_instances (row_sent ns c a) f rows (c.instances a.space) (c.rows a.space) room each

-- the same where that is one tuple each
pub sent-tuples : {R : Type 0} (ns : List Namespace) (c : Columns) (t : R → List ℕ) (rows : List R) (a : Tuples) → length rows ≤ c.instances a.space * c.rows a.space
    → ((i r : ℕ) → i < c.instances a.space → r < c.rows a.space → row_sent ns c a i r ≡ of_row (λ x. t x ∷ []) (slice_get rows (i * c.rows a.space + r))) → sent ns c a ≡ map t rows
sent-tuples ns c t rows a room each = sent-each ns c (λ x. t x ∷ []) rows a room each ∙ flat_map_single t rows

-- what a table of rows sends is what each row gives, in order
pub sent-rows : {R : Type 0} (ns : List Namespace) (c : Columns) (first width : ℕ) (value_of : R → ℕ → ℕ) (f : R → List (List ℕ)) (rows : List R) (a : Tuples)
    → AreHeld c a.space first width value_of rows → Gives ns c first width value_of f rows a → sent ns c a ≡ flat_map f rows
sent-rows ns c first width value_of f rows a are gives =
    sent-each ns c f rows a are.room
    (λ i r l w. sent-held ns c a.space first width value_of rows are i r l w a.sel a.terms ∙ gives i r (slice_get rows (i * c.rows a.space + r)) (λ t. slice_get rows (i * c.rows a.space + ahead (c.rows a.space) r (suc t))) l w refl)

-- the same from what an air's laws say at a row: of the rows that are held, and of the rows behind them
pub sent-laws : {R : Type 0} (ns : List Namespace) (c : Columns) (f : R → List (List ℕ)) (rows : List R) (a : Tuples) → length rows ≤ c.instances a.space * c.rows a.space
    → ((i r : ℕ) (x : R) → i < c.instances a.space → r < c.rows a.space → slice_get rows (i * c.rows a.space + r) ≡ Some x → row_sent ns c a i r ≡ f x)
    → ((i r : ℕ) → i < c.instances a.space → r < c.rows a.space → slice_get rows (i * c.rows a.space + r) ≡ None → row_sent ns c a i r ≡ []) → sent ns c a ≡ flat_map f rows
sent-laws {R} ns c f rows a room some none = sent-each ns c f rows a room (λ i r l w. one_row i r l w (slice_get rows (i * c.rows a.space + r)) refl)
  where
    one_row : (i r : ℕ) → i < c.instances a.space → r < c.rows a.space → (o : Option R) → slice_get rows (i * c.rows a.space + r) ≡ o → row_sent ns c a i r ≡ of_row f o
    one_row i r l w None e = none i r l w e
    one_row i r l w (Some x) e = some i r x l w e

-- the same where the selector is a column that is 1 in each row, by the tuple of each row
pub sent-selected : {R : Type 0} (ns : List Namespace) (c : Columns) (s first width k : ℕ) (value_of : R → ℕ → ℕ) (t : R → List ℕ) (rows : List R) (es : List Term) → AreHeld c s first width value_of rows → k < width → ((x : R) → value_of x k ≡ 1)
    → ((i r : ℕ) (x : R) → i < c.instances s → r < c.rows s → slice_get rows (i * c.rows s + r) ≡ Some x → tuple ns c s i r es ≡ t x) → sent ns c (record { space = s; sel = Some (col s (first + k) false); terms = es }) ≡ map t rows
sent-selected {R} ns c s first width k value_of t rows es are l on tuples =
    sent-laws ns c (λ x. t x ∷ []) rows (record { space = s; sel = Some (col s (first + k) false); terms = es }) are.room
    (λ i r x li lr e. ap (λ v. cond (not (v == 0)) (tuple ns c s i r es ∷ []) []) (are.each i r k li lr l ∙ ap (λ o. held value_of o k) e ∙ on x) ∙ ap (λ u. u ∷ []) (tuples i r x li lr e))
    (λ i r li lr e. ap (λ v. cond (not (v == 0)) (tuple ns c s i r es ∷ []) []) (are.each i r k li lr l ∙ ap (λ o. held value_of o k) e))
    ∙ flat_map_single t rows
