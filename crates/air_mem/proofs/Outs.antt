-- What Mem receives, and what Init and Out send, as lists of accesses; Out's lines.
use Rattle.std.proofs.Common.{map, length, ℕ, zero, suc, ◌+◌, ◌*◌, ◌<◌, ◌≤◌, ◌≡◌, inl, inr, Bool, true, false, cond, not, eqb, ltb, ◌&&◌, List, [], ◌∷◌, Option, Some, None, refl, sym, ap, subst, ◌∙◌, arith}
use Rattle.std.specs.Prelude.{slice_get, slice_index}
use Rattle.std.specs.List.{range_with_len}
use Rattle.std.proofs.lemmas.Bool.Decides.{nat_tests}
use Rattle.std.proofs.lemmas.Bool.{cases_lt, and_parts, false≢true}
use Rattle.std.proofs.lemmas.List.FromFn.{length-range_with_len, get_or-range_with_len}
use Rattle.std.proofs.lemmas.Option.{slice_get_past, slice_get-get_or}
use Rattle.pil_ast.specs.Term.{Tuples, Line, identity, lookup, bus, Namespace, item_at, is_line}
use Rattle.pil_ast.specs.Columns.{Columns}
use Rattle.pil_ast.specs.Value.{Cells, around}
use Rattle.pil_ast.specs.Holds.{times, sent, row_sent, AsOften, Holds}
use Rattle.pil_exact.specs.Exact.{HoldsExactly}
use Rattle.pil_laws.specs.Table.{of_row}
use Rattle.pil_laws.proofs.Sent.{unsent, sent_one}
use Rattle.pil_laws.proofs.Table.{sent-tuples}
use Rattle.machine_text.specs.Out
use Rattle.air_mem.specs.Access.{Access, memory_tuple}
use Rattle.step_rows.specs.Words.{low, high}
use Rattle.step_rows.specs.declared.doubleword.Doubleword.{Doubleword}
use Rattle.air_mem.specs.Constants.{OutConstants, of_initial}
use Rattle.machine_text.specs.Mem
use Rattle.machine_text.specs.Init
use Rattle.air_mem.specs.Lists.{initial_write, final_read}
use Rattle.air_mem.specs.Rows.{mem_row, before}
use Rattle.air_mem.specs.Laws.{MemReceives, InitSends, OutSends, OutHolds, OutExact}

-- the tuple of an element, or nothing
abbrev pub piece : {X : Type 0} → (X → List ℕ) → Option X → List (List ℕ)
piece f o = of_row (λ x. f x ∷ []) o

add_none : (a : ℕ) → 0 + a ≡ a
add_none a = omega arith

module _ {X : Type 0} (f : X → List ℕ) (ns : List Namespace) (c : Columns) (xs : List X) where
  -- Rows that send the pieces of a list, one instance after the other, send the list.
  pub sends_all : (a : Tuples) → length xs ≤ c.instances a.space * c.rows a.space → ((i r : ℕ) → i < c.instances a.space → r < c.rows a.space → row_sent ns c a i r ≡ piece f (slice_get xs (i * c.rows a.space + r))) → AsOften (sent ns c a) (map f xs)
  sends_all a room rows t = ap (times t) (sent-tuples ns c f xs a room rows)

set_on : (v : ℕ) → v ≡ 1 → not (eqb v 0) ≡ true
set_on v e = grind (arith, nat_tests)

set_off : (v : ℕ) → v ≡ 0 → not (eqb v 0) ≡ false
set_off v e = grind (arith, nat_tests)

five : (a b d e f a' b' d' e' f' : ℕ) → a ≡ a' → b ≡ b' → d ≡ d' → e ≡ e' → f ≡ f' → a ∷ b ∷ d ∷ e ∷ f ∷ [] ≡ a' ∷ b' ∷ d' ∷ e' ∷ f' ∷ []
five a b d e f a' b' d' e' f' h i j k l = cc

-- Mem

mem_piece : (ns : List Namespace) (c : Columns) (i r : ℕ) (b : Option Access) (o : Option Access) → ((k : ℕ) → k < 15 → c.at 7 i (5 + k) r ≡ slice_index (mem_row b o) k) → row_sent ns c Mem.access i r ≡ piece memory_tuple o
mem_piece ns c i r b None h = unsent ns c Mem.access i r (set_off _ (h 0 (omega arith)))
mem_piece ns c i r b (Some a) h =
    sent_one ns c Mem.access i r (set_on _ (h 0 (omega arith))) ∙ ap (λ u. u ∷ []) (five _ _ _ _ _ _ _ _ _ _ (h 1 (omega arith)) (h 2 (omega arith)) (h 3 (omega arith)) (h 4 (omega arith)) (h 5 (omega arith)))

pub mem_receives : MemReceives
mem_receives ns c xs is t =
    sym (sends_all memory_tuple ns c xs Mem.access is.room (λ i r l h. mem_piece ns c i r (before xs (i * c.rows 7 + r)) (slice_get xs (i * c.rows 7 + r)) (λ k m. is.row i r k l h m)) t)

-- Init

init_piece : (ns : List Namespace) (c : Columns) (i r : ℕ) (o : Option Doubleword) → c.at 5 i 0 r ≡ of_initial (λ d. 1) o → c.at 5 i 1 r ≡ of_initial (λ d. d.number) o → c.at 5 i 2 r ≡ of_initial (λ d. low d.value) o → c.at 5 i 3 r ≡ of_initial (λ d. high d.value) o → row_sent ns c Init.writes i r ≡ piece (λ d. memory_tuple (initial_write d)) o
init_piece ns c i r None s k l h = unsent ns c Init.writes i r (set_off _ s)
init_piece ns c i r (Some d) s k l h = sent_one ns c Init.writes i r (set_on _ s) ∙ ap (λ u. u ∷ []) (five _ _ _ _ _ _ _ _ _ _ k refl refl l h)

map_two : {X Y Z : Type 0} (g : Y → Z) (f : X → Y) (xs : List X) → map (λ x. g (f x)) xs ≡ map g (map f xs)
map_two g f [] = refl
map_two g f (x ∷ xs) = ap (λ l. g (f x) ∷ l) (map_two g f xs)

pub init_sends : InitSends
init_sends ns c ds is t =
    sends_all (λ d. memory_tuple (initial_write d)) ns c ds Init.writes is.room (λ i r l h. init_piece ns c i r (slice_get ds (i * c.rows 5 + r)) (is.is_sel i r l h) (is.is_key i r l h) (is.is_lo i r l h) (is.is_hi i r l h)) t ∙ ap (times t) (map_two memory_tuple initial_write ds)

-- Out

first_instance : (i n : ℕ) → i < n → n ≡ 1 → i ≡ 0
first_instance i n h e = omega arith

only_place : (i n r : ℕ) → i ≡ 0 → i * n + r ≡ r
only_place i n r e = ap (λ j. j * n + r) e ∙ none n r
  where
    none : (n r : ℕ) → 0 * n + r ≡ r
    none n r = omega arith

sel_on : (v r : ℕ) → v ≡ cond (ltb r 33) 1 0 → r < 33 → v ≡ 1
sel_on v r e h = grind (arith, nat_tests)

sel_off : (v r : ℕ) → v ≡ cond (ltb r 33) 1 0 → 33 ≤ r → v ≡ 0
sel_off v r e h = grind (arith, nat_tests)

out_room : (m n : ℕ) → m ≡ 1 → n ≡ 64 → 33 ≤ m * n
out_room m n e f = subst (λ m. 33 ≤ m * n) (sym e) (one n f)
  where
    one : (n : ℕ) → n ≡ 64 → 33 ≤ 1 * n
    one n f = omega arith

module _ (ns : List Namespace) (c : Columns) (is : OutConstants c) where
  out_at : (r : ℕ) → r < 64 → row_sent ns c Out.reads 0 r ≡ piece (λ r. memory_tuple (final_read c r)) (slice_get (range_with_len 0 33) r)
  out_at r h =
      elim (cases_lt r 33) [
        | inl z ↦ (
            let long = length-range_with_len 0 33 in
            let e : slice_get (range_with_len 0 33) r ≡ Some r = slice_get-get_or (range_with_len 0 33) r 0 (omega arith) ∙ ap Some (get_or-range_with_len 0 33 r 0 z ∙ add_none r) in
            sent_one ns c Out.reads 0 r (set_on _ (sel_on _ r (is.is_sel r h) z)) ∙ ap (λ u. u ∷ []) (five _ _ _ _ _ _ _ _ _ _ (is.is_key r h) refl refl refl refl) ∙ sym (ap (piece (λ r. memory_tuple (final_read c r))) e))
        | inr z ↦ (
            let long = length-range_with_len 0 33 in
            let e : slice_get (range_with_len 0 33) r ≡ None = slice_get_past (range_with_len 0 33) r (omega arith) in
            unsent ns c Out.reads 0 r (set_off _ (sel_off _ r (is.is_sel r h) z)) ∙ sym (ap (piece (λ r. memory_tuple (final_read c r))) e))
      ]

  out_row : (i r : ℕ) → i < c.instances 8 → r < c.rows 8 → row_sent ns c Out.reads i r ≡ piece (λ r. memory_tuple (final_read c r)) (slice_get (range_with_len 0 33) (i * c.rows 8 + r))
  out_row i r l h =
      let z = first_instance i (c.instances 8) l is.instances in
      let e = is.rows in
      ap (λ j. row_sent ns c Out.reads j r) z ∙ out_at r (omega arith) ∙ sym (ap (λ m. piece (λ r. memory_tuple (final_read c r)) (slice_get (range_with_len 0 33) m)) (only_place i (c.rows 8) r z))

pub out_sends : OutSends
out_sends ns c is t =
    sends_all (λ r. memory_tuple (final_read c r)) ns c (range_with_len 0 33) Out.reads (out_room _ _ is.instances is.rows) (out_row ns c is) t ∙ ap (times t) (map_two memory_tuple (final_read c) (range_with_len 0 33))

-- Out has declarations alone
abbrev all_declare : List Line → Bool
all_declare [] = true
all_declare (l ∷ ls) = not (is_line l) && all_declare ls

says_nothing : (ns : List Namespace) (c : Columns) (l : Line) → not (is_line l) ≡ true → Holds ns c l
says_nothing ns c (identity s a b) e = absurd (false≢true e)
says_nothing ns c (lookup a b) e = absurd (false≢true e)
says_nothing ns c (bus a b) e = absurd (false≢true e)
says_nothing ns c _ e = tt

say_nothing : (ns : List Namespace) (c : Columns) (ls : List Line) → all_declare ls ≡ true → (k : ℕ) → Holds ns c (item_at ls k)
say_nothing ns c [] e k = λ i r _ _. refl
say_nothing ns c (l ∷ ls) e zero = says_nothing ns c l (and_parts _ _ e).0
say_nothing ns c (l ∷ ls) e (suc k) = say_nothing ns c ls (and_parts _ _ e).1 k

pub out_holds : OutHolds
out_holds ns c = say_nothing ns c Out.items refl

nothing_exact : (items : List Line) (x : Cells) (l : Line) → not (is_line l) ≡ true → HoldsExactly items x l
nothing_exact items x (identity s a b) e = absurd (false≢true e)
nothing_exact items x _ e = tt

nothings_exact : (items : List Line) (x : Cells) (ls : List Line) → all_declare ls ≡ true → (k : ℕ) → HoldsExactly items x (item_at ls k)
nothings_exact items x [] e k = refl
nothings_exact items x (l ∷ ls) e zero = nothing_exact items x l (and_parts _ _ e).0
nothings_exact items x (l ∷ ls) e (suc k) = nothings_exact items x ls (and_parts _ _ e).1 k

pub out_exact : OutExact
out_exact ns c i r = nothings_exact Out.items (around ns c 8 i r) Out.items refl
