-- A row of which something is known: its lines as equations in whole numbers, and back.
use Rattle.std.proofs.Common.{ℕ, zero, suc, ◌+◌, ◌<◌, ◌≤◌, ◌≡◌, ◌↔◌, inl, inr, Bool, true, false, eqb, ltb, ◌&&◌, ◌||◌, length, List, [], ◌∷◌, ◌++◌, Option, Some, None, refl, sym, subst, lit<, arith}
use Rattle.std.proofs.lemmas.Bool.{ltb-true, eqb-true, and_parts, or_cases, false≢true}
use Rattle.gold.specs.Field.{p}
use Rattle.pil_ast.specs.Term.{Term, num, col, mid, public, opp, ◌⊕◌, ◌⊖◌, ◌⊗◌, Line, identity, lookup, Tuples, Namespace, item_at, inter_at, space_at}
use Rattle.pil_ast.specs.Columns.{Columns}
use Rattle.pil_ast.specs.Value.{Cells, value, value_at, value_by, later, around, ahead, row_after}
use Rattle.pil_ast.specs.Holds.{sent, HoldsAt}
use Rattle.pil_laws.specs.Lines.{is_over, are_over}
use Rattle.pil_laws.proofs.Values.{public_small}
use Rattle.pil_exact.specs.Exact.{Same, IsMod, Whole, whole, exact, AreOne, HoldsExactly}
use Rattle.pil_exact.specs.Row.{Says}
use Rattle.pil_exact.proofs.Modulo.{is_mod, no_wrap, below_p}
use Rattle.pil_exact.proofs.Reading.{Amount, lit, var, mean, top, plus, mean-plus, top-plus, Both, only, read_at, Reads, reads_at}

-- what is known of a column: its value, or a number that it doesn't exceed
pub data Fact : Type 0 where
  is : ℕ → Fact
  most : ℕ → Fact

abbrev pub Meets : ℕ → Fact → Type 0
Meets y (is n) = y ≡ n
Meets y (most m) = y ≤ m

-- the first fact of the column k, and what it says
abbrev pub found : List (ℕ × Fact) → ℕ → Option Fact
found [] k = None
found (e ∷ es) k = elim (eqb e.0 k) [ true ↦ Some e.1 | false ↦ found es k ]

abbrev pub MeetsFound : ℕ → Option Fact → Type 0
MeetsFound y None = Unit {0}
MeetsFound y (Some f) = Meets y f

-- the columns meet their facts
abbrev pub AllMeet : List (ℕ × Fact) → (ℕ → ℕ) → Type 0
AllMeet [] f = Unit {0}
AllMeet (e ∷ es) f = Meets (f e.0) e.1 × AllMeet es f

meets_step : (e : ℕ × Fact) (o : Option Fact) (f : ℕ → ℕ) (k : ℕ) → Meets (f e.0) e.1 → MeetsFound (f k) o → (b : Bool) → eqb e.0 k ≡ b → MeetsFound (f k) (elim b [ true ↦ Some e.1 | false ↦ o ])
meets_step e o f k h i true q = subst (λ z. Meets (f z) e.1) (eqb-true _ _ q) h
meets_step e o f k h i false q = i

pub fact : (es : List (ℕ × Fact)) (f : ℕ → ℕ) → AllMeet es f → (k : ℕ) → MeetsFound (f k) (found es k)
fact [] f h k = tt
fact (e ∷ es) f h k = meets_step e _ f k h.0 (fact es f h.1 k) (eqb e.0 k) refl

pub meet_both : (es fs : List (ℕ × Fact)) (f : ℕ → ℕ) → AllMeet es f → AllMeet fs f → AllMeet (es ++ fs) f
meet_both [] fs f h k = k
meet_both (e ∷ es) fs f h k = (h.0, meet_both es fs f h.1 k)

-- a column with what is known of it
abbrev pub seen : Option Fact → ℕ → Both
seen None y = only (var y 18446744069414584320)
seen (Some (is n)) y = only (lit n)
seen (Some (most m)) y = only (var y m)

-- the columns of the namespace `home`, t rows further on, where `facts t` is known of them there
abbrev pub column_at : Cells → ℕ → (ℕ → List (ℕ × Fact)) → ℕ → ℕ → ℕ → Both
column_at x home facts t s k = elim (eqb s home) [ true ↦ seen (found (facts t) k) (x.column t s k) | false ↦ seen None (x.column t s k) ]

abbrev pub read : List Line → Cells → ℕ → (ℕ → List (ℕ × Fact)) → Term → Both
read items x home facts e = read_at items (column_at x home facts) (λ k. seen None (x.public k)) (suc (length items)) 0 e

-- A row whose columns meet these facts.
pub record Row (items : List Line) (x : Cells) (home : ℕ) (facts : ℕ → List (ℕ × Fact)) : Type 0 where
  pub meets : (t : ℕ) → AllMeet (facts t) (x.column t home)
  pub small : (t s k : ℕ) → x.column t s k < p
  pub publics : (k : ℕ) → x.public k < p

seen_reads : (o : Option Fact) (y : ℕ) → MeetsFound y o → y < p → Reads (seen o y) (whole y)
seen_reads None y h l = record { is = omega arith; up = omega arith; down = omega arith }
seen_reads (Some (is n)) y h l = record { is = omega arith; up = omega arith; down = omega arith }
seen_reads (Some (most m)) y h l = record { is = omega arith; up = h; down = omega arith }

column_reads : (s home k : ℕ) (g : ℕ → ℕ → ℕ) (o : Option Fact) → MeetsFound (g home k) o → g s k < p → (b : Bool) → eqb s home ≡ b → Reads (elim b [ true ↦ seen o (g s k) | false ↦ seen None (g s k) ]) (whole (g s k))
column_reads s home k g o h l true q = seen_reads o _ (subst (λ z. MeetsFound (g z k) o) (sym (eqb-true _ _ q)) h) l
column_reads s home k g o h l false q = seen_reads None _ tt l

reads : {items : List Line} {x : Cells} {home : ℕ} {facts : ℕ → List (ℕ × Fact)} → Row items x home facts → (e : Term) → Reads (read items x home facts e) (exact items x e)
reads {items} {x} {home} {facts} row e =
    reads_at items x (column_at x home facts) (λ k. seen None (x.public k)) (λ t s k. column_reads s home k (x.column t) (found (facts t) k) (fact (facts t) _ (row.meets t) k) (row.small t s k) (eqb s home) refl) (λ k. seen_reads None _ tt (row.publics k)) (suc (length items)) 0 e

-- Facts of this row alone, and of this row and the next.
abbrev pub here : List (ℕ × Fact) → ℕ → List (ℕ × Fact)
here es zero = es
here es (suc t) = []

abbrev pub both : List (ℕ × Fact) → List (ℕ × Fact) → ℕ → List (ℕ × Fact)
both es fs zero = es
both es fs (suc zero) = fs
both es fs (suc (suc t)) = []

pub meet_here : (es : List (ℕ × Fact)) (f : ℕ → ℕ → ℕ) → AllMeet es (f 0) → (t : ℕ) → AllMeet (here es t) (f t)
meet_here es f h zero = h
meet_here es f h (suc t) = tt

pub meet_next : (es fs : List (ℕ × Fact)) (f : ℕ → ℕ → ℕ) → AllMeet es (f 0) → AllMeet fs (f 1) → (t : ℕ) → AllMeet (both es fs t) (f t)
meet_next es fs f h k zero = h
meet_next es fs f h k (suc zero) = k
meet_next es fs f h k (suc (suc t)) = tt

-- one more list of facts of this row
pub knowing : {items : List Line} {x : Cells} {home : ℕ} {fs : List (ℕ × Fact)} (es : List (ℕ × Fact)) → AllMeet es (x.column 0 home) → Row items x home (here fs) → Row items x home (here (es ++ fs))
knowing {x = x} {home = home} {fs = fs} es h row = record { meets = meet_here (es ++ fs) (λ t. x.column t home) (meet_both es fs _ h (row.meets 0)); small = row.small; publics = row.publics }

-- row r of instance i of the namespace `home`, of which these facts are known
pub row_at : (items : List Line) (ns : List Namespace) (c : Columns) (home i r : ℕ) (fs : List (ℕ × Fact)) → ((s i k r : ℕ) → c.at s i k r < p) → AllMeet fs (λ k. c.at home i k r) → Row items (around ns c home i r) home (here fs)
row_at items ns c home i r fs small h = record { meets = meet_here fs (λ t k. c.at home i k (ahead (c.rows home) r t)) h; small = λ t s k. small s i k _; publics = λ k. public_small ns c k small }

-- the same, where facts of the next row are known too
pub rows_at : (items : List Line) (ns : List Namespace) (c : Columns) (home i r : ℕ) (es fs : List (ℕ × Fact)) → ((s i k r : ℕ) → c.at s i k r < p) → AllMeet es (λ k. c.at home i k r) → AllMeet fs (λ k. c.at home i k (row_after (c.rows home) r)) → Row items (around ns c home i r) home (both es fs)
rows_at items ns c home i r es fs small h k =
    record { meets = meet_next es fs (λ t k. c.at home i k (ahead (c.rows home) r t)) h k; small = λ t s k. small s i k _; publics = λ k. public_small ns c k small }

abbrev pub left_term : Line → Term
left_term (identity s a b) = a
left_term _ = num 0

abbrev pub right_term : Line → Term
right_term (identity s a b) = b
right_term _ = num 0

-- The two sides, in whole numbers: what is taken away on one side is added on the other.
abbrev pub left : Both → Both → Amount
left a b = plus a.up b.down

abbrev pub right : Both → Both → Amount
right a b = plus a.down b.up

-- neither side can come up to p
abbrev pub stays_below : List Line → Cells → ℕ → (ℕ → List (ℕ × Fact)) → Line → Bool
stays_below items x home facts l =
    let a = read items x home facts (left_term l) in
    let b = read items x home facts (right_term l) in
    ltb (top (left a b)) p && ltb (top (right a b)) p

-- the sides of a line are equal as they are read
abbrev pub Equal : List Line → Cells → ℕ → (ℕ → List (ℕ × Fact)) → Line → Type 0
Equal items x home facts l =
    let a = read items x home facts (left_term l) in
    let b = read items x home facts (right_term l) in
    mean (left a b) ≡ mean (right a b)

sides_same : (u v : ℕ) (a b : Both) (x y : Whole) → IsMod u x → IsMod v y → Reads a x → Reads b y → u ≡ v → Same (mean (left a b)) (mean (right a b))
sides_same u v a b x y s t h k e = record { j = s.k + t.j; k = s.j + t.k; is = omega (arith, s.is, t.is, h.is, k.is, e, mean-plus a.up b.down, mean-plus a.down b.up) }

below_top : (m n q : ℕ) → m ≤ n → n < q → m < q
below_top m n q h k = omega arith

left_fair : (a b : Both) (x y : Whole) → Reads a x → Reads b y → mean (left a b) ≤ top (left a b)
left_fair a b x y h k = simp (mean-plus, top-plus) (omega (arith, h.up, k.down))

right_fair : (a b : Both) (x y : Whole) → Reads a x → Reads b y → mean (right a b) ≤ top (right a b)
right_fair a b x y h k = simp (mean-plus, top-plus) (omega (arith, h.down, k.up))

exact_sides : (a b : Both) (x y : Whole) → Reads a x → Reads b y → mean (left a b) ≡ mean (right a b) → AreOne x y
exact_sides a b x y h k e = omega (arith, h.is, k.is, e, mean-plus a.up b.down, mean-plus a.down b.up)

values_same : (u v : ℕ) (x y : Whole) → IsMod u x → IsMod v y → AreOne x y → Same u v
values_same u v x y s t e = record { j = s.j + t.k; k = s.k + t.j; is = omega (arith, s.is, t.is, e) }

read_number : (u : ℕ) (a : Both) (x : Whole) → IsMod u x → Reads a x → u < p → top a.up < p → mean a.down ≤ mean a.up → u + mean a.down ≡ mean a.up
read_number u a x s h l b d = omega (arith, s.is, h.is, h.up)

value_same : (u : ℕ) (a : Both) (x : Whole) → IsMod u x → Reads a x → Same (u + mean a.down) (mean a.up)
value_same u a x s h = record { j = s.j; k = s.k; is = omega (arith, s.is, h.is) }

sum_below : (u v m t : ℕ) → u ≤ m → v ≤ t → m + t < p → u + v < p
sum_below u v m t h k l = omega arith

none_le : (a b : ℕ) → a ≡ 0 → a ≤ b
none_le a b h = omega arith

nothing_down : (u a b : ℕ) → u + a ≡ b → a ≡ 0 → u ≡ b
nothing_down u a b h k = omega arith

-- its numbers are below p, so far as they are values by themselves
abbrev pub reduced_by : (ℕ → Bool) → Term → Bool
reduced_by m (num n) = ltb n p
reduced_by m (mid s k b) = m k
reduced_by m _ = true

abbrev pub reduced_at : List Line → ℕ → Term → Bool
reduced_at items zero e = reduced_by (λ k. true) e
reduced_at items (suc f) e = reduced_by (λ k. reduced_at items f (inter_at items k)) e

abbrev pub reduced : List Line → Term → Bool
reduced items e = reduced_at items (suc (length items)) e

module _ (v m : ℕ → ℕ → Bool → ℕ) (g : ℕ → ℕ) (q : ℕ → Bool) (hv : (s k : ℕ) (b : Bool) → v s k b < p) (hm : (s k : ℕ) (b : Bool) → q k ≡ true → m s k b < p) (hg : (k : ℕ) → g k < p) where
  small_by : (e : Term) → reduced_by q e ≡ true → value_by v m g e < p
  small_by (num n) h = ltb-true n p h
  small_by (col s k b) h = hv s k b
  small_by (mid s k b) h = hm s k b h
  small_by (public k) h = hg k
  small_by (opp a) h = below_p _
  small_by (a ⊕ b) h = below_p _
  small_by (a ⊖ b) h = below_p _
  small_by (a ⊗ b) h = below_p _

small_at : (items : List Line) (x : Cells) → ((t s k : ℕ) → x.column t s k < p) → ((k : ℕ) → x.public k < p) → (f t : ℕ) (e : Term) → reduced_at items f e ≡ true → value_at items x f t e < p
small_at items x hc hg zero t e h = small_by _ _ _ _ (λ s k b. hc (later t b) s k) (λ s k b _. lit< tt) hg e h
small_at items x hc hg (suc f) t e h = small_by _ _ _ _ (λ s k b. hc (later t b) s k) (λ s k b q. small_at items x hc hg f (later t b) (inter_at items k) q) hg e h

-- nothing is taken away
abbrev pub is_none : Amount → Bool
is_none (lit n) = eqb n 0
is_none (var y k) = false

none_is : (a : Amount) → is_none a ≡ true → mean a ≡ 0
none_is (lit n) h = eqb-true n 0 h
none_is (var y k) h = absurd (false≢true h)

-- the value can't come up to p
abbrev pub is_number : List Line → Cells → ℕ → (ℕ → List (ℕ × Fact)) → Term → Bool
is_number items x home facts e = reduced items e && ltb (top (read items x home facts e).up) p

module _ {items : List Line} {x : Cells} {home : ℕ} {facts : ℕ → List (ℕ × Fact)} (row : Row items x home facts) where
  -- A line that holds, in whole numbers.
  pub line : (l : Line) → value items x (left_term l) ≡ value items x (right_term l) → stays_below items x home facts l ≡ true → Equal items x home facts l
  line l h q =
      let a = read items x home facts (left_term l) in
      let b = read items x home facts (right_term l) in
      let ra = reads row (left_term l) in
      let rb = reads row (right_term l) in
      let s = and_parts _ _ q in
      no_wrap (sides_same _ _ a b _ _ (is_mod items x (left_term l)) (is_mod items x (right_term l)) ra rb h) (below_top _ _ _ (left_fair a b _ _ ra rb) (ltb-true _ _ s.0)) (below_top _ _ _ (right_fair a b _ _ ra rb) (ltb-true _ _ s.1))

  pub small_value : (e : Term) → reduced items e ≡ true → value items x e < p
  small_value e h = small_at items x row.small row.publics (suc (length items)) 0 e h

  -- An expression's value, if it isn't negative and can't come up to p.
  pub number : (e : Term) → is_number items x home facts e ≡ true → mean (read items x home facts e).down ≤ mean (read items x home facts e).up → value items x e + mean (read items x home facts e).down ≡ mean (read items x home facts e).up
  number e q d =
      let s = and_parts _ _ q in
      read_number _ (read items x home facts e) _ (is_mod items x e) (reads row e) (small_value e s.0) (ltb-true _ _ s.1) d

  -- An expression's value, if it is at most m, whatever is taken away.
  pub number_is : (e : Term) (m : ℕ) → value items x e ≤ m → ltb (m + top (read items x home facts e).down) p && ltb (top (read items x home facts e).up) p ≡ true → value items x e + mean (read items x home facts e).down ≡ mean (read items x home facts e).up
  number_is e m l q =
      let s = and_parts _ _ q in
      let r = reads row e in
      no_wrap (value_same _ (read items x home facts e) _ (is_mod items x e) r) (sum_below _ _ m _ l r.down (ltb-true _ _ s.0)) (below_top _ _ _ r.up (ltb-true _ _ s.1))

  -- The same where nothing is taken away.
  pub amount : (e : Term) → is_number items x home facts e && is_none (read items x home facts e).down ≡ true → value items x e ≡ mean (read items x home facts e).up
  amount e q =
      let s = and_parts _ _ q in
      let d = none_is (read items x home facts e).down s.1 in
      nothing_down _ _ _ (number e s.0 (none_le _ _ d)) d

  pub amount_le : (e : Term) → mean (read items x home facts e).up ≤ top (read items x home facts e).up
  amount_le e = (reads row e).up

  -- Where the sides are equal as they are read, the line holds, with whole numbers and modulo p.
  pub exactly : (l : Line) → Equal items x home facts l → HoldsExactly items x l
  exactly (identity s a b) e = exact_sides (read items x home facts a) (read items x home facts b) _ _ (reads row a) (reads row b) e
  exactly _ e = tt

  pub equal_values : (l : Line) → reduced items (left_term l) && reduced items (right_term l) ≡ true → Equal items x home facts l → value items x (left_term l) ≡ value items x (right_term l)
  equal_values l q e =
      let s = and_parts _ _ q in
      let one = exact_sides (read items x home facts (left_term l)) (read items x home facts (right_term l)) _ _ (reads row (left_term l)) (reads row (right_term l)) e in
      no_wrap (values_same _ _ (exact items x (left_term l)) (exact items x (right_term l)) (is_mod items x (left_term l)) (is_mod items x (right_term l)) one) (small_value (left_term l) s.0) (small_value (right_term l) s.1)

-- both sides are written out, and equal
abbrev pub plainly : Amount → Amount → Bool
plainly (lit a) (lit b) = eqb a b
plainly _ _ = false

pub plainly_is : (a b : Amount) → plainly a b ≡ true → mean a ≡ mean b
plainly_is (lit a) (lit b) h = eqb-true a b h
plainly_is (lit a) (var y k) h = absurd (false≢true h)
plainly_is (var y k) b h = absurd (false≢true h)

-- what is known shows that the line holds, or that its sides can't come up to p
abbrev pub settled : List Line → Cells → ℕ → (ℕ → List (ℕ × Fact)) → Line → Bool
settled items x home facts l =
    let a = read items x home facts (left_term l) in
    let b = read items x home facts (right_term l) in
    plainly (left a b) (right a b) || stays_below items x home facts l

abbrev pub all_settled : List Line → Cells → ℕ → (ℕ → List (ℕ × Fact)) → List Line → Bool
all_settled items x home facts [] = true
all_settled items x home facts (l ∷ ls) = settled items x home facts l && all_settled items x home facts ls

-- what a line says, as an equation
pub equation : (items : List Line) (x : Cells) (s : Tuples → List (List ℕ)) (l : Line) → Says items x s l → value items x (left_term l) ≡ value items x (right_term l)
equation items x s (identity m a b) h = h
equation items x s _ h = refl

module _ {items : List Line} {x : Cells} {home : ℕ} {facts : ℕ → List (ℕ × Fact)} (row : Row items x home facts) where
  exact_line : (l : Line) → settled items x home facts l ≡ true → value items x (left_term l) ≡ value items x (right_term l) → HoldsExactly items x l
  exact_line l q h = elim (or_cases _ _ q) [ inl z ↦ exactly row l (plainly_is (left (read items x home facts (left_term l)) (read items x home facts (right_term l))) (right (read items x home facts (left_term l)) (read items x home facts (right_term l))) z) | inr z ↦ exactly row l (line row l h z) ]

  -- No wrap: each of these lines that holds modulo p holds in whole numbers.
  pub exact_lines : (ls : List Line) → all_settled items x home facts ls ≡ true → ((k : ℕ) → value items x (left_term (item_at ls k)) ≡ value items x (right_term (item_at ls k))) → (k : ℕ) → HoldsExactly items x (item_at ls k)
  exact_lines [] q h k = refl
  exact_lines (l ∷ ls) q h zero = exact_line l (and_parts _ _ q).0 (h 0)
  exact_lines (l ∷ ls) q h (suc k) = exact_lines ls (and_parts _ _ q).1 (λ k. h (suc k)) k

  -- The same from what the lines say of the row, where `sent` gives what a list sends.
  pub exact_said : (sent : Tuples → List (List ℕ)) (ls : List Line) → all_settled items x home facts ls ≡ true → ((k : ℕ) → Says items x sent (item_at ls k)) → (k : ℕ) → HoldsExactly items x (item_at ls k)
  exact_said sent ls q h = exact_lines ls q (λ k. equation items x sent (item_at ls k) (h k))

module _ (ns : List Namespace) (c : Columns) (home i r : ℕ) (n : Namespace) (e : space_at ns home ≡ n) where
  in_space : (s : ℕ) (P : Cells → List Line → Type 0) → s ≡ home → P (around ns c s i r) (space_at ns s).items ↔ P (around ns c home i r) n.items
  in_space s P q =
      subst (λ m. P (around ns c s i r) (space_at ns s).items ↔ P (around ns c home i r) m.items) e
      (subst (λ z. P (around ns c s i r) (space_at ns s).items ↔ P (around ns c z i r) (space_at ns z).items) q ((λ h. h), (λ h. h)))

  says_iff : (l : Line) → is_over home l ≡ true → HoldsAt ns c i r l ↔ Says n.items (around ns c home i r) (sent ns c) l
  says_iff (identity s a b) q = in_space s (λ x xs. value xs x a ≡ value xs x b) (eqb-true _ _ q)
  says_iff (lookup a b) q = in_space a.space (λ x xs. Says xs x (sent ns c) (lookup a b)) (eqb-true _ _ q)
  says_iff _ q = ((λ h. tt), (λ h. tt))

  -- What the lines say of a row, for the namespace's own items, and back.
  pub all_say : (ls : List Line) → are_over home ls ≡ true → ((k : ℕ) → HoldsAt ns c i r (item_at ls k)) → (k : ℕ) → Says n.items (around ns c home i r) (sent ns c) (item_at ls k)
  all_say [] q h k = refl
  all_say (l ∷ ls) q h zero = (says_iff l (and_parts _ _ q).0).0 (h 0)
  all_say (l ∷ ls) q h (suc k) = all_say ls (and_parts _ _ q).1 (λ k. h (suc k)) k

  pub all_hold : (ls : List Line) → are_over home ls ≡ true → ((k : ℕ) → Says n.items (around ns c home i r) (sent ns c) (item_at ls k)) → (k : ℕ) → HoldsAt ns c i r (item_at ls k)
  all_hold [] q h k = refl
  all_hold (l ∷ ls) q h zero = (says_iff l (and_parts _ _ q).0).1 (h 0)
  all_hold (l ∷ ls) q h (suc k) = all_hold ls (and_parts _ _ q).1 (λ k. h (suc k)) k
