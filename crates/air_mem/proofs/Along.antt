-- The rows of all instances of Mem as one list of rows in order.
use Rattle.std.proofs.Common.{ℕ, suc, ◌+◌, ◌*◌, ◌/◌, ◌%◌, ◌<◌, ◌≤◌, ◌≡◌, ◌≢◌, ◌⊎◌, inl, inr, cond, eqb, ◌&&◌, List, [], ◌∷◌, refl, sym, ap, subst, ◌∙◌, arith}
use Rattle.std.proofs.lemmas.Bool.{cases_lt, cases_eq}
use Rattle.std.proofs.lemmas.Bool.Decides.{nat_tests}
use Rattle.std.proofs.lemmas.Nat.{div-mul-add, mod-mul-add, div-add-mod', mul-le}
use Rattle.std.proofs.Math.Nat.{mod-lt, div-eq_of_lt, mod-eq_of_lt}
use Rattle.pil_ast.specs.Term.{Namespace}
use Rattle.pil_ast.specs.Columns.{Columns}
use Rattle.pil_ast.specs.Value.{row_after}
use Rattle.pil_laws.proofs.Lines.{row_meets}
use Rattle.pil_laws.proofs.Join.{joined}
use Rattle.machine_text.specs.Mem
use Rattle.air_mem.specs.Laws.{HasMem, MemHolds}
use Rattle.air_mem.proofs.MemRow.{column, Before, Meets, kept, one, within, first_same, before_on, same_key, later_time, greater_key, read_same, read_new}
use Rattle.air_mem.proofs.Order.{Rows, Follows, stays, begins, InOrder}

-- the place of the row after row m, where an instance has n rows
pub data Next (n m : ℕ) : Type 0 where
  inside : suc m / n ≡ m / n → suc m % n ≡ m % n + 1 → m % n + 1 < n → Next n m
  across : suc m / n ≡ m / n + 1 → suc m % n ≡ 0 → m % n + 1 ≡ n → Next n m

more_is : (m a r : ℕ) → a + r ≡ m → suc m ≡ a + (r + 1)
more_is m a r e = omega arith

whole_is : (m q n r : ℕ) → q * n + r ≡ m → r + 1 ≡ n → suc m ≡ (q + 1) * n + 0
whole_is m q n r e f = omega arith

pub next_place : (n m : ℕ) → 0 < n → Next n m
next_place n m h =
    let e = div-add-mod' m n in
    let l = mod-lt m {m = n} h in
    elim (cases_lt (m % n + 1) n) [
      | inl z ↦ (
          let s = more_is m (m / n * n) (m % n) e in
          inside (ap (λ z. z / n) s ∙ div-mul-add (m / n) n (m % n + 1) z) (ap (λ z. z % n) s ∙ mod-mul-add (m / n) n (m % n + 1) z) z)
      | inr z ↦ (
          let s = whole_is m (m / n) n (m % n) e (omega arith) in
          across (ap (λ z. z / n) s ∙ div-mul-add (m / n + 1) n 0 h) (ap (λ z. z % n) s ∙ mod-mul-add (m / n + 1) n 0 h) (omega arith))
    ]

below_all : (m n q r N : ℕ) → q * n + r ≡ m → m < N * n → N * n ≤ q * n → ⊥
below_all m n q r N e h l = omega arith

le_self : (n : ℕ) → n ≤ n
le_self n = omega arith

pub instance_of : (m n N : ℕ) → m < N * n → m / n < N
instance_of m n N h =
    elim (cases_lt (m / n) N) [ inl z ↦ z | inr z ↦ absurd (below_all m n (m / n) (m % n) N (div-add-mod' m n) h (mul-le _ _ _ _ z (le_self n))) ]

-- row r of instance i stands in the list
pub within_all : (i r m n : ℕ) → i < m → r < n → i * n + r < m * n
within_all i r m n h l = at _ (mul-le _ _ _ _ (more i m h) (le_self n)) l
  where
    more : (i m : ℕ) → i < m → i + 1 ≤ m
    more i m h = omega arith

    at : (b : ℕ) → (i + 1) * n ≤ b → r < n → i * n + r < b
    at b h l = omega arith

pub not_first : (v i r m a : ℕ) → v ≡ cond (eqb i 0 && eqb r 0) 1 0 → a + r ≡ suc m → (i ≡ 0 → a ≡ 0) → v ≡ 0
not_first v i r m a e f g = grind (arith, nat_tests)

pub is_first' : (v i r : ℕ) → v ≡ cond (eqb i 0 && eqb r 0) 1 0 → i ≡ 0 → r ≡ 0 → v ≡ 1
is_first' v i r e f g = grind (arith, nat_tests)

pub zero_times : (i n : ℕ) → i ≡ 0 → i * n ≡ 0
zero_times i n e = ap (λ z. z * n) e ∙ none n
  where
    none : (n : ℕ) → 0 * n ≡ 0
    none n = omega arith

pub row_after_is : (n r : ℕ) → r + 1 < n → row_after n r ≡ r + 1
unfolding row_after
row_after_is n r h = mod-eq_of_lt h

not_last : (v r n : ℕ) → v ≡ cond (eqb (r + 1) n) 1 0 → r + 1 < n → v ≡ 0
not_last v r n e h = grind (arith, nat_tests)

five_same : (b d e f g b' d' e' f' g' : ℕ) → b ∷ d ∷ e ∷ f ∷ g ∷ [] ≡ b' ∷ d' ∷ e' ∷ f' ∷ g' ∷ [] → (b' ≡ b) × (d' ≡ d) × (e' ≡ e) × (f' ≡ f) × (g' ≡ g)
five_same b d e f g b' d' e' f' g' h = (cc, cc, cc, cc, cc)

-- what is supposed of Mem
pub record Sound (ns : List Namespace) (c : Columns) : Type 0 where
  pub has : HasMem ns c
  pub holds : MemHolds ns c
  pub key : (i r : ℕ) → i < c.instances 7 → r < c.rows 7 → column c i r 5 ≢ 0 → column c i r 6 < 1073741824
  pub time : (i r : ℕ) → i < c.instances 7 → r < c.rows 7 → column c i r 5 ≢ 0 → column c i r 7 ≤ 34359738368
  pub wr : (i r : ℕ) → i < c.instances 7 → r < c.rows 7 → column c i r 5 ≢ 0 → column c i r 8 ≤ 1

abbrev pub rows : Columns → Rows
rows c =
    record {
      sel = λ m. column c (m / c.rows 7) (m % c.rows 7) 5;
      key = λ m. column c (m / c.rows 7) (m % c.rows 7) 6;
      time = λ m. column c (m / c.rows 7) (m % c.rows 7) 7;
      wr = λ m. column c (m / c.rows 7) (m % c.rows 7) 8;
      lo = λ m. column c (m / c.rows 7) (m % c.rows 7) 9;
      hi = λ m. column c (m / c.rows 7) (m % c.rows 7) 10;
    }

bit_cases : (a : ℕ) → a ≤ 1 → (a ≡ 0) ⊎ (a ≡ 1)
bit_cases a h = elim (cases_eq a 0) [ inl z ↦ inl z | inr z ↦ inr (omega arith) ]

pub on_is : (a : ℕ) → a ≡ 1 → a ≢ 0
on_is a e = omega arith

module _ (ns : List Namespace) (c : Columns) (x : Sound ns c) where
  abbrev many : ℕ
  many = c.instances 7 * c.rows 7

  pub some : 0 < c.rows 7
  some = let e = x.has.constants.rows in omega arith

  pub meets : (i r : ℕ) → i < c.instances 7 → r < c.rows 7 → Meets ns c i r
  meets = row_meets ns c 7 Mem.items refl x.holds

  inside_one : (i r : ℕ) → i < c.instances 7 → r + 1 < c.rows 7 → Before c i (r + 1) i r
  inside_one i r l e =
      let m = meets i r l (omega arith) in
      subst (λ z. Before c i z i r) (row_after_is (c.rows 7) r e) (kept ns c i r x.has m (not_last _ r (c.rows 7) (x.has.constants.is_last i r l (omega arith)) e))

  across_two : (i r : ℕ) → i + 1 < c.instances 7 → r + 1 ≡ c.rows 7 → Before c (i + 1) 0 i r
  across_two i r l e =
      let t = joined ns c 7 0 3 4 (Mem.sel ∷ Mem.key ∷ Mem.time ∷ Mem.lo ∷ Mem.hi ∷ []) (Mem.psel ∷ Mem.pkey ∷ Mem.ptime ∷ Mem.plo ∷ Mem.phi ∷ []) x.has.constants.joints (x.holds 27) i r l e in
      let f = five_same _ _ _ _ _ _ _ _ _ _ t in
      record { sel = f.0; key = f.1; time = f.2; lo = f.3; hi = f.4 }

  pub before_at : (m : ℕ) → suc m < many → Before c (suc m / c.rows 7) (suc m % c.rows 7) (m / c.rows 7) (m % c.rows 7)
  before_at m h = at (next_place (c.rows 7) m some)
    where
      at : Next (c.rows 7) m → Before c (suc m / c.rows 7) (suc m % c.rows 7) (m / c.rows 7) (m % c.rows 7)
      at (inside e f l) =
          let i = instance_of m (c.rows 7) (c.instances 7) (omega arith) in
          subst (λ z. Before c z (suc m % c.rows 7) (m / c.rows 7) (m % c.rows 7)) (sym e) (subst (λ z. Before c (m / c.rows 7) z (m / c.rows 7) (m % c.rows 7)) (sym f) (inside_one (m / c.rows 7) (m % c.rows 7) i l))
      at (across e f l) =
          let i = instance_of (suc m) (c.rows 7) (c.instances 7) h in
          subst (λ z. Before c z (suc m % c.rows 7) (m / c.rows 7) (m % c.rows 7)) (sym e) (subst (λ z. Before c (m / c.rows 7 + 1) z (m / c.rows 7) (m % c.rows 7)) (sym f) (across_two (m / c.rows 7) (m % c.rows 7) (omega arith) l))

  pub place_row : (m : ℕ) → m % c.rows 7 < c.rows 7
  place_row m = mod-lt m {m = c.rows 7} some

  pub place_instance : (m : ℕ) → m < many → m / c.rows 7 < c.instances 7
  place_instance m h = instance_of m (c.rows 7) (c.instances 7) h

  pub meets_at : (m : ℕ) → m < many → Meets ns c (m / c.rows 7) (m % c.rows 7)
  meets_at m h = meets _ _ (place_instance m h) (place_row m)

  pub later_row : (m : ℕ) → suc m < many → column c (suc m / c.rows 7) (suc m % c.rows 7) 2 ≡ 0
  later_row m h =
      not_first _ (suc m / c.rows 7) (suc m % c.rows 7) m (suc m / c.rows 7 * c.rows 7) (x.has.constants.is_first _ _ (place_instance (suc m) h) (place_row (suc m))) (div-add-mod' (suc m) (c.rows 7)) (zero_times _ _)

  follows : (m : ℕ) → suc m < many → (rows c).sel (suc m) ≢ 0 → (rows c).sel m ≡ 1 → Follows (rows c) m (suc m)
  follows m h n s =
      let b = before_at m h in
      let z = later_row m h in
      let r = meets_at (suc m) h in
      let i = place_instance (suc m) h in
      let l = place_row (suc m) in
      let j = place_instance m (omega arith) in
      let q = place_row m in
      let k : column c (suc m / c.rows 7) (suc m % c.rows 7) 6 < 1073741824 = x.key _ _ i l n in
      let k' : column c (m / c.rows 7) (m % c.rows 7) 6 < 1073741824 = x.key _ _ j q (on_is _ s) in
      let t : column c (suc m / c.rows 7) (suc m % c.rows 7) 7 ≤ 34359738368 = x.time _ _ i l n in
      let t' : column c (m / c.rows 7) (m % c.rows 7) 7 ≤ 34359738368 = x.time _ _ j q (on_is _ s) in
      let bk = b.key in
      let bt = b.time in
      let bl = b.lo in
      let bh = b.hi in
      elim (bit_cases _ (within ns c _ _ x.has r n 11)) [
        | inl e ↦ (
            let g = greater_key ns c _ _ x.has r n z e k (omega arith) in
            begins (omega arith) (λ w. read_new ns c _ _ x.has r n w e))
        | inr e ↦ (
            let f = same_key ns c _ _ x.has r n z e in
            let g = later_time ns c _ _ x.has r n z e t (omega arith) in
            stays (omega arith) (omega arith) (λ w. let v = read_same ns c _ _ x.has r n w e in (omega arith, omega arith)))
      ]

  pub before_sel : (m : ℕ) → suc m < many → (rows c).sel (suc m) ≢ 0 → (rows c).sel m ≡ 1
  before_sel m h n =
      let b = before_at m h in
      let bs = b.sel in
      let e = before_on ns c _ _ x.has (meets_at (suc m) h) n (later_row m h) in
      omega arith

  pub in_order : InOrder (rows c) many
  in_order =
      record {
        before = λ m h s. before_sel m h (on_is _ s);
        step = λ m h s. follows m h (on_is _ s) (before_sel m h (on_is _ s));
        start = λ h s w.
            let e = first_same ns c _ _ x.has (meets_at 0 h) (on_is _ s) (is_first' _ (0 / c.rows 7) (0 % c.rows 7) (x.has.constants.is_first _ _ (place_instance 0 h) (place_row 0)) (div-eq_of_lt some) (mod-eq_of_lt some)) in
            read_new ns c _ _ x.has (meets_at 0 h) (on_is _ s) w e;
      }

  -- each row is one of them
  pub place_of : (i r : ℕ) → i < c.instances 7 → r < c.rows 7 → (m : ℕ) × (m < many) × (m / c.rows 7 ≡ i) × (m % c.rows 7 ≡ r)
  place_of i r h l = (i * c.rows 7 + r, within_all i r (c.instances 7) (c.rows 7) h l, div-mul-add i (c.rows 7) r l, mod-mul-add i (c.rows 7) r l)

  pub bit : (m : ℕ) → m < many → (rows c).sel m ≢ 0 → (rows c).sel m ≡ 1
  bit m h n = one ns c _ _ x.has (meets_at m h) n
