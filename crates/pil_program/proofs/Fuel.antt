-- The values and marks of intermediates don't depend on the fuel, where no intermediate depends on itself.
use Rattle.std.proofs.Common.{ℕ, zero, suc, ◌≡◌, ◌<◌, ◌≤◌, Bool, false, ◌||◌, List, length, refl, ◌∙◌, ap, arith}
use Rattle.gold.specs.Field.{add_mod, sub_mod, mul_mod, neg_mod}
use Rattle.pil_ast.specs.Term.{Term, num, col, mid, public, opp, ◌⊕◌, ◌⊖◌, ◌⊗◌, Line, inter_at}
use Rattle.pil_ast.specs.Value.{Cells, later, value_by, value_at}
use Rattle.pil_ast.specs.Written.{marked_by, marked_at, marked}
use Rattle.pil_ast.specs.Sound.{Each, NamesOnly, IsRanked}
use Rattle.pil_program.proofs.Parts.{each_from, each_from_two, names_weaker}

pub marked_by-same : (m m' : ℕ → Bool) (e : Term) → NamesOnly (λ k. m k ≡ m' k) e → marked_by m e ≡ marked_by m' e
marked_by-same m m' (num n) h = refl
marked_by-same m m' (col s k b) h = refl
marked_by-same m m' (mid s k b) h = ap (λ x. b || x) h
marked_by-same m m' (public k) h = refl
marked_by-same m m' (opp a) h = marked_by-same m m' a h
marked_by-same m m' (a ⊕ b) h = ap (λ x. x || marked_by m b) (marked_by-same m m' a h.0) ∙ ap (λ x. marked_by m' a || x) (marked_by-same m m' b h.1)
marked_by-same m m' (a ⊖ b) h = ap (λ x. x || marked_by m b) (marked_by-same m m' a h.0) ∙ ap (λ x. marked_by m' a || x) (marked_by-same m m' b h.1)
marked_by-same m m' (a ⊗ b) h = ap (λ x. x || marked_by m b) (marked_by-same m m' a h.0) ∙ ap (λ x. marked_by m' a || x) (marked_by-same m m' b h.1)

-- two terms' parts read alike
abbrev pub ReadsAlike : (ℕ → ℕ → Bool → ℕ) → (ℕ → ℕ → Bool → ℕ) → (ℕ → ℕ → Bool → ℕ) → (ℕ → ℕ → Bool → ℕ) → (ℕ → ℕ) → (ℕ → ℕ) → Term → Type 0
ReadsAlike v v' m m' g g' e = Each (λ n. Unit {0}) (λ s k b. v s k b ≡ v' s k b) (λ s k b. m s k b ≡ m' s k b) (λ k. g k ≡ g' k) e

pub value_by-same : (v v' m m' : ℕ → ℕ → Bool → ℕ) (g g' : ℕ → ℕ) (e : Term) → ReadsAlike v v' m m' g g' e → value_by v m g e ≡ value_by v' m' g' e
value_by-same v v' m m' g g' (num n) h = refl
value_by-same v v' m m' g g' (col s k b) h = h
value_by-same v v' m m' g g' (mid s k b) h = h
value_by-same v v' m m' g g' (public k) h = h
value_by-same v v' m m' g g' (opp a) h = ap neg_mod (value_by-same v v' m m' g g' a h)
value_by-same v v' m m' g g' (a ⊕ b) h =
    ap (λ x. add_mod x (value_by v m g b)) (value_by-same v v' m m' g g' a h.0) ∙ ap (λ x. add_mod (value_by v' m' g' a) x) (value_by-same v v' m m' g g' b h.1)
value_by-same v v' m m' g g' (a ⊖ b) h =
    ap (λ x. sub_mod x (value_by v m g b)) (value_by-same v v' m m' g g' a h.0) ∙ ap (λ x. sub_mod (value_by v' m' g' a) x) (value_by-same v v' m m' g g' b h.1)
value_by-same v v' m m' g g' (a ⊗ b) h =
    ap (λ x. mul_mod x (value_by v m g b)) (value_by-same v v' m m' g g' a h.0) ∙ ap (λ x. mul_mod (value_by v' m' g' a) x) (value_by-same v v' m m' g g' b h.1)

-- what each intermediate names ranks below it
lower : (items : List Line) (rank : ℕ → ℕ) (k f : ℕ) → IsRanked items rank → rank k ≤ f → NamesOnly (λ j. rank j < f) (inter_at items k)
lower items rank k f ranked below = names_weaker (λ j. rank j < rank k) (λ j. rank j < f) (λ j l. omega arith) (inter_at items k) (ranked.falling k)

pub marked_at-same : (items : List Line) (rank : ℕ → ℕ) (f g : ℕ) (e : Term) → IsRanked items rank → NamesOnly (λ k. rank k < f) e → NamesOnly (λ k. rank k < g) e → marked_at items f e ≡ marked_at items g e
marked_at-same items rank zero zero e ranked a b = refl
marked_at-same items rank zero (suc g) e ranked a b =
    marked_by-same (λ k. false) (λ k. marked_at items g (inter_at items k)) e (names_weaker (λ k. rank k < zero) (λ k. false ≡ marked_at items g (inter_at items k)) (λ k l. absurd (omega arith)) e a)
marked_at-same items rank (suc f) zero e ranked a b =
    marked_by-same (λ k. marked_at items f (inter_at items k)) (λ k. false) e (names_weaker (λ k. rank k < zero) (λ k. marked_at items f (inter_at items k) ≡ false) (λ k l. absurd (omega arith)) e b)
marked_at-same items rank (suc f) (suc g) e ranked a b =
    marked_by-same (λ k. marked_at items f (inter_at items k)) (λ k. marked_at items g (inter_at items k)) e
    (each_from_two (λ n. Unit {0}) (λ n. Unit {0}) (λ n. Unit {0}) (λ s k b. Unit {0}) (λ s k b. Unit {0}) (λ s k b. Unit {0})
    (λ s k b. rank k < suc f) (λ s k b. rank k < suc g) (λ s k b. marked_at items f (inter_at items k) ≡ marked_at items g (inter_at items k))
    (λ k. Unit {0}) (λ k. Unit {0}) (λ k. Unit {0}) (λ n x y. x) (λ s k b x y. x)
    (λ s k b x y. marked_at-same items rank f g (inter_at items k) ranked (lower items rank k f ranked (omega arith)) (lower items rank k g ranked (omega arith)))
    (λ k x y. x) e a b)

pub value_at-same : (items : List Line) (rank : ℕ → ℕ) (x : Cells) (f g t : ℕ) (e : Term) → IsRanked items rank → NamesOnly (λ k. rank k < f) e → NamesOnly (λ k. rank k < g) e → value_at items x f t e ≡ value_at items x g t e
value_at-same items rank x zero zero t e ranked a b = refl
value_at-same items rank x zero (suc g) t e ranked a b =
    value_by-same _ _ _ _ _ _ e
    (each_from (λ n. Unit {0}) (λ n. Unit {0}) (λ s k b. Unit {0}) (λ s k b. x.column (later t b) s k ≡ x.column (later t b) s k) (λ s k b. rank k < zero) (λ s k b. 0 ≡ value_at items x g (later t b) (inter_at items k)) (λ k. Unit {0}) (λ k. x.public k ≡ x.public k)
    (λ n w. w) (λ s k b w. refl) (λ s k b l. absurd (omega arith)) (λ k w. refl) e a)
value_at-same items rank x (suc f) zero t e ranked a b =
    value_by-same _ _ _ _ _ _ e
    (each_from (λ n. Unit {0}) (λ n. Unit {0}) (λ s k b. Unit {0}) (λ s k b. x.column (later t b) s k ≡ x.column (later t b) s k) (λ s k b. rank k < zero) (λ s k b. value_at items x f (later t b) (inter_at items k) ≡ 0) (λ k. Unit {0}) (λ k. x.public k ≡ x.public k)
    (λ n w. w) (λ s k b w. refl) (λ s k b l. absurd (omega arith)) (λ k w. refl) e b)
value_at-same items rank x (suc f) (suc g) t e ranked a b =
    value_by-same _ _ _ _ _ _ e
    (each_from_two (λ n. Unit {0}) (λ n. Unit {0}) (λ n. Unit {0}) (λ s k b. Unit {0}) (λ s k b. Unit {0}) (λ s k b. x.column (later t b) s k ≡ x.column (later t b) s k)
    (λ s k b. rank k < suc f) (λ s k b. rank k < suc g) (λ s k b. value_at items x f (later t b) (inter_at items k) ≡ value_at items x g (later t b) (inter_at items k))
    (λ k. Unit {0}) (λ k. Unit {0}) (λ k. x.public k ≡ x.public k) (λ n w z. w) (λ s k b w z. refl)
    (λ s k b w z. value_at-same items rank x f g (later t b) (inter_at items k) ranked (lower items rank k f ranked (omega arith)) (lower items rank k g ranked (omega arith)))
    (λ k w z. refl) e a b)

-- the value of the intermediate k, t rows further on
abbrev pub inter_value : List Line → Cells → ℕ → ℕ → ℕ
inter_value items x t k = value_at items x (length items) t (inter_at items k)

pub inter_value-is : (items : List Line) (rank : ℕ → ℕ) (x : Cells) (t k : ℕ) → IsRanked items rank → inter_value items x t k ≡ value_at items x (suc (length items)) t (inter_at items k)
inter_value-is items rank x t k ranked =
    value_at-same items rank x (length items) (suc (length items)) t (inter_at items k) ranked
    (lower items rank k (length items) ranked (ranked.bounded k))
    (lower items rank k (suc (length items)) ranked (let b : rank k ≤ length items = ranked.bounded k in omega arith))

-- whether the intermediate k has a mark when it is written out
pub inter_mark-is : (items : List Line) (rank : ℕ → ℕ) (k : ℕ) → IsRanked items rank → marked_at items (length items) (inter_at items k) ≡ marked items (inter_at items k)
inter_mark-is items rank k ranked =
    marked_at-same items rank (length items) (suc (length items)) (inter_at items k) ranked
    (lower items rank k (length items) ranked (ranked.bounded k))
    (lower items rank k (suc (length items)) ranked (let b : rank k ≤ length items = ranked.bounded k in omega arith))
