-- The value of an expression is that of the expression with its intermediates written out.
use Rattle.std.proofs.Common.{ℕ, zero, suc, ◌≡◌, ◌<◌, ◌≤◌, Bool, true, false, ◌||◌, List, length, refl, sym, ◌∙◌, ap, arith}
use Rattle.gold.specs.Field.{add_mod, sub_mod, mul_mod, neg_mod}
use Rattle.pil_ast.specs.Term.{Term, num, col, mid, public, opp, ◌⊕◌, ◌⊖◌, ◌⊗◌, Line, inter_at}
use Rattle.pil_ast.specs.Value.{Cells, later, value_by, value_at}
use Rattle.pil_ast.specs.Written.{IsWrittenOut, number, column, public_one, here, next, negated, sum, difference, product, IsValue, has_mark, moved, marked}
use Rattle.pil_ast.specs.Sound.{NamesOnly, IsOf, IsRanked, IsAcyclic}
use Rattle.pil_ast.proofs.Parts.{names_weaker}
use Rattle.pil_ast.proofs.Fuel.{inter_value-is, inter_mark-is}

-- the value, t rows further on, of a term that names no intermediate
abbrev plain_at : Cells → ℕ → Term → ℕ
plain_at x t w = value_by (λ s k b. x.column (later t b) s k) (λ s k b. 0) x.public w

or-false : (a b : Bool) → (a || b) ≡ false → (a ≡ false) × (b ≡ false)
or-false true b e = let n : ⊥ = cc in absurd n
or-false false b e = (refl, e)

plain-moved : (x : Cells) (t : ℕ) (w : Term) → has_mark w ≡ false → plain_at x (suc t) w ≡ plain_at x t (moved w)
plain-moved x t (num n) h = refl
plain-moved x t (col s k true) h = let n : ⊥ = cc in absurd n
plain-moved x t (col s k false) h = refl
plain-moved x t (mid s k b) h = refl
plain-moved x t (public k) h = refl
plain-moved x t (opp a) h = ap neg_mod (plain-moved x t a h)
plain-moved x t (a ⊕ b) h =
    let w = or-false (has_mark a) (has_mark b) h in
    ap (λ y. add_mod y (plain_at x (suc t) b)) (plain-moved x t a w.0) ∙ ap (add_mod (plain_at x t (moved a))) (plain-moved x t b w.1)
plain-moved x t (a ⊖ b) h =
    let w = or-false (has_mark a) (has_mark b) h in
    ap (λ y. sub_mod y (plain_at x (suc t) b)) (plain-moved x t a w.0) ∙ ap (sub_mod (plain_at x t (moved a))) (plain-moved x t b w.1)
plain-moved x t (a ⊗ b) h =
    let w = or-false (has_mark a) (has_mark b) h in
    ap (λ y. mul_mod y (plain_at x (suc t) b)) (plain-moved x t a w.0) ∙ ap (mul_mod (plain_at x t (moved a))) (plain-moved x t b w.1)

pub written-value : (items : List Line) (rank : ℕ → ℕ) (x : Cells) (t : ℕ) (e w : Term) → IsRanked items rank → IsWrittenOut items e w → value_at items x (suc (length items)) t e ≡ plain_at x t w
written-value items rank x t e w ranked (number n) = refl
written-value items rank x t e w ranked (column s k b) = refl
written-value items rank x t e w ranked (public_one k) = refl
written-value items rank x t e w ranked (here s k v d) = inter_value-is items rank x t k ranked ∙ written-value items rank x t (inter_at items k) v ranked d
written-value items rank x t e w ranked (next s k v d unmarked) =
    inter_value-is items rank x (suc t) k ranked ∙ written-value items rank x (suc t) (inter_at items k) v ranked d ∙ plain-moved x t v unmarked
written-value items rank x t e w ranked (negated a v d) = ap neg_mod (written-value items rank x t a v ranked d)
written-value items rank x t e w ranked (sum a b v u d d') =
    ap (λ y. add_mod y (value_at items x (suc (length items)) t b)) (written-value items rank x t a v ranked d) ∙ ap (add_mod (plain_at x t v)) (written-value items rank x t b u ranked d')
written-value items rank x t e w ranked (difference a b v u d d') =
    ap (λ y. sub_mod y (value_at items x (suc (length items)) t b)) (written-value items rank x t a v ranked d) ∙ ap (sub_mod (plain_at x t v)) (written-value items rank x t b u ranked d')
written-value items rank x t e w ranked (product a b v u d d') =
    ap (λ y. mul_mod y (value_at items x (suc (length items)) t b)) (written-value items rank x t a v ranked d) ∙ ap (mul_mod (plain_at x t v)) (written-value items rank x t b u ranked d')

-- what has no mark by the test has none when it is written out
pub written-unmarked : (items : List Line) (rank : ℕ → ℕ) (e w : Term) → IsRanked items rank → IsWrittenOut items e w → marked items e ≡ false → has_mark w ≡ false
written-unmarked items rank e w ranked (number n) m = refl
written-unmarked items rank e w ranked (column s k b) m = m
written-unmarked items rank e w ranked (public_one k) m = refl
written-unmarked items rank e w ranked (here s k v d) m = written-unmarked items rank (inter_at items k) v ranked d (sym (inter_mark-is items rank k ranked) ∙ m)
written-unmarked items rank e w ranked (next s k v d unmarked) m = let n : ⊥ = cc in absurd n
written-unmarked items rank e w ranked (negated a v d) m = written-unmarked items rank a v ranked d m
written-unmarked items rank e w ranked (sum a b v u d d') m =
    let o = or-false (marked items a) (marked items b) m in
    ap (λ y. y || has_mark u) (written-unmarked items rank a v ranked d o.0) ∙ written-unmarked items rank b u ranked d' o.1
written-unmarked items rank e w ranked (difference a b v u d d') m =
    let o = or-false (marked items a) (marked items b) m in
    ap (λ y. y || has_mark u) (written-unmarked items rank a v ranked d o.0) ∙ written-unmarked items rank b u ranked d' o.1
written-unmarked items rank e w ranked (product a b v u d d') m =
    let o = or-false (marked items a) (marked items b) m in
    ap (λ y. y || has_mark u) (written-unmarked items rank a v ranked d o.0) ∙ written-unmarked items rank b u ranked d' o.1

-- each term of a namespace can be written out
pub written-exists : (items : List Line) (rank : ℕ → ℕ) (m s f : ℕ) (e : Term) → IsRanked items rank → ((k : ℕ) → IsOf items m s (inter_at items k)) → IsOf items m s e → NamesOnly (λ k. rank k < f) e → (w : Term) × IsWrittenOut items e w
written-exists items rank m s f (num n) ranked all h l = (num n, number n)
written-exists items rank m s f (col n k b) ranked all h l = (col n k b, column n k b)
written-exists items rank m s f (public k) ranked all h l = (public k, public_one k)
written-exists items rank m s zero (mid n k b) ranked all h l = absurd (omega arith)
written-exists items rank m s (suc f) (mid n k false) ranked all h l =
    let v = written-exists items rank m s f (inter_at items k) ranked all (all k) (names_weaker (λ j. rank j < rank k) (λ j. rank j < f) (λ j u. omega arith) (inter_at items k) (ranked.falling k)) in
    (v.0, here n k v.0 v.1)
written-exists items rank m s (suc f) (mid n k true) ranked all h l =
    let v = written-exists items rank m s f (inter_at items k) ranked all (all k) (names_weaker (λ j. rank j < rank k) (λ j. rank j < f) (λ j u. omega arith) (inter_at items k) (ranked.falling k)) in
    (moved v.0, next n k v.0 v.1 (written-unmarked items rank (inter_at items k) v.0 ranked v.1 (h.1.2 refl)))
written-exists items rank m s f (opp a) ranked all h l = let v = written-exists items rank m s f a ranked all h l in (opp v.0, negated a v.0 v.1)
written-exists items rank m s f (a ⊕ b) ranked all h l =
    let v = written-exists items rank m s f a ranked all h.0 l.0 in
    let u = written-exists items rank m s f b ranked all h.1 l.1 in
    (v.0 ⊕ u.0, sum a b v.0 u.0 v.1 u.1)
written-exists items rank m s f (a ⊖ b) ranked all h l =
    let v = written-exists items rank m s f a ranked all h.0 l.0 in
    let u = written-exists items rank m s f b ranked all h.1 l.1 in
    (v.0 ⊖ u.0, difference a b v.0 u.0 v.1 u.1)
written-exists items rank m s f (a ⊗ b) ranked all h l =
    let v = written-exists items rank m s f a ranked all h.0 l.0 in
    let u = written-exists items rank m s f b ranked all h.1 l.1 in
    (v.0 ⊗ u.0, product a b v.0 u.0 v.1 u.1)

-- every name in a term ranks below a bound
names-bounded : (items : List Line) (rank : ℕ → ℕ) (e : Term) → IsRanked items rank → NamesOnly (λ k. rank k < suc (length items)) e
names-bounded items rank (num n) ranked = tt
names-bounded items rank (col s k b) ranked = tt
names-bounded items rank (mid s k b) ranked = let l : rank k ≤ length items = ranked.bounded k in omega arith
names-bounded items rank (public k) ranked = tt
names-bounded items rank (opp a) ranked = names-bounded items rank a ranked
names-bounded items rank (a ⊕ b) ranked = (names-bounded items rank a ranked, names-bounded items rank b ranked)
names-bounded items rank (a ⊖ b) ranked = (names-bounded items rank a ranked, names-bounded items rank b ranked)
names-bounded items rank (a ⊗ b) ranked = (names-bounded items rank a ranked, names-bounded items rank b ranked)

-- the value is that of the term with its intermediates written out
pub is_value : (items : List Line) (m s : ℕ) (x : Cells) (e : Term) (v : ℕ) → IsAcyclic items → ((k : ℕ) → IsOf items m s (inter_at items k)) → IsOf items m s e → v ≡ value_at items x (suc (length items)) 0 e → IsValue items x e v
is_value items m s x e v acyclic all h is =
    let w = written-exists items acyclic.0 m s (suc (length items)) e acyclic.1 all h (names-bounded items acyclic.0 e acyclic.1) in
    (w.0, w.1, is ∙ written-value items acyclic.0 x 0 e w.0 acyclic.1 w.1)
