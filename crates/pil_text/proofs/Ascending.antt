-- Where each intermediate names earlier ones alone, it ranks by its number.
use Rattle.std.proofs.Common.{ℕ, zero, suc, ◌+◌, ◌<◌, ◌≤◌, ◌≡◌, List, [], ◌∷◌, length, Bool, true, false, ◌&&◌, arith, refl, subst}
use Rattle.std.specs.Prelude.{min}
use Rattle.std.proofs.lemmas.Bool.{ltb-true}
use Rattle.pil_ast.specs.Term.{Term, num, col, mid, public, opp, ◌⊕◌, ◌⊖◌, ◌⊗◌, Line, body_of, inter_at, Namespace, space_at}
use Rattle.pil_ast.specs.Sound.{NamesOnly, IsAcyclic}
use Rattle.pil_text.specs.Computed.{names_before, ascends_from, all_ascend}

pub both : (a b : Bool) → (a && b) ≡ true → (a ≡ true) × (b ≡ true)
both true b h = (refl, h)
both false b h = grind arith

names : (k m : ℕ) (e : Term) → k < m → names_before k e ≡ true → NamesOnly (λ j. min j m < min k m) e
names k m (num n) l h = tt
names k m (col s j b) l h = tt
names k m (mid s j b) l h = let below = ltb-true j k h in omega (arith, below, l)
names k m (public j) l h = tt
names k m (opp a) l h = names k m a l h
names k m (a ⊕ b) l h = let g = both (names_before k a) (names_before k b) h in (names k m a l g.0, names k m b l g.1)
names k m (a ⊖ b) l h = let g = both (names_before k a) (names_before k b) h in (names k m a l g.0, names k m b l g.1)
names k m (a ⊗ b) l h = let g = both (names_before k a) (names_before k b) h in (names k m a l g.0, names k m b l g.1)

ranks : (n m k : ℕ) (ls : List Line) → n + length ls ≤ m → ascends_from n ls ≡ true → NamesOnly (λ j. min j m < min (n + k) m) (inter_at ls k)
ranks n m k [] l h = tt
ranks n m zero (x ∷ ls) l h =
    let g = both (names_before n (body_of x)) (ascends_from (n + 1) ls) h in
    let z : n ≡ n + 0 = omega arith in
    subst (λ i. NamesOnly (λ j. min j m < min i m) (body_of x)) z (names n m (body_of x) (omega (arith, l)) g.0)
ranks n m (suc k) (x ∷ ls) l h =
    let g = both (names_before n (body_of x)) (ascends_from (n + 1) ls) h in
    let z : n + 1 + k ≡ n + suc k = omega arith in
    subst (λ i. NamesOnly (λ j. min j m < min i m) (inter_at ls k)) z (ranks (n + 1) m k ls (omega (arith, l)) g.1)

pub acyclic : (ls : List Line) → ascends_from 0 ls ≡ true → IsAcyclic ls
acyclic ls h = (λ k. min k (length ls), record { bounded = λ k. omega arith; falling = λ k. (let z : 0 + k ≡ k = omega arith in subst (λ i. NamesOnly (λ j. min j (length ls) < min i (length ls)) (inter_at ls k)) z (ranks 0 (length ls) k ls (omega arith) h)) })

pub each_acyclic : (ns : List Namespace) (s : ℕ) → all_ascend ns ≡ true → IsAcyclic (space_at ns s).items
each_acyclic [] s h = (λ k. 0, record { bounded = λ k. omega arith; falling = λ k. tt })
each_acyclic (n ∷ ns) zero h = acyclic n.items (both (ascends_from 0 n.items) (all_ascend ns) h).0
each_acyclic (n ∷ ns) (suc s) h = each_acyclic ns s (both (ascends_from 0 n.items) (all_ascend ns) h).1
