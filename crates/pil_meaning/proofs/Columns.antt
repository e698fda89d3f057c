-- The numbers of columns as the items are gone over.
use Rattle.std.proofs.Common.{ℕ, zero, suc, ◌≡◌, ◌<◌, ◌≤◌, ◌+◌, List, [], ◌∷◌, ◌++◌, length, get_or, map, take, sum_by, Option, refl, sym, ap, ◌∙◌, arith}
use Rattle.std.specs.List.{range_with_len}
use Rattle.std.proofs.lemmas.List.Sums.{sum_by-cons}
use Rattle.std.proofs.lemmas.List.FromFn.{map-range_with_len_more}
use Rattle.pil_syntax.specs.declared.tree.ColumnKind.TheVariants.{Constant, Commit}
use Rattle.pil_names.specs.declared.outline.Draft as D
use Rattle.pil_names.specs.Outline.{Draft, draft_at}
use Rattle.pil_names.specs.Shown.{draft}
use Rattle.pil_meaning.specs.Meaning.{start_of_kind}
use Rattle.pil_meaning.specs.Firsts.{first_of, first_at}

pub sum_by-map : {X Y : Type 0} (f : Y → ℕ) (g : X → Y) (xs : List X) → sum_by f (map g xs) ≡ sum_by (λ x. f (g x)) xs
sum_by-map f g [] = refl
sum_by-map f g (x ∷ xs) = omega (arith, sum_by-cons f (g x) (map g xs), sum_by-cons (λ x. f (g x)) x xs, sum_by-map f g xs)

pub draft-here : (xs : List D.Draft) (i : ℕ) (x : D.Draft) → i < length xs → x ≡ get_or xs i x → draft_at (map draft xs) i ≡ draft x
draft-here [] i x l e = absurd (omega arith)
draft-here (y ∷ ys) zero x l e = ap draft (sym e)
draft-here (y ∷ ys) (suc i) x l e = draft-here ys i x (omega arith) e

pub sum-more : (f : Draft → ℕ) (xs : List D.Draft) (i : ℕ) (x : D.Draft) → i < length xs → x ≡ get_or xs i x → sum_by f (take (i + 1) (map draft xs)) ≡ sum_by f (take i (map draft xs)) + f (draft x)
sum-more f [] i x l e = absurd (omega arith)
sum-more f (y ∷ ys) zero x l e = omega (arith, sum_by-cons f (draft y) [], ap (λ z. f (draft z)) e)
sum-more f (y ∷ ys) (suc i) x l e =
    let one : suc i + 1 ≡ suc (i + 1) = omega arith in
    ap (λ n. sum_by f (take n (map draft (y ∷ ys)))) one
    ∙ (let all : sum_by f (take (suc (i + 1)) (map draft (y ∷ ys))) ≡ sum_by f (take (suc i) (map draft (y ∷ ys))) + f (draft x) = omega (arith, sum_by-cons f (draft y) (take (i + 1) (map draft ys)), sum_by-cons f (draft y) (take i (map draft ys)), sum-more f ys i x (omega arith) e) in all)

pub sum-within : (f : Draft → ℕ) (xs : List D.Draft) (i : ℕ) (x : D.Draft) → i < length xs → x ≡ get_or xs i x → sum_by f (take i (map draft xs)) + f (draft x) ≤ sum_by f (map draft xs)
sum-within f [] i x l e = absurd (omega arith)
sum-within f (y ∷ ys) zero x l e = omega (arith, sum_by-cons f (draft y) (map draft ys), ap (λ z. f (draft z)) e)
sum-within f (y ∷ ys) (suc i) x l e = omega (arith, sum_by-cons f (draft y) (map draft ys), sum_by-cons f (draft y) (take i (map draft ys)), sum-within f ys i x (omega arith) e)

pub firsts-more : (xs : List D.Draft) (i : ℕ) (x : D.Draft) (a b : ℕ) → i < length xs → x ≡ get_or xs i x → a ≡ start_of_kind Constant (map draft xs) i → b ≡ start_of_kind Commit (map draft xs) i
    → map (first_at (map draft xs)) (range_with_len 0 (i + 1)) ≡ map (first_at (map draft xs)) (range_with_len 0 i) ++ first_of a b (draft x) ∷ []
firsts-more xs i x a b l e p q =
    map-range_with_len_more (first_at (map draft xs)) 0 i i (omega arith)
    ∙ ap (λ (o : Option ℕ). map (first_at (map draft xs)) (range_with_len 0 i) ++ o ∷ []) (ap (first_of (start_of_kind Constant (map draft xs) i) (start_of_kind Commit (map draft xs) i)) (draft-here xs i x l e) ∙ ap (λ n. first_of n (start_of_kind Commit (map draft xs) i) (draft x)) (sym p) ∙ ap (λ n. first_of a n (draft x)) (sym q))
