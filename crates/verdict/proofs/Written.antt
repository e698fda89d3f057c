-- Lists that are written element by element.
use Rattle.std.proofs.Common.{ℕ, ◌≡◌, ◌+◌, List, [], ◌∷◌, ◌++◌, All, map, sym, ap, subst, ◌∙◌, arith}
use Rattle.std.specs.List.{range_with_len}
use Rattle.std.proofs.lemmas.List.Elements.{All-append, All-cons, All-nil}
use Rattle.std.proofs.lemmas.List.FromFn.{map-range_with_len_more}

plain : (n : ℕ) → 0 + n ≡ n
plain n = omega arith

pub map_more : {X : Type 0} (f : ℕ → X) (old new : List X) (n : ℕ) (x : X) → old ≡ map f (range_with_len 0 n) → new ≡ old ++ x ∷ [] → x ≡ f n → new ≡ map f (range_with_len 0 (n + 1))
map_more f old new n x e h is = h ∙ ap (λ y. old ++ y ∷ []) is ∙ ap (λ xs. xs ++ f n ∷ []) e ∙ sym (map-range_with_len_more f 0 n n (plain n))

pub all_more : {X : Type 0} (P : X → Type 0) (old new : List X) (x : X) → All P old → new ≡ old ++ x ∷ [] → P x → All P new
all_more P old new x h e one = subst (All P) (sym e) (All-append P old (x ∷ []) h (All-cons P x [] one (All-nil P)))
