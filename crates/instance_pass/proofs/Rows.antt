-- What numbers in a row give, one after the other.
use Rattle.std.proofs.Common.{ℕ, zero, suc, ◌+◌, ◌≡◌, List, [], ◌∷◌, ◌++◌, flat_map, add-one, sym, ap, ◌∙◌, arith}
use Rattle.std.specs.List.{range_with_len}
use Rattle.std.proofs.lemmas.List.{flat_map_more}

range-more : (n a j : ℕ) → a + n ≡ j → range_with_len a (suc n) ≡ range_with_len a n ++ j ∷ []
range-more zero a j e = let w : a ≡ j = omega arith in ap (λ k. k ∷ []) w
range-more (suc n) a j e = ap (λ l. a ∷ l) (range-more n (a + 1) j (omega arith))

-- what one more number gives
pub rows-more : {X : Type 0} (f : ℕ → List X) (n : ℕ) (bs ts us : List X) → ts ≡ bs ++ flat_map f (range_with_len 0 n) → us ≡ ts ++ f n → us ≡ bs ++ flat_map f (range_with_len 0 (n + 1))
rows-more f n bs ts us e w =
    w ∙ ap (λ l. l ++ f n) e ∙ flat_map_more f bs (range_with_len 0 n) n ∙ ap (λ l. bs ++ flat_map f l) (sym (ap (range_with_len 0) (add-one n) ∙ range-more n 0 n (omega arith)))
