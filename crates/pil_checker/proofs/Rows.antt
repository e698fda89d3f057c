-- What numbers in a row give, one after the other.
use Rattle.std.proofs.Common.{ℕ, zero, suc, ◌+◌, ◌≡◌, List, [], ◌∷◌, ◌++◌, flat_map, add-one, sym, ap, ◌∙◌, arith}
use Rattle.std.specs.List.{range_with_len}
use Rattle.std.proofs.lemmas.List.{flat_map_more, append-nil}
use Rattle.pil_laws.proofs.Ranges.{range_split}
use Rattle.pil_ast.specs.Term.{Tuples, Namespace}
use Rattle.pil_ast.specs.Columns.{Columns}
use Rattle.pil_ast.specs.Holds.{by_rows, row_sent, sent}

range-more : (n a j : ℕ) → a + n ≡ j → range_with_len a (suc n) ≡ range_with_len a n ++ j ∷ []
range-more zero a j e = let w : a ≡ j = omega arith in ap (λ k. k ∷ []) w
range-more (suc n) a j e = ap (λ l. a ∷ l) (range-more n (a + 1) j (omega arith))

-- what one more number gives
pub rows-more : {X : Type 0} (f : ℕ → List X) (n : ℕ) (bs ts us : List X) → ts ≡ bs ++ flat_map f (range_with_len 0 n) → us ≡ ts ++ f n → us ≡ bs ++ flat_map f (range_with_len 0 (n + 1))
rows-more f n bs ts us e w =
    w ∙ ap (λ l. l ++ f n) e ∙ flat_map_more f bs (range_with_len 0 n) n ∙ ap (λ l. bs ++ flat_map f l) (sym (ap (range_with_len 0) (add-one n) ∙ range-more n 0 n (omega arith)))

-- what one more number gives, from a number on
pub side-more : {X : Type 0} (f : ℕ → List X) (a n j : ℕ) (ts us more : List X) → a + n ≡ j → ts ≡ flat_map f (range_with_len a n) → us ≡ ts ++ more → f j ≡ more → us ≡ flat_map f (range_with_len a (n + 1))
side-more f a n j ts us more at e w is =
    w ∙ ap (λ l. l ++ more) e ∙ ap (λ l. flat_map f (range_with_len a n) ++ l) (sym is ∙ ap f (sym at) ∙ sym (append-nil (f (a + n)))) ∙ sym (range_split f n a 1)

-- what all instances send
pub rows-all : (ns : List Namespace) (c : Columns) (a : Tuples) (m n : ℕ) → m ≡ c.instances a.space → n ≡ c.rows a.space → by_rows (row_sent ns c a) m n ≡ sent ns c a
unfolding sent
rows-all ns c a m n e f = ap (λ k. by_rows (row_sent ns c a) k n) e ∙ ap (by_rows (row_sent ns c a) (c.instances a.space)) f
