-- What rows, instances and lists send, one after the other.
use Rattle.std.proofs.Common.{ℕ, zero, suc, ◌+◌, ◌<◌, ◌≡◌, List, [], ◌∷◌, ◌++◌, length, get_or, take, map, flat_map, add-one, sym, ap, ◌∙◌, arith}
use Rattle.std.specs.List.{range_with_len}
use Rattle.std.proofs.lemmas.List.{append-nil, flat_map_more}
use Rattle.pil_ast.specs.Term.{Namespace, Tuples}
use Rattle.pil_ast.specs.Columns.{Columns}
use Rattle.pil_ast.specs.Holds.{by_rows, row_sent, sent, all_sent}
use Rattle.pil_laws.proofs.Loops.{pieces-more}

range-more : (n a j : ℕ) → a + n ≡ j → range_with_len a (suc n) ≡ range_with_len a n ++ j ∷ []
range-more zero a j e = let w : a ≡ j = omega arith in ap (λ k. k ∷ []) w
range-more (suc n) a j e = ap (λ l. a ∷ l) (range-more n (a + 1) j (omega arith))

-- what one more row or instance gives
pub rows-more : {X : Type 0} (f : ℕ → List X) (n : ℕ) (bs ts us : List X) → ts ≡ bs ++ flat_map f (range_with_len 0 n) → us ≡ ts ++ f n → us ≡ bs ++ flat_map f (range_with_len 0 (n + 1))
rows-more f n bs ts us e w =
    w ∙ ap (λ l. l ++ f n) e ∙ flat_map_more f bs (range_with_len 0 n) n ∙ ap (λ l. bs ++ flat_map f l) (sym (ap (range_with_len 0) (add-one n) ∙ range-more n 0 n (omega arith)))

-- all rows of all instances
pub sent-whole : (ns : List Namespace) (c : Columns) (a : Tuples) (m : ℕ) (bs ts : List (List ℕ)) → m ≡ c.instances a.space → ts ≡ bs ++ by_rows (row_sent ns c a) m (c.rows a.space) → ts ≡ bs ++ sent ns c a
unfolding sent
sent-whole ns c a m bs ts e w = w ∙ ap (λ n. bs ++ by_rows (row_sent ns c a) n (c.rows a.space)) e

pub all_sent-none : (ns : List Namespace) (c : Columns) (ts : List (List ℕ)) → ts ≡ ts ++ all_sent ns c []
unfolding all_sent
all_sent-none ns c ts = sym (append-nil ts)

pub all_sent-more : {X : Type 0} (ns : List Namespace) (c : Columns) (h : X → Tuples) (xs : List X) (i : ℕ) (x : X) (bs ts us : List (List ℕ)) → i < length xs → x ≡ get_or xs i x → ts ≡ bs ++ all_sent ns c (take i (map h xs)) → us ≡ ts ++ sent ns c (h x) → us ≡ bs ++ all_sent ns c (take (i + 1) (map h xs))
unfolding all_sent
all_sent-more ns c h xs i x bs ts us l is e w = pieces-more h xs i x l is (sent ns c) bs ts us e w
