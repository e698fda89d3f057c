-- The signs of a meaning are no more than those of its text.
use Rattle.std.proofs.Common.{ℕ, ◌≡◌, ◌≤◌, ◌+◌, List, [], ◌∷◌, ◌++◌, length, map, sum_by, count_by, cond, refl, arith}
use Rattle.std.proofs.lemmas.List.Sums.{sum_by-cons, sum_by-append}
use Rattle.std.proofs.lemmas.List.{length-map}
use Rattle.pil_token.specs.declared.token.Placed.{Placed}
use Rattle.pil_token.specs.declared.token.Mark.TheVariants.{Comma, Plus, Semicolon, OpenBrace, CloseBrace}
use Rattle.pil_token.specs.declared.token.Word.TheVariants as words
use Rattle.pil_syntax.specs.declared.tree.ColumnKind.{ColumnKind}
use Rattle.pil_syntax.specs.declared.tree.ColumnKind.TheVariants as kinds
use Rattle.pil_syntax.specs.declared.tree.Declaration.{Declaration}
use Rattle.pil_syntax.specs.Tree.{Tuple, Sentence, constant_is, namespace_of, columns, intermediate, public_is, identity, lookup, bus}
use Rattle.pil_syntax.specs.Spelling.{mark, marked, word, joined, term_tokens, filter_tokens, tuple_tokens, declaration_tokens, kind_word, sentence_tokens, tokens_of}
use Rattle.pil_ast.specs.Term.{Namespace}
use Rattle.pil_ast.specs.Sound.{signs_of_lists, signs_of_item, signs}
use Rattle.pil_names.specs.Outline.{Draft, column, defined, published, equal, inside, against, Home, Outline, drafts_of, items_before, homes_of, outline_of}
use Rattle.pil_meaning.specs.Meaning.{read_term, read_tuple, read_draft, read_home, read_homes, meaning}
use Rattle.pil_meaning.specs.Soundness.{is_sign}

abbrev pub weight : Placed → ℕ
weight t = cond (is_sign t) 1 0

-- an item's signs
abbrev lists_signs : List Tuple → ℕ
lists_signs ls = sum_by (λ l. length l.entries) ls

abbrev pub draft_signs : Draft → ℕ
draft_signs (inside a b) = 1 + length a.entries + length b.entries
draft_signs (against ls rs) = 1 + lists_signs ls + lists_signs rs
draft_signs _ = 1

abbrev pub home_signs : Home → ℕ
home_signs h = 1 + sum_by draft_signs h.items

-- those of a meaning
lists-read : (o : Outline) (s : ℕ) (ls : List Tuple) → signs_of_lists (map (read_tuple o s) ls) ≡ lists_signs ls
lists-read o s [] = refl
lists-read o s (l ∷ ls) =
    omega (arith, sum_by-cons (λ a. length a.terms) (read_tuple o s l) (map (read_tuple o s) ls), sum_by-cons (λ l. length l.entries) l ls, length-map l.entries (read_term o s), lists-read o s ls)

draft-read : (o : Outline) (s : ℕ) (d : Draft) → signs_of_item (read_draft o s d) ≡ draft_signs d
draft-read o s (column kinds.Constant d) = refl
draft-read o s (column kinds.Commit d) = refl
draft-read o s (defined x e) = refl
draft-read o s (published x r n) = refl
draft-read o s (equal a b) = refl
draft-read o s (inside a b) = omega (arith, length-map a.entries (read_term o s), length-map b.entries (read_term o s))
draft-read o s (against ls rs) = omega (arith, lists-read o s ls, lists-read o s rs)

drafts-read : (o : Outline) (s : ℕ) (ds : List Draft) → sum_by signs_of_item (map (read_draft o s) ds) ≡ sum_by draft_signs ds
drafts-read o s [] = refl
drafts-read o s (d ∷ ds) =
    omega (arith, sum_by-cons signs_of_item (read_draft o s d) (map (read_draft o s) ds), sum_by-cons draft_signs d ds, draft-read o s d, drafts-read o s ds)

abbrev space_signs : Namespace → ℕ
space_signs n = 1 + sum_by signs_of_item n.items

homes-read : (o : Outline) (n : ℕ) (hs : List Home) → signs (read_homes o n hs) ≡ sum_by home_signs hs
homes-read o n [] = refl
homes-read o n (h ∷ hs) =
    omega (arith, sum_by-cons space_signs (read_home o n h) (read_homes o (n + 1) hs), sum_by-cons home_signs h hs, drafts-read o n h.items, homes-read o (n + 1) hs)

-- those of a text
commas : {A : Type 0} (f : A → List Placed) (xs : List A) → length xs ≤ sum_by weight (joined Comma f xs) + 1
commas f [] = omega arith
commas f (x ∷ []) = omega arith
commas f (x ∷ y ∷ xs) =
    omega (arith, sum_by-append weight (f x) (mark Comma ∷ joined Comma f (y ∷ xs)), sum_by-cons weight (mark Comma) (joined Comma f (y ∷ xs)), commas f (y ∷ xs))

tuple-signs : (l : Tuple) → length l.entries ≤ sum_by weight (tuple_tokens l)
tuple-signs l =
    let rest : List Placed = joined Comma term_tokens l.entries ++ mark CloseBrace ∷ [] in
    omega (arith, sum_by-append weight (filter_tokens l.filter) (marked OpenBrace l.at ∷ rest), sum_by-cons weight (marked OpenBrace l.at) rest, sum_by-append weight (joined Comma term_tokens l.entries) (mark CloseBrace ∷ []), commas term_tokens l.entries)

tuples-signs : (ls : List Tuple) → lists_signs ls ≤ sum_by weight (joined Plus tuple_tokens ls)
tuples-signs [] = omega arith
tuples-signs (l ∷ []) = omega (arith, sum_by-cons (λ l. length l.entries) l [], tuple-signs l)
tuples-signs (l ∷ k ∷ ls) =
    omega (arith, sum_by-cons (λ l. length l.entries) l (k ∷ ls), tuple-signs l, sum_by-append weight (tuple_tokens l) (mark Plus ∷ joined Plus tuple_tokens (k ∷ ls)), sum_by-cons weight (mark Plus) (joined Plus tuple_tokens (k ∷ ls)), tuples-signs (k ∷ ls))

columns-signs : (k : ColumnKind) (ds : List Declaration) → sum_by draft_signs (map (column k) ds) ≡ length ds
columns-signs k [] = refl
columns-signs k (d ∷ ds) = omega (arith, sum_by-cons draft_signs (column k d) (map (column k) ds), columns-signs k ds)

two-lists : (a b : ℕ) (xs ys : List Placed) (w : Placed) → a ≤ sum_by weight xs → b ≤ sum_by weight ys → a + b ≤ sum_by weight (xs ++ w ∷ ys)
two-lists a b xs ys w h i = omega (arith, h, i, sum_by-append weight xs (w ∷ ys), sum_by-cons weight w ys)

drafts-signs : (s : Sentence) → sum_by draft_signs (drafts_of s) ≤ sum_by weight (sentence_tokens s) + 1
drafts-signs (constant_is x n) = omega arith
drafts-signs (namespace_of x n) = omega arith
drafts-signs (columns k ds) =
    let rest : List Placed = joined Comma declaration_tokens ds in
    omega (arith, columns-signs k ds, commas declaration_tokens ds, sum_by-cons weight (word words.Pol) (word (kind_word k) ∷ rest), sum_by-cons weight (word (kind_word k)) rest)
drafts-signs (intermediate x e) = omega (arith, sum_by-cons draft_signs (defined x e) [])
drafts-signs (public_is x r n) = omega (arith, sum_by-cons draft_signs (published x r n) [])
drafts-signs (identity a b) = omega (arith, sum_by-cons draft_signs (equal a b) [])
drafts-signs (lookup a b) =
    omega (arith, sum_by-cons draft_signs (inside a b) [], two-lists (length a.entries) (length b.entries) (tuple_tokens a) (tuple_tokens b) (word words.In) (tuple-signs a) (tuple-signs b))
drafts-signs (bus ls rs) =
    omega (arith, sum_by-cons draft_signs (against ls rs) [], two-lists (lists_signs ls) (lists_signs rs) (joined Plus tuple_tokens ls) (joined Plus tuple_tokens rs) (word words.Is) (tuples-signs ls) (tuples-signs rs))

pub one-more : (s : Sentence) (ss : List Sentence) → sum_by weight (tokens_of (s ∷ ss)) ≡ sum_by weight (sentence_tokens s) + 1 + sum_by weight (tokens_of ss)
one-more s ss = omega (arith, sum_by-append weight (sentence_tokens s) (mark Semicolon ∷ tokens_of ss), sum_by-cons weight (mark Semicolon) (tokens_of ss))

step : (s : Sentence) (ss : List Sentence) (n : ℕ) → n + sum_by draft_signs (items_before ss) ≤ sum_by weight (tokens_of ss) → n + sum_by draft_signs (drafts_of s ++ items_before ss) ≤ sum_by weight (tokens_of (s ∷ ss))
step s ss n h = omega (arith, h, sum_by-append draft_signs (drafts_of s) (items_before ss), drafts-signs s, one-more s ss)

pub text-signs : (ss : List Sentence) → sum_by home_signs (homes_of ss) + sum_by draft_signs (items_before ss) ≤ sum_by weight (tokens_of ss)
text-signs [] = omega arith
text-signs (constant_is x n ∷ ss) = step (constant_is x n) ss (sum_by home_signs (homes_of ss)) (text-signs ss)
text-signs (namespace_of x n ∷ ss) =
    omega (arith, sum_by-cons home_signs (record { name = x; size = n; items = items_before ss }) (homes_of ss), one-more (namespace_of x n) ss, text-signs ss)
text-signs (columns k ds ∷ ss) = step (columns k ds) ss (sum_by home_signs (homes_of ss)) (text-signs ss)
text-signs (intermediate x e ∷ ss) = step (intermediate x e) ss (sum_by home_signs (homes_of ss)) (text-signs ss)
text-signs (public_is x r n ∷ ss) = step (public_is x r n) ss (sum_by home_signs (homes_of ss)) (text-signs ss)
text-signs (identity a b ∷ ss) = step (identity a b) ss (sum_by home_signs (homes_of ss)) (text-signs ss)
text-signs (lookup a b ∷ ss) = step (lookup a b) ss (sum_by home_signs (homes_of ss)) (text-signs ss)
text-signs (bus ls rs ∷ ss) = step (bus ls rs) ss (sum_by home_signs (homes_of ss)) (text-signs ss)

pub meaning-signs : (ss : List Sentence) → signs (meaning (outline_of ss)) ≤ count_by is_sign (tokens_of ss)
meaning-signs ss = omega (arith, homes-read (outline_of ss) 0 (homes_of ss), text-signs ss)
