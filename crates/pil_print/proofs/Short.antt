-- A printed text has the signs that are counted of what is printed.
use Rattle.std.proofs.Common.{ℕ, suc, All, ◌<◌, ◌≡◌, ◌≤◌, ◌+◌, List, [], ◌∷◌, ◌++◌, false, cond, length, map, sum_by, Option, Some, None, refl, ◌∙◌, arith}
use Rattle.std.specs.Prelude.{flat_map}
use Rattle.std.proofs.lemmas.List.{length-map}
use Rattle.std.proofs.lemmas.List.Sums.{sum_by-cons, sum_by-append}
use Rattle.std.proofs.lemmas.List.Elements.{All-head, All-tail}
use Rattle.pil_token.specs.declared.token.Placed.{Placed}
use Rattle.pil_token.specs.declared.token.Mark.{Mark}
use Rattle.pil_token.specs.declared.token.Mark.TheVariants.{Equals, Semicolon, OpenParen, CloseParen, OpenBrace, CloseBrace, Comma, Plus, Minus, Star}
use Rattle.pil_token.specs.declared.token.Word.TheVariants as words
use Rattle.pil_syntax.specs.declared.tree.Ident.{Ident}
use Rattle.pil_syntax.specs.declared.tree.Number.{Number}
use Rattle.pil_syntax.specs.declared.tree.Reference.{Reference}
use Rattle.pil_syntax.specs.Tree.{Term, num, col, constant, public, opp, group, ◌⊕◌, ◌⊖◌, ◌⊗◌, Filter, every, by_col, by_group, Tuple, Sentence}
use Rattle.pil_syntax.specs.Spelling.{mark, marked, word, name, numeral, space_tokens, index_tokens, next_tokens, ref_tokens, term_tokens, filter_tokens, joined, tuple_tokens, sentence_tokens, tokens_of}
use Rattle.pil_ast.specs.Term as ast
use Rattle.pil_ast.specs.Term.{Namespace, Line, Tuples, space_at}
use Rattle.pil_ast.specs.Sound.{signs_of_lists, signs_of_item, signs, IsList, IsItem, IsSound}
use Rattle.pil_meaning.specs.Soundness.{is_sign, IsShort}
use Rattle.pil_print.specs.Statements.{ident, numeral as numeral_of, column_reference, expression, tuple, statement, statements_of, sentences_of}

abbrev weight : Placed → ℕ
weight t = cond (is_sign t) 1 0

abbrev total : List Placed → ℕ
total ts = sum_by weight ts

with-mark : (m : Mark) (i : ℕ) (ts : List Placed) → total (marked m i ∷ ts) ≡ weight (marked m i) + total ts
with-mark m i ts = sum_by-cons weight (marked m i) ts

index-total : (n : Option Number) → total (index_tokens n) ≡ 0
index-total None = refl
index-total (Some n) = refl

next-total : (n : Option ℕ) → total (next_tokens n) ≡ 0
next-total None = refl
next-total (Some n) = refl

space-total : (n : Option Ident) → total (space_tokens n) ≡ 0
space-total None = refl
space-total (Some n) = refl

ref-total : (r : Reference) → total (ref_tokens r) ≡ 0
ref-total r =
    omega (arith, sum_by-append weight (space_tokens r.space) (name r.name ∷ (index_tokens r.index ++ next_tokens r.next)), sum_by-cons weight (name r.name) (index_tokens r.index ++ next_tokens r.next), sum_by-append weight (index_tokens r.index) (next_tokens r.next), space-total r.space, index-total r.index, next-total r.next)

term-total : (e : Term) → total (term_tokens e) ≡ 0
term-total (num n) = refl
term-total (col r) = ref-total r
term-total (constant x) = refl
term-total (public x) = refl
term-total (opp a) = omega (arith, sum_by-cons weight (mark Minus) (term_tokens a), term-total a)
term-total (group a) = omega (arith, sum_by-cons weight (mark OpenParen) (term_tokens a ++ mark CloseParen ∷ []), sum_by-append weight (term_tokens a) (mark CloseParen ∷ []), term-total a)
term-total (a ⊕ b) = omega (arith, sum_by-append weight (term_tokens a) (mark Plus ∷ term_tokens b), sum_by-cons weight (mark Plus) (term_tokens b), term-total a, term-total b)
term-total (a ⊖ b) = omega (arith, sum_by-append weight (term_tokens a) (mark Minus ∷ term_tokens b), sum_by-cons weight (mark Minus) (term_tokens b), term-total a, term-total b)
term-total (a ⊗ b) = omega (arith, sum_by-append weight (term_tokens a) (mark Star ∷ term_tokens b), sum_by-cons weight (mark Star) (term_tokens b), term-total a, term-total b)

filter-total : (f : Filter) → total (filter_tokens f) ≡ 0
filter-total every = refl
filter-total (by_col r) = ref-total r
filter-total (by_group e) = term-total (group e)

entries-total : (es : List Term) → 1 ≤ length es → total (joined Comma term_tokens es) + 1 ≡ length es
entries-total [] l = absurd (omega arith)
entries-total (e ∷ []) l = omega (arith, term-total e)
entries-total (e ∷ f ∷ es) l =
    omega (arith, sum_by-append weight (term_tokens e) (mark Comma ∷ joined Comma term_tokens (f ∷ es)), sum_by-cons weight (mark Comma) (joined Comma term_tokens (f ∷ es)), term-total e, entries-total (f ∷ es) (omega arith))

tuple-total : (l : Tuple) → 1 ≤ length l.entries → total (tuple_tokens l) ≡ length l.entries
tuple-total l h =
    let rest : List Placed = joined Comma term_tokens l.entries ++ mark CloseBrace ∷ [] in
    omega (arith, sum_by-append weight (filter_tokens l.filter) (marked OpenBrace l.at ∷ rest), sum_by-cons weight (marked OpenBrace l.at) rest, sum_by-append weight (joined Comma term_tokens l.entries) (mark CloseBrace ∷ []), filter-total l.filter, entries-total l.entries h)

list-total : (ns : List Namespace) (wide : ℕ) (a : Tuples) → 1 ≤ wide → IsList ns wide a → total (tuple_tokens (tuple ns a)) ≡ length a.terms
list-total ns wide a l h = tuple-total (tuple ns a) (omega (arith, h.many, length-map a.terms (expression ns))) ∙ length-map a.terms (expression ns)

lists-total : (ns : List Namespace) (wide : ℕ) (ls : List Tuples) → 1 ≤ wide → All (IsList ns wide) ls → total (joined Plus tuple_tokens (map (tuple ns) ls)) ≡ signs_of_lists ls
lists-total ns wide [] l h = refl
lists-total ns wide (a ∷ []) l h = omega (arith, sum_by-cons (λ (b : Tuples). length b.terms) a [], list-total ns wide a l (All-head (IsList ns wide) a [] h))
lists-total ns wide (a ∷ b ∷ ls) l h =
    omega (arith, sum_by-append weight (tuple_tokens (tuple ns a)) (mark Plus ∷ joined Plus tuple_tokens (map (tuple ns) (b ∷ ls))), sum_by-cons weight (mark Plus) (joined Plus tuple_tokens (map (tuple ns) (b ∷ ls))), sum_by-cons (λ (c : Tuples). length c.terms) a (b ∷ ls), list-total ns wide a l (All-head (IsList ns wide) a (b ∷ ls) h), lists-total ns wide (b ∷ ls) l (All-tail (IsList ns wide) a (b ∷ ls) h))

-- an item's signs without its `;`
statement-total : (ns : List Namespace) (s : ℕ) (l : Line) → IsItem ns s l → total (sentence_tokens (statement ns l)) + 1 ≡ signs_of_item l
statement-total ns s (ast.constant x None) h = refl
statement-total ns s (ast.constant x (Some n)) h = refl
statement-total ns s (ast.commit x None) h = refl
statement-total ns s (ast.commit x (Some n)) h = refl
statement-total ns s (ast.inter x e) h =
    let ts = term_tokens (expression ns e) in
    omega (arith, sum_by-cons weight (word words.Pol) (name (ident x) ∷ mark Equals ∷ term_tokens (expression ns e)), sum_by-cons weight (name (ident x)) (mark Equals ∷ term_tokens (expression ns e)), sum_by-cons weight (mark Equals) (term_tokens (expression ns e)), term-total (expression ns e))
statement-total ns s (ast.published x m k r) h =
    let rest : List Placed = mark OpenParen ∷ numeral (numeral_of r) ∷ mark CloseParen ∷ [] in
    let ts : List Placed = ref_tokens (column_reference ns m k false) ++ rest in
    omega (arith, sum_by-cons weight (word words.Public) (name (ident x) ∷ mark Equals ∷ ts), sum_by-cons weight (name (ident x)) (mark Equals ∷ ts), sum_by-cons weight (mark Equals) ts, sum_by-append weight (ref_tokens (column_reference ns m k false)) rest, ref-total (column_reference ns m k false))
statement-total ns s (ast.identity m a b) h =
    omega (arith, sum_by-append weight (term_tokens (expression ns a)) (mark Equals ∷ term_tokens (expression ns b)), sum_by-cons weight (mark Equals) (term_tokens (expression ns b)), term-total (expression ns a), term-total (expression ns b))
statement-total ns s (ast.lookup a b) h =
    omega (arith, sum_by-append weight (tuple_tokens (tuple ns a)) (word words.In ∷ tuple_tokens (tuple ns b)), sum_by-cons weight (word words.In) (tuple_tokens (tuple ns b)), list-total ns h.0 a h.1 h.2, list-total ns h.0 b h.1 h.3)
statement-total ns s (ast.bus ls rs) h =
    omega (arith, sum_by-append weight (joined Plus tuple_tokens (map (tuple ns) ls)) (word words.Is ∷ joined Plus tuple_tokens (map (tuple ns) rs)), sum_by-cons weight (word words.Is) (joined Plus tuple_tokens (map (tuple ns) rs)), lists-total ns h.0 ls h.1 h.4, lists-total ns h.0 rs h.1 h.5)

items-total : (ns : List Namespace) (s : ℕ) (ls : List Line) (rest : List Sentence) → All (IsItem ns s) ls → total (tokens_of (map (statement ns) ls ++ rest)) ≡ sum_by signs_of_item ls + total (tokens_of rest)
items-total ns s [] rest h = omega arith
items-total ns s (x ∷ ls) rest h =
    omega (arith, sum_by-append weight (sentence_tokens (statement ns x)) (mark Semicolon ∷ tokens_of (map (statement ns) ls ++ rest)), sum_by-cons weight (mark Semicolon) (tokens_of (map (statement ns) ls ++ rest)), sum_by-cons signs_of_item x ls, statement-total ns s x (All-head (IsItem ns s) x ls h), items-total ns s ls rest (All-tail (IsItem ns s) x ls h))

abbrev space_signs : Namespace → ℕ
space_signs n = 1 + sum_by signs_of_item n.items

spaces-total : (ns ms : List Namespace) → ((j : ℕ) → j < length ms → (s : ℕ) × All (IsItem ns s) (space_at ms j).items) → total (tokens_of (flat_map (statements_of ns) ms)) ≡ signs ms
spaces-total ns [] h = refl
spaces-total ns (m ∷ ms) h =
    let first = h 0 (omega arith) in
    omega (arith, sum_by-cons space_signs m ms, items-total ns first.0 m.items (flat_map (statements_of ns) ms) first.1, spaces-total ns ms (λ j l. h (suc j) (omega arith)), named-total m.name m.rows (tokens_of (map (statement ns) m.items ++ flat_map (statements_of ns) ms)))
  where
    named-total : (x : List ℕ) (n : ℕ) (ts : List Placed) → total (word words.Namespace ∷ name (ident x) ∷ mark OpenParen ∷ numeral (numeral_of n) ∷ mark CloseParen ∷ mark Semicolon ∷ ts) ≡ 1 + total ts
    named-total x n ts =
        omega (arith, sum_by-cons weight (word words.Namespace) (name (ident x) ∷ mark OpenParen ∷ numeral (numeral_of n) ∷ mark CloseParen ∷ mark Semicolon ∷ ts), sum_by-cons weight (name (ident x)) (mark OpenParen ∷ numeral (numeral_of n) ∷ mark CloseParen ∷ mark Semicolon ∷ ts), sum_by-cons weight (mark OpenParen) (numeral (numeral_of n) ∷ mark CloseParen ∷ mark Semicolon ∷ ts), sum_by-cons weight (numeral (numeral_of n)) (mark CloseParen ∷ mark Semicolon ∷ ts), sum_by-cons weight (mark CloseParen) (mark Semicolon ∷ ts), sum_by-cons weight (mark Semicolon) ts)

pub short-again : (ns : List Namespace) → IsSound ns → IsShort (tokens_of (sentences_of ns))
short-again ns sound = omega (arith, sound.signs, spaces-total ns ns (λ j l. (j, (sound.spaces j l).items)))
