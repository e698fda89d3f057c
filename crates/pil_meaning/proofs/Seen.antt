-- What the tokens of a file give.
use Rattle.std.proofs.Common.{ℕ, ◌≡◌, ◌<◌, List, [], ◌∷◌, ◌++◌, map, sum_by, cond, Bool, All, refl, sym, ap, subst, ◌∙◌, arith}
use Rattle.std.specs.List.{flat_map}
use Rattle.std.proofs.lemmas.List.Sums.{sum_by-cons}
use Rattle.std.proofs.lemmas.List.Elements.{All-nil, All-cons, All-head, All-tail, All-append}
use Rattle.pil_token.specs.declared.token.Mark.TheVariants.{Percent, Equals, Semicolon, OpenParen, CloseParen, OpenBrace, CloseBrace, OpenBracket, CloseBracket, Comma, Dot, Prime, Plus, Minus, Star, Colon}
use Rattle.pil_token.specs.declared.token.Word.TheVariants as words
use Rattle.pil_token.specs.declared.token.Token.{Token}
use Rattle.pil_token.specs.declared.token.Token.TheVariants as tokens
use Rattle.pil_token.specs.declared.token.Placed.{Placed}
use Rattle.pil_token.specs.Spelled.{IsToken}
use Rattle.pil_syntax.specs.declared.tree.ColumnKind.{ColumnKind}
use Rattle.pil_syntax.specs.declared.tree.Declaration.{Declaration}
use Rattle.pil_syntax.specs.Tree.{Term, num, col, constant, public, opp, group, ◌⊕◌, ◌⊖◌, ◌⊗◌, Filter, every, by_col, by_group, Tuple, Sentence, constant_is, namespace_of, columns, intermediate, public_is, identity, lookup, bus}
use Rattle.pil_syntax.specs.Spelling.{kept, seen, mark, marked, word, name, numeral, term_tokens, filter_tokens, joined, tuple_tokens, sentence_tokens, tokens_of}
use Rattle.pil_names.specs.Outline.{Named, Draft, column, defined, published, equal, inside, against, Home, constants_of, drafts_of, items_before, homes_of}
use Rattle.pil_names.specs.Wrongs.{selectors_of, terms_of_list, terms_of}
use Rattle.gold.specs.Field.{p}
use Rattle.pil_meaning.specs.Soundness.{IsInField, is_sign_of, is_sign}
use Rattle.pil_meaning.specs.Given.{TokensHaveNumbers, TokensHaveSigns}
use Rattle.pil_meaning.proofs.Nothing.{all_left, all_right}

abbrev IsSmallToken : Token → Type 0
IsSmallToken (tokens.Number n) = n < p
IsSmallToken _ = Unit {0}

abbrev IsSmall : Placed → Type 0
IsSmall t = IsSmallToken t.token

-- a token that is seen is of its kind
small : (t : Token) (i : ℕ) → IsToken t → IsSmall (kept t i)
small (tokens.Name x) i h = tt
small (tokens.Number n) i h = h
small (tokens.Word w) i h = tt
small (tokens.Mark Percent) i h = tt
small (tokens.Mark Equals) i h = tt
small (tokens.Mark Semicolon) i h = tt
small (tokens.Mark OpenParen) i h = tt
small (tokens.Mark CloseParen) i h = tt
small (tokens.Mark OpenBrace) i h = tt
small (tokens.Mark CloseBrace) i h = tt
small (tokens.Mark OpenBracket) i h = tt
small (tokens.Mark CloseBracket) i h = tt
small (tokens.Mark Comma) i h = tt
small (tokens.Mark Dot) i h = tt
small (tokens.Mark Prime) i h = tt
small (tokens.Mark Plus) i h = tt
small (tokens.Mark Minus) i h = tt
small (tokens.Mark Star) i h = tt
small (tokens.Mark Colon) i h = tt

sign : (t : Token) (i : ℕ) → is_sign (kept t i) ≡ is_sign_of t
sign (tokens.Name x) i = refl
sign (tokens.Number n) i = refl
sign (tokens.Word w) i = refl
sign (tokens.Mark Percent) i = refl
sign (tokens.Mark Equals) i = refl
sign (tokens.Mark Semicolon) i = refl
sign (tokens.Mark OpenParen) i = refl
sign (tokens.Mark CloseParen) i = refl
sign (tokens.Mark OpenBrace) i = refl
sign (tokens.Mark CloseBrace) i = refl
sign (tokens.Mark OpenBracket) i = refl
sign (tokens.Mark CloseBracket) i = refl
sign (tokens.Mark Comma) i = refl
sign (tokens.Mark Dot) i = refl
sign (tokens.Mark Prime) i = refl
sign (tokens.Mark Plus) i = refl
sign (tokens.Mark Minus) i = refl
sign (tokens.Mark Star) i = refl
sign (tokens.Mark Colon) i = refl

all-small : (ts : List Placed) → All (λ t. IsToken t.token) ts → All IsSmall (map seen ts)
all-small [] a = All-nil IsSmall
all-small (t ∷ ts) a = All-cons IsSmall (seen t) (map seen ts) (small t.token t.at (All-head (λ t. IsToken t.token) t ts a)) (all-small ts (All-tail (λ t. IsToken t.token) t ts a))

abbrev of_bool : Bool → ℕ
of_bool b = cond b 1 0

abbrev weight : Placed → ℕ
weight t = of_bool (is_sign t)

all-signs : (ts : List Placed) → sum_by weight (map seen ts) ≡ sum_by weight ts
all-signs [] = refl
all-signs (t ∷ ts) = omega (arith, sum_by-cons weight (seen t) (map seen ts), sum_by-cons weight t ts, ap of_bool (sign t.token t.at), all-signs ts)

-- the numbers of expressions are those of their tokens
both : (a b : List Placed) (m : Placed) → All IsSmall (a ++ m ∷ b) → All IsSmall a × All IsSmall b
both a b m h = (all_left IsSmall a (m ∷ b) h, All-tail IsSmall m b (all_right IsSmall a (m ∷ b) h))

in_field : (e : Term) → All IsSmall (term_tokens e) → IsInField e
in_field (num n) a = All-head IsSmall (numeral n) [] a
in_field (col r) a = tt
in_field (constant x) a = tt
in_field (public x) a = tt
in_field (opp f) a = in_field f (All-tail IsSmall (mark Minus) (term_tokens f) a)
in_field (group e) a = in_field e (all_left IsSmall (term_tokens e) (mark CloseParen ∷ []) (All-tail IsSmall (mark OpenParen) (term_tokens e ++ mark CloseParen ∷ []) a))
in_field (e ⊕ t) a = let h = both (term_tokens e) (term_tokens t) (mark Plus) a in (in_field e h.0, in_field t h.1)
in_field (e ⊖ t) a = let h = both (term_tokens e) (term_tokens t) (mark Minus) a in (in_field e h.0, in_field t h.1)
in_field (t ⊗ f) a = let h = both (term_tokens t) (term_tokens f) (mark Star) a in (in_field t h.0, in_field f h.1)

entries : (es : List Term) → All IsSmall (joined Comma term_tokens es) → All IsInField es
entries [] a = All-nil IsInField
entries (e ∷ []) a = All-cons IsInField e [] (in_field e a) (All-nil IsInField)
entries (e ∷ f ∷ es) a =
    let h = both (term_tokens e) (joined Comma term_tokens (f ∷ es)) (mark Comma) a in
    All-cons IsInField e (f ∷ es) (in_field e h.0) (entries (f ∷ es) h.1)

selector : (f : Filter) → All IsSmall (filter_tokens f) → All IsInField (selectors_of f)
selector every a = All-nil IsInField
selector (by_col r) a = All-cons IsInField (col r) [] tt (All-nil IsInField)
selector (by_group e) a = All-cons IsInField e [] (in_field (group e) a) (All-nil IsInField)

tuple : (l : Tuple) → All IsSmall (tuple_tokens l) → All IsInField (terms_of_list l)
tuple l a =
    let h = both (filter_tokens l.filter) (joined Comma term_tokens l.entries ++ mark CloseBrace ∷ []) (marked OpenBrace l.at) a in
    All-append IsInField (selectors_of l.filter) l.entries (selector l.filter h.0) (entries l.entries (all_left IsSmall (joined Comma term_tokens l.entries) (mark CloseBrace ∷ []) h.1))

tuples : (ls : List Tuple) → All IsSmall (joined Plus tuple_tokens ls) → All IsInField (flat_map terms_of_list ls)
tuples [] a = All-nil IsInField
tuples (l ∷ []) a = All-append IsInField (terms_of_list l) [] (tuple l a) (All-nil IsInField)
tuples (l ∷ k ∷ ls) a =
    let h = both (tuple_tokens l) (joined Plus tuple_tokens (k ∷ ls)) (mark Plus) a in
    All-append IsInField (terms_of_list l) (flat_map terms_of_list (k ∷ ls)) (tuple l h.0) (tuples (k ∷ ls) h.1)

abbrev IsDraft : Draft → Type 0
IsDraft d = All IsInField (terms_of d)

some_columns : (k : ColumnKind) (ds : List Declaration) → All IsDraft (map (column k) ds)
some_columns k [] = All-nil IsDraft
some_columns k (d ∷ ds) = All-cons IsDraft (column k d) (map (column k) ds) (All-nil IsInField) (some_columns k ds)

one : (d : Draft) → IsDraft d → All IsDraft (d ∷ [])
one d h = All-cons IsDraft d [] h (All-nil IsDraft)

drafts : (s : Sentence) → All IsSmall (sentence_tokens s) → All IsDraft (drafts_of s)
drafts (constant_is x n) a = All-nil IsDraft
drafts (namespace_of x n) a = All-nil IsDraft
drafts (columns k ds) a = some_columns k ds
drafts (intermediate x e) a =
    let rest = All-tail IsSmall (mark Equals) (term_tokens e) (All-tail IsSmall (name x) (mark Equals ∷ term_tokens e) (All-tail IsSmall (word words.Pol) (name x ∷ mark Equals ∷ term_tokens e) a)) in
    one (defined x e) (All-cons IsInField e [] (in_field e rest) (All-nil IsInField))
drafts (public_is x r n) a = one (published x r n) (All-nil IsInField)
drafts (identity s t) a =
    let h = both (term_tokens s) (term_tokens t) (mark Equals) a in
    one (equal s t) (All-cons IsInField s (t ∷ []) (in_field s h.0) (All-cons IsInField t [] (in_field t h.1) (All-nil IsInField)))
drafts (lookup s t) a =
    let h = both (tuple_tokens s) (tuple_tokens t) (word words.In) a in
    one (inside s t) (All-append IsInField (terms_of_list s) (terms_of_list t) (tuple s h.0) (tuple t h.1))
drafts (bus ls rs) a =
    let h = both (joined Plus tuple_tokens ls) (joined Plus tuple_tokens rs) (word words.Is) a in
    one (against ls rs) (All-append IsInField (flat_map terms_of_list ls) (flat_map terms_of_list rs) (tuples ls h.0) (tuples rs h.1))

named : (s : Sentence) → All IsSmall (sentence_tokens s) → All (λ (c : Named). c.value.value < p) (constants_of s)
named (constant_is x n) a =
    let four = All-tail IsSmall (name x) (mark Equals ∷ numeral n ∷ []) (All-tail IsSmall (mark Percent) (name x ∷ mark Equals ∷ numeral n ∷ []) (All-tail IsSmall (word words.Constant) (mark Percent ∷ name x ∷ mark Equals ∷ numeral n ∷ []) a)) in
    All-cons (λ (c : Named). c.value.value < p) (record { name = x; value = n }) [] (All-head IsSmall (numeral n) [] (All-tail IsSmall (mark Equals) (numeral n ∷ []) four)) (All-nil (λ (c : Named). c.value.value < p))
named (namespace_of x n) a = All-nil (λ (c : Named). c.value.value < p)
named (columns k ds) a = All-nil (λ (c : Named). c.value.value < p)
named (intermediate x e) a = All-nil (λ (c : Named). c.value.value < p)
named (public_is x r n) a = All-nil (λ (c : Named). c.value.value < p)
named (identity s t) a = All-nil (λ (c : Named). c.value.value < p)
named (lookup s t) a = All-nil (λ (c : Named). c.value.value < p)
named (bus ls rs) a = All-nil (λ (c : Named). c.value.value < p)

first : (s : Sentence) (ss : List Sentence) → All IsSmall (tokens_of (s ∷ ss)) → All IsSmall (sentence_tokens s)
first s ss a = all_left IsSmall (sentence_tokens s) (mark Semicolon ∷ tokens_of ss) a

rest : (s : Sentence) (ss : List Sentence) → All IsSmall (tokens_of (s ∷ ss)) → All IsSmall (tokens_of ss)
rest s ss a = All-tail IsSmall (mark Semicolon) (tokens_of ss) (all_right IsSmall (sentence_tokens s) (mark Semicolon ∷ tokens_of ss) a)

constants : (ss : List Sentence) → All IsSmall (tokens_of ss) → All (λ (c : Named). c.value.value < p) (flat_map constants_of ss)
constants [] a = All-nil (λ (c : Named). c.value.value < p)
constants (s ∷ ss) a = All-append (λ (c : Named). c.value.value < p) (constants_of s) (flat_map constants_of ss) (named s (first s ss a)) (constants ss (rest s ss a))

more : (s : Sentence) (ss : List Sentence) → All IsSmall (tokens_of (s ∷ ss)) → All IsDraft (items_before ss) → All IsDraft (drafts_of s ++ items_before ss)
more s ss a b = All-append IsDraft (drafts_of s) (items_before ss) (drafts s (first s ss a)) b

before : (ss : List Sentence) → All IsSmall (tokens_of ss) → All IsDraft (items_before ss)
before [] a = All-nil IsDraft
before (constant_is x n ∷ ss) a = before ss (rest (constant_is x n) ss a)
before (namespace_of x n ∷ ss) a = All-nil IsDraft
before (columns k ds ∷ ss) a = more (columns k ds) ss a (before ss (rest (columns k ds) ss a))
before (intermediate x e ∷ ss) a = more (intermediate x e) ss a (before ss (rest (intermediate x e) ss a))
before (public_is x r n ∷ ss) a = more (public_is x r n) ss a (before ss (rest (public_is x r n) ss a))
before (identity s t ∷ ss) a = more (identity s t) ss a (before ss (rest (identity s t) ss a))
before (lookup s t ∷ ss) a = more (lookup s t) ss a (before ss (rest (lookup s t) ss a))
before (bus ls rs ∷ ss) a = more (bus ls rs) ss a (before ss (rest (bus ls rs) ss a))

abbrev IsHome : Home → Type 0
IsHome h = All IsDraft h.items

homes : (ss : List Sentence) → All IsSmall (tokens_of ss) → All IsHome (homes_of ss)
homes [] a = All-nil IsHome
homes (constant_is x n ∷ ss) a = homes ss (rest (constant_is x n) ss a)
homes (namespace_of x n ∷ ss) a =
    let r = rest (namespace_of x n) ss a in
    All-cons IsHome (record { name = x; size = n; items = items_before ss }) (homes_of ss) (before ss r) (homes ss r)
homes (columns k ds ∷ ss) a = homes ss (rest (columns k ds) ss a)
homes (intermediate x e ∷ ss) a = homes ss (rest (intermediate x e) ss a)
homes (public_is x r n ∷ ss) a = homes ss (rest (public_is x r n) ss a)
homes (identity s t ∷ ss) a = homes ss (rest (identity s t) ss a)
homes (lookup s t ∷ ss) a = homes ss (rest (lookup s t) ss a)
homes (bus ls rs ∷ ss) a = homes ss (rest (bus ls rs) ss a)

pub has_numbers : TokensHaveNumbers
has_numbers ts ss reads valid =
    let a : All IsSmall (tokens_of ss) = subst (All IsSmall) reads.spelled (all-small ts valid) in
    record { constants = constants ss a; terms = homes ss a }

pub has_signs : TokensHaveSigns
has_signs ts ss reads = ap (sum_by weight) (sym reads.spelled) ∙ all-signs ts
