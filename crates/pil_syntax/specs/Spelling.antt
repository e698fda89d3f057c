-- The tokens that spell a syntax. Names, numbers, `{` and `'` have a place; of other tokens the syntax keeps none, and it is 0 here.
use Rattle.std.specs.Prelude.{ℕ, List, [], ◌∷◌, ◌++◌, Option, Some, None}
use Rattle.pil_token.specs.declared.token.Word.{Word}
use Rattle.pil_token.specs.declared.token.Word.TheVariants.{Constant, Namespace, Pol, Commit, Public, In, Is}
use Rattle.pil_token.specs.declared.token.Mark.{Mark}
use Rattle.pil_token.specs.declared.token.Mark.TheVariants.{Percent, Equals, Semicolon, OpenParen, CloseParen, OpenBrace, CloseBrace, OpenBracket, CloseBracket, Comma, Dot, Prime, Plus, Minus, Star, Colon}
use Rattle.pil_token.specs.declared.token.Token.{Token}
use Rattle.pil_token.specs.declared.token.Token.TheVariants as tokens
use Rattle.pil_token.specs.declared.token.Placed.{Placed}
use Rattle.pil_syntax.specs.declared.tree.Ident.{Ident}
use Rattle.pil_syntax.specs.declared.tree.Number.{Number}
use Rattle.pil_syntax.specs.declared.tree.Reference.{Reference}
use Rattle.pil_syntax.specs.declared.tree.Declaration.{Declaration}
use Rattle.pil_syntax.specs.declared.tree.ColumnKind.{ColumnKind}
use Rattle.pil_syntax.specs.declared.tree.ColumnKind.TheVariants as kinds
use Rattle.pil_syntax.specs.declared.tree.Size.{Size}
use Rattle.pil_syntax.specs.declared.tree.Size.TheVariants as sizes
use Rattle.pil_syntax.specs.Tree.{Term, num, col, constant, public, opp, group, ◌⊕◌, ◌⊖◌, ◌⊗◌, Filter, every, by_col, by_group, Tuple, Sentence, constant_is, namespace_of, columns, intermediate, public_is, identity, lookup, bus}

abbrev pub mark : Mark → Placed
mark m = record { token = tokens.Mark m; at = 0 }

abbrev pub marked : Mark → ℕ → Placed
marked m i = record { token = tokens.Mark m; at = i }

abbrev pub word : Word → Placed
word w = record { token = tokens.Word w; at = 0 }

abbrev pub name : Ident → Placed
name x = record { token = tokens.Name x.name; at = x.at }

abbrev pub numeral : Number → Placed
numeral n = record { token = tokens.Number n.value; at = n.at }

-- what the syntax keeps of a token: the place of a name, a number, a `{` or a `'`
abbrev pub kept : Token → ℕ → Placed
kept (tokens.Name x) i = record { token = tokens.Name x; at = i }
kept (tokens.Number n) i = record { token = tokens.Number n; at = i }
kept (tokens.Word w) i = word w
kept (tokens.Mark OpenBrace) i = marked OpenBrace i
kept (tokens.Mark Prime) i = marked Prime i
kept (tokens.Mark m) i = mark m

abbrev pub seen : Placed → Placed
seen t = kept t.token t.at

-- [ name "." ]
abbrev pub space_tokens : Option Ident → List Placed
space_tokens None = []
space_tokens (Some x) = name x ∷ mark Dot ∷ []

-- [ "[" number "]" ]
abbrev pub index_tokens : Option Number → List Placed
index_tokens None = []
index_tokens (Some n) = mark OpenBracket ∷ numeral n ∷ mark CloseBracket ∷ []

-- [ "'" ]
abbrev pub next_tokens : Option ℕ → List Placed
next_tokens None = []
next_tokens (Some i) = marked Prime i ∷ []

-- ref = [ name "." ] name [ "[" number "]" ] [ "'" ]
abbrev pub ref_tokens : Reference → List Placed
ref_tokens r = space_tokens r.space ++ (name r.name ∷ (index_tokens r.index ++ next_tokens r.next))

-- expr = term { ("+" | "-") term }
-- term = fact { "*" fact }
-- fact = "-" fact | number | ref | "%" name | ":" name | "(" expr ")"
abbrev pub term_tokens : Term → List Placed
term_tokens (num n) = numeral n ∷ []
term_tokens (col r) = ref_tokens r
term_tokens (constant x) = mark Percent ∷ name x ∷ []
term_tokens (public x) = mark Colon ∷ name x ∷ []
term_tokens (opp f) = mark Minus ∷ term_tokens f
term_tokens (group e) = mark OpenParen ∷ (term_tokens e ++ mark CloseParen ∷ [])
term_tokens (e ⊕ t) = term_tokens e ++ mark Plus ∷ term_tokens t
term_tokens (e ⊖ t) = term_tokens e ++ mark Minus ∷ term_tokens t
term_tokens (t ⊗ f) = term_tokens t ++ mark Star ∷ term_tokens f

-- [ ref | "(" expr ")" ]
abbrev pub filter_tokens : Filter → List Placed
filter_tokens every = []
filter_tokens (by_col r) = ref_tokens r
filter_tokens (by_group e) = term_tokens (group e)

-- the tokens of each, with such a mark between
abbrev pub joined : {A : Type 0} → Mark → (A → List Placed) → List A → List Placed
joined m f [] = []
joined m f (x ∷ []) = f x
joined m f (x ∷ y ∷ xs) = f x ++ mark m ∷ joined m f (y ∷ xs)

-- list = [ ref | "(" expr ")" ] "{" expr { "," expr } "}"
abbrev pub tuple_tokens : Tuple → List Placed
tuple_tokens l = filter_tokens l.filter ++ (marked OpenBrace l.at ∷ (joined Comma term_tokens l.entries ++ mark CloseBrace ∷ []))

-- decl = name [ "[" number "]" ]
abbrev pub declaration_tokens : Declaration → List Placed
declaration_tokens d = name d.name ∷ index_tokens d.length

abbrev pub kind_word : ColumnKind → Word
kind_word kinds.Constant = Constant
kind_word kinds.Commit = Commit

-- size = number | "%" name
abbrev pub size_tokens : Size → List Placed
size_tokens (sizes.Number n) = numeral n ∷ []
size_tokens (sizes.Constant x) = mark Percent ∷ name x ∷ []

-- const = "constant" "%" name "=" number ";"
-- space = "namespace" name "(" size ")" ";" { item }
-- item  = const
--       | "pol" ("constant" | "commit") decl { "," decl } ";"
--       | "pol" name "=" expr ";"
--       | "public" name "=" ref "(" number ")" ";"
--       | expr "=" expr ";"
--       | list "in" list ";"
--       | list { "+" list } "is" list { "+" list } ";"
-- without the ";"
abbrev pub sentence_tokens : Sentence → List Placed
sentence_tokens (constant_is x n) = word Constant ∷ mark Percent ∷ name x ∷ mark Equals ∷ numeral n ∷ []
sentence_tokens (namespace_of x n) = word Namespace ∷ name x ∷ mark OpenParen ∷ (size_tokens n ++ mark CloseParen ∷ [])
sentence_tokens (columns k ds) = word Pol ∷ word (kind_word k) ∷ joined Comma declaration_tokens ds
sentence_tokens (intermediate x e) = word Pol ∷ name x ∷ mark Equals ∷ term_tokens e
sentence_tokens (public_is x r n) = word Public ∷ name x ∷ mark Equals ∷ (ref_tokens r ++ mark OpenParen ∷ numeral n ∷ mark CloseParen ∷ [])
sentence_tokens (identity a b) = term_tokens a ++ mark Equals ∷ term_tokens b
sentence_tokens (lookup a b) = tuple_tokens a ++ word In ∷ tuple_tokens b
sentence_tokens (bus a b) = joined Plus tuple_tokens a ++ word Is ∷ joined Plus tuple_tokens b

-- the tokens of a file
abbrev pub tokens_of : List Sentence → List Placed
tokens_of [] = []
tokens_of (s ∷ ss) = sentence_tokens s ++ mark Semicolon ∷ tokens_of ss
