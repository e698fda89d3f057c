-- How statements are laid out: each on a line of its own, ended by `;` and a line feed; numbers in decimal; one
-- space around `=`, `+`, `-`, `*`, `in` and `is`, behind each comma and behind a selector, and none inside
-- braces or behind a prefix minus.
use Rattle.std.specs.Prelude.{ℕ, List, [], ◌∷◌, ◌++◌, flat_map, Option, Some, None, codes, decimal}
use Rattle.pil_syntax.specs.declared.tree.Ident.{Ident}
use Rattle.pil_syntax.specs.declared.tree.Number.{Number}
use Rattle.pil_syntax.specs.declared.tree.Reference.{Reference}
use Rattle.pil_syntax.specs.declared.tree.Declaration.{Declaration}
use Rattle.pil_syntax.specs.declared.tree.ColumnKind.{ColumnKind}
use Rattle.pil_syntax.specs.declared.tree.ColumnKind.TheVariants as kinds
use Rattle.pil_syntax.specs.declared.tree.Size.{Size}
use Rattle.pil_syntax.specs.declared.tree.Size.TheVariants as sizes
use Rattle.pil_syntax.specs.Tree.{Term, num, col, constant, public, opp, group, ◌⊕◌, ◌⊖◌, ◌⊗◌, Filter, every, by_col, by_group, Tuple, Sentence, constant_is, namespace_of, columns, intermediate, public_is, identity, lookup, bus}
use Rattle.pil_ast.specs.Term.{Namespace}
use Rattle.pil_print.specs.Statements.{sentences_of}

abbrev pub space_text : Option Ident → List ℕ
space_text None = []
space_text (Some x) = x.name ++ codes "."

abbrev pub index_text : Option Number → List ℕ
index_text None = []
index_text (Some n) = codes "[" ++ (decimal n.value ++ codes "]")

abbrev pub next_text : Option ℕ → List ℕ
next_text None = []
next_text (Some i) = codes "'"

-- A.x[2]'
abbrev pub reference_text : Reference → List ℕ
reference_text r = space_text r.space ++ (r.name.name ++ (index_text r.index ++ next_text r.next))

abbrev pub term_text : Term → List ℕ
term_text (num n) = decimal n.value
term_text (col r) = reference_text r
term_text (constant x) = codes "%" ++ x.name
term_text (public x) = codes ":" ++ x.name
term_text (opp f) = codes "-" ++ term_text f
term_text (group e) = codes "(" ++ (term_text e ++ codes ")")
term_text (e ⊕ t) = term_text e ++ (codes " + " ++ term_text t)
term_text (e ⊖ t) = term_text e ++ (codes " - " ++ term_text t)
term_text (t ⊗ f) = term_text t ++ (codes " * " ++ term_text f)

abbrev pub filter_text : Filter → List ℕ
filter_text every = []
filter_text (by_col r) = reference_text r ++ codes " "
filter_text (by_group e) = codes "(" ++ (term_text e ++ codes ") ")

-- the texts of all, with this between
abbrev pub separated : {A : Type 0} → List ℕ → (A → List ℕ) → List A → List ℕ
separated between f [] = []
separated between f (x ∷ []) = f x
separated between f (x ∷ y ∷ xs) = f x ++ (between ++ separated between f (y ∷ xs))

-- (A.s - 1) {A.x, A.y}
abbrev pub tuple_text : Tuple → List ℕ
tuple_text l = filter_text l.filter ++ (codes "{" ++ (separated (codes ", ") term_text l.entries ++ codes "}"))

-- y[3]
abbrev pub declaration_text : Declaration → List ℕ
declaration_text d = d.name.name ++ index_text d.length

abbrev pub kind_text : ColumnKind → List ℕ
kind_text kinds.Constant = codes "constant "
kind_text kinds.Commit = codes "commit "

abbrev pub size_text : Size → List ℕ
size_text (sizes.Number n) = decimal n.value
size_text (sizes.Constant x) = codes "%" ++ x.name

-- a statement without its `;`
abbrev pub sentence_text : Sentence → List ℕ
sentence_text (constant_is x n) = codes "constant %" ++ (x.name ++ (codes " = " ++ decimal n.value))
sentence_text (namespace_of x n) = codes "namespace " ++ (x.name ++ (codes "(" ++ (size_text n ++ codes ")")))
sentence_text (columns k ds) = codes "pol " ++ (kind_text k ++ separated (codes ", ") declaration_text ds)
sentence_text (intermediate x e) = codes "pol " ++ (x.name ++ (codes " = " ++ term_text e))
sentence_text (public_is x r n) = codes "public " ++ (x.name ++ (codes " = " ++ (reference_text r ++ (codes "(" ++ (decimal n.value ++ codes ")")))))
sentence_text (identity a b) = term_text a ++ (codes " = " ++ term_text b)
sentence_text (lookup a b) = tuple_text a ++ (codes " in " ++ tuple_text b)
sentence_text (bus ls rs) = separated (codes " + ") tuple_text ls ++ (codes " is " ++ separated (codes " + ") tuple_text rs)

abbrev pub line_text : Sentence → List ℕ
line_text s = sentence_text s ++ codes ";\n"

abbrev pub text_of : List Sentence → List ℕ
text_of ss = flat_map line_text ss

-- the printed text
abbrev pub printed : List Namespace → List ℕ
printed ns = text_of (sentences_of ns)
