-- The statements that are printed of a text: each number of a polynomial or a public is turned back into its
-- name. All places are 0.
use Rattle.std.specs.Prelude.{ℕ, ◌-◌, List, [], ◌∷◌, ◌++◌, map, flat_map, filter, Bool, true, false, Option, Some, None, option_map, nat_lt, if◌then◌else◌}
use Rattle.pil_syntax.specs.declared.tree.Ident.{Ident}
use Rattle.pil_syntax.specs.declared.tree.Number.{Number}
use Rattle.pil_syntax.specs.declared.tree.Reference.{Reference}
use Rattle.pil_syntax.specs.declared.tree.Declaration.{Declaration}
use Rattle.pil_syntax.specs.declared.tree.ColumnKind.TheVariants.{Constant, Commit}
use Rattle.pil_syntax.specs.declared.tree.Size.TheVariants as sizes
use Rattle.pil_syntax.specs.Tree.{Term, num, col, public, opp, ◌⊕◌, ◌⊖◌, ◌⊗◌, Filter, every, by_col, by_group, Tuple, Sentence, namespace_of, columns, intermediate, public_is, identity, lookup, bus}
use Rattle.pil_syntax.specs.Grammar.{expr}
use Rattle.pil_syntax.specs.Printing.{dressed}
use Rattle.pil_ast.specs.Term as ast

abbrev pub ident : List ℕ → Ident
ident x = record { name = x; at = 0 }

abbrev pub numeral : ℕ → Number
numeral n = record { value = n; at = 0 }

-- the name that an item declares
abbrev pub name_of : ast.Line → List ℕ
name_of (ast.constant x n) = x
name_of (ast.commit x n) = x
name_of (ast.inter x e) = x
name_of (ast.published x s k r) = x
name_of _ = []

abbrev pub is_constant : ast.Line → Bool
is_constant (ast.constant x n) = true
is_constant _ = false

abbrev pub is_commit : ast.Line → Bool
is_commit (ast.commit x n) = true
is_commit _ = false

abbrev pub is_public : ast.Line → Bool
is_public (ast.published x s k r) = true
is_public _ = false

-- the items that declare columns, in order of the columns' numbers: the constant ones, then the committed ones
abbrev pub declared : List ast.Line → List ast.Line
declared items = filter is_constant items ++ filter is_commit items

-- a column: the item that declares it, and its index there
pub record Spot : Type 0 where
  pub item : ast.Line
  pub index : ℕ

-- the column with number k of those that these items declare, from 0
abbrev pub spot_in : List ast.Line → ℕ → Spot
spot_in [] k = record { item = ast.item_at [] 0; index = k }
spot_in (l ∷ ls) k = if nat_lt k (ast.columns_of l) then record { item = l; index = k } else spot_in ls (k - ast.columns_of l)

-- an array's element has an index
abbrev pub index_in : ast.Line → ℕ → Option Number
index_in (ast.constant x n) i = option_map (λ m. numeral i) n
index_in (ast.commit x n) i = option_map (λ m. numeral i) n
index_in _ i = None

abbrev pub mark_of : Bool → Option ℕ
mark_of true = Some 0
mark_of false = None

-- a polynomial of the namespace s
abbrev pub reference_to : List ast.Namespace → ℕ → ast.Line → Option Number → Bool → Reference
reference_to ns s item i next = record { space = Some (ident (ast.space_at ns s).name); name = ident (name_of item); index = i; next = mark_of next }

abbrev pub reference_at : List ast.Namespace → ℕ → Spot → Bool → Reference
reference_at ns s spot next = reference_to ns s spot.item (index_in spot.item spot.index) next

-- the column k of the namespace s
abbrev pub column_reference : List ast.Namespace → ℕ → ℕ → Bool → Reference
column_reference ns s k next = reference_at ns s (spot_in (declared (ast.space_at ns s).items) k) next

-- the intermediate that is the item k of the namespace s
abbrev pub inter_reference : List ast.Namespace → ℕ → ℕ → Bool → Reference
inter_reference ns s k next = reference_to ns s (ast.item_at (ast.space_at ns s).items k) None next

-- the publics in order of the text
abbrev pub published : List ast.Namespace → List ast.Line
published ns = flat_map (λ n. filter is_public n.items) ns

-- an expression, with no parentheses
abbrev pub named : List ast.Namespace → ast.Term → Term
named ns (ast.num n) = num (numeral n)
named ns (ast.col s k next) = col (column_reference ns s k next)
named ns (ast.mid s k next) = col (inter_reference ns s k next)
named ns (ast.public k) = public (ident (name_of (ast.item_at (published ns) k)))
named ns (ast.opp a) = opp (named ns a)
named ns (ast.◌⊕◌ a b) = named ns a ⊕ named ns b
named ns (ast.◌⊖◌ a b) = named ns a ⊖ named ns b
named ns (ast.◌⊗◌ a b) = named ns a ⊗ named ns b

-- with the parentheses that it needs
abbrev pub expression : List ast.Namespace → ast.Term → Term
expression ns e = dressed expr (named ns e)

-- a selector is a reference, or is in parentheses
abbrev pub selector_of : Term → Filter
selector_of (col r) = by_col r
selector_of e = by_group e

abbrev pub selector : List ast.Namespace → Option ast.Term → Filter
selector ns None = every
selector ns (Some e) = selector_of (expression ns e)

abbrev pub tuple : List ast.Namespace → ast.Tuples → Tuple
tuple ns l = record { filter = selector ns l.sel; at = 0; entries = map (expression ns) l.terms }

abbrev pub declaration : List ℕ → Option ℕ → Declaration
declaration x n = record { name = ident x; length = option_map numeral n }

abbrev pub statement : List ast.Namespace → ast.Line → Sentence
statement ns (ast.constant x n) = columns Constant (declaration x n ∷ [])
statement ns (ast.commit x n) = columns Commit (declaration x n ∷ [])
statement ns (ast.inter x e) = intermediate (ident x) (expression ns e)
statement ns (ast.published x s k r) = public_is (ident x) (column_reference ns s k false) (numeral r)
statement ns (ast.identity s a b) = identity (expression ns a) (expression ns b)
statement ns (ast.lookup a b) = lookup (tuple ns a) (tuple ns b)
statement ns (ast.bus ls rs) = bus (map (tuple ns) ls) (map (tuple ns) rs)

abbrev pub statements_of : List ast.Namespace → ast.Namespace → List Sentence
statements_of ns n = namespace_of (ident n.name) (sizes.Number (numeral n.rows)) ∷ map (statement ns) n.items

-- the statements of a text
abbrev pub sentences_of : List ast.Namespace → List Sentence
sentences_of ns = flat_map (statements_of ns) ns
