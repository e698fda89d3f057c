-- The program's tree as plain data.
use Rattle.std.specs.Prelude.{List, map, option_map}
use Rattle.pil_ast.specs.declared.tree.Expr.{Expr}
use Rattle.pil_ast.specs.declared.tree.Expr.TheOpen.{Expr-F, Number, Column, Inter, Public, Neg, Add, Sub, Mul}
use Rattle.pil_ast.specs.declared.tree.Expr.TheFolds.{fold-Expr}
use Rattle.pil_ast.specs.declared.tree.List as L
use Rattle.pil_ast.specs.declared.tree.Space.{Space}
use Rattle.pil_ast.specs.declared.tree.Pil.{Pil}
use Rattle.pil_ast.specs.declared.tree.Item.{Item}
use Rattle.pil_ast.specs.declared.tree.Item.TheVariants.{Constant, Commit, Inter as Inter', Public as Public', Identity, Lookup, Bus}
use Rattle.pil_ast.specs.Term.{Term, num, col, mid, public, opp, ◌⊕◌, ◌⊖◌, ◌⊗◌, Tuples, Line, constant, commit, inter, published, identity, lookup, bus, Namespace}

abbrev pub term_step : Expr-F Term → Term
term_step (Number n) = num n
term_step (Column s k b) = col s k b
term_step (Inter s k b) = mid s k b
term_step (Public k) = public k
term_step (Neg a) = opp a
term_step (Add a b) = a ⊕ b
term_step (Sub a b) = a ⊖ b
term_step (Mul a b) = a ⊗ b

-- an expression
abbrev pub term : Expr → Term
term = fold-Expr Term term_step

-- a list with its selector
abbrev pub tuples : L.List → Tuples
tuples l = record { space = l.space; sel = option_map term l.sel; terms = map term l.exprs }

-- an item
abbrev pub line : Item → Line
line (Constant n l) = constant n l
line (Commit n l) = commit n l
line (Inter' n e) = inter n (term e)
line (Public' n s k r) = published n s k r
line (Identity s a b) = identity s (term a) (term b)
line (Lookup a b) = lookup (tuples a) (tuples b)
line (Bus a b) = bus (map tuples a) (map tuples b)

-- a namespace
abbrev pub namespace : Space → Namespace
namespace s = record { name = s.name; rows = s.rows; items = map line s.items }

-- a text
abbrev pub namespaces : Pil → List Namespace
namespaces pil = map namespace pil.spaces
