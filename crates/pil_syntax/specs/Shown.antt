-- The plain data that a syntax tree stands for.
use Rattle.std.specs.Prelude.{List, map}
use Rattle.pil_syntax.specs.declared.tree.Expr.{Expr}
use Rattle.pil_syntax.specs.declared.tree.Expr.TheOpen.{Expr-F, Number, Column, Constant, Public, Neg, Group, Add, Sub, Mul}
use Rattle.pil_syntax.specs.declared.tree.Expr.TheFolds.{fold-Expr}
use Rattle.pil_syntax.specs.declared.tree.Selector.{Selector}
use Rattle.pil_syntax.specs.declared.tree.Selector.TheVariants as selectors
use Rattle.pil_syntax.specs.declared.tree.ExprList.{ExprList}
use Rattle.pil_syntax.specs.declared.tree.Statement.{Statement}
use Rattle.pil_syntax.specs.declared.tree.Statement.TheVariants as statements
use Rattle.pil_syntax.specs.declared.tree.Syntax.{Syntax}
use Rattle.pil_syntax.specs.Tree.{Term, num, col, constant, public, opp, group, ◌⊕◌, ◌⊖◌, ◌⊗◌, Filter, every, by_col, by_group, Tuple, Sentence, constant_is, namespace_of, columns, intermediate, public_is, identity, lookup, bus}

abbrev pub term_step : Expr-F Term → Term
term_step (Number n) = num n
term_step (Column r) = col r
term_step (Constant x) = constant x
term_step (Public x) = public x
term_step (Neg a) = opp a
term_step (Group a) = group a
term_step (Add a b) = a ⊕ b
term_step (Sub a b) = a ⊖ b
term_step (Mul a b) = a ⊗ b

abbrev pub term : Expr → Term
term = fold-Expr Term term_step

abbrev pub filter_of : Selector → Filter
filter_of selectors.Every = every
filter_of (selectors.Column r) = by_col r
filter_of (selectors.Group e) = by_group (term e)

abbrev pub tuple : ExprList → Tuple
tuple l = record { filter = filter_of l.selector; at = l.at; entries = map term l.entries }

abbrev pub sentence : Statement → Sentence
sentence (statements.Constant x n) = constant_is x n
sentence (statements.Namespace x n) = namespace_of x n
sentence (statements.Columns k ds) = columns k ds
sentence (statements.Intermediate x e) = intermediate x (term e)
sentence (statements.Public x r n) = public_is x r n
sentence (statements.Identity a b) = identity (term a) (term b)
sentence (statements.Lookup a b) = lookup (tuple a) (tuple b)
sentence (statements.Bus a b) = bus (map tuple a) (map tuple b)

-- the statements of a file
abbrev pub sentences : Syntax → List Sentence
sentences s = map sentence s.statements
