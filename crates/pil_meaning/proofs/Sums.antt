-- The sums, differences and products of a tree, as plain data.
use Rattle.std.proofs.Common.{◌≡◌, ◌∙◌, ap}
use Rattle.pil_syntax.specs.declared.tree.Expr as E
use Rattle.pil_syntax.specs.declared.tree.Expr.{Expr}
use Rattle.pil_syntax.specs.declared.tree.Expr.TheOpen as F
use Rattle.pil_syntax.specs.declared.tree.Expr.TheFolds.{fold-roll-Expr}
use Rattle.pil_syntax.specs.Tree.{Term, ◌⊕◌, ◌⊖◌, ◌⊗◌}
use Rattle.pil_syntax.specs.Shown.{term, term_step}

pub term_add : (e a b : Expr) → e ≡ E.Add a b → term e ≡ term a ⊕ term b
unfolding E.roll-Expr denote.Hole.Carrier.roll
term_add e a b is = ap term is ∙ fold-roll-Expr Term term_step (F.Add a b)

pub term_sub : (e a b : Expr) → e ≡ E.Sub a b → term e ≡ term a ⊖ term b
unfolding E.roll-Expr denote.Hole.Carrier.roll
term_sub e a b is = ap term is ∙ fold-roll-Expr Term term_step (F.Sub a b)

pub term_mul : (e a b : Expr) → e ≡ E.Mul a b → term e ≡ term a ⊗ term b
unfolding E.roll-Expr denote.Hole.Carrier.roll
term_mul e a b is = ap term is ∙ fold-roll-Expr Term term_step (F.Mul a b)
