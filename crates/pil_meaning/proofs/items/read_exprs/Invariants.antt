use Rattle.std.proofs.Common.{◌≡◌, map, take}
use Rattle.pil_syntax.specs.Shown.{term as term_of}
use Rattle.pil_ast.specs.Tree.{term}
use Rattle.pil_names.specs.Shown.{outlined}
use Rattle.pil_meaning.specs.Meaning.{read_term}
use Rattle.pil_meaning.proofs.items.read_exprs.Given as goal

abbrev pub invariant-loop-expr : goal.invariant-loop-expr
invariant-loop-expr l = map term l.read ≡ map (λ e. read_term (outlined l.outline) l.home (term_of e)) (take l.expr-index l.exprs)
