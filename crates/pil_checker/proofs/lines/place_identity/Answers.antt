use Rattle.std.proofs.Common.{refl}
use Rattle.pil_ast.specs.Tree.{namespaces, term}
use Rattle.pil_checker.specs.Programs.{nodes_at}
use Rattle.pil_checker.proofs.Grown.{computes-kept}
use Rattle.pil_checker.proofs.lines.place_identity.Goals as goal

pub returns-clause-check : goal.returns-clause-check
returns-clause-check c = λ n.
    let s = c.args.space in (
      refl,
      computes-kept (namespaces c.args.pil.now) s (nodes_at c.place_in.new.programs.items s) (nodes_at c.place_in-2.new.programs.items s) 0 (term c.args.left.now) c.in_ok-left.left (c.in_ok-right.ensures.placing.grows s) c.in_ok-left.ensures.computes,
      c.in_ok-right.ensures.computes,
    )
