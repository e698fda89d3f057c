use Rattle.std.proofs.Common.{take, map}
use Rattle.pil_ast.specs.Tree.{namespaces, term}
use Rattle.instance_pass.specs.Senders.{AllCompute}
use Rattle.pil_checker.specs.Programs.{IsPlacing, nodes_at}
use Rattle.pil_checker.proofs.placing.place_terms.Given as goal

abbrev pub invariant-loop-expr : goal.invariant-loop-expr
invariant-loop-expr l = record {
  placing : IsPlacing (namespaces l.pil) l.fn.programs.items l.programs.items;
  computes : AllCompute (namespaces l.pil) l.space (nodes_at l.programs.items l.space) (take l.expr-index (map term l.exprs)) l.steps;
}
