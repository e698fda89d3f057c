use Rattle.pil_ast.specs.Tree.{namespaces}
use Rattle.instance_pass.specs.Passes.{AreTabled}
use Rattle.pil_checker.specs.Plans.{AreIdle, IsPlanUpTo}
use Rattle.pil_checker.proofs.plans.Plan.new.Given as goal

abbrev pub invariant-loop-before : goal.invariant-loop-before
invariant-loop-before g l = record {
  planned : IsPlanUpTo (namespaces l.pil) l.plan l.before;
  tabled : AreTabled (namespaces l.pil) (g.C.Columns.values l.columns) l.plan.tables.items l.plan.checks.items;
  idle : AreIdle l.plan.parts.items;
}
