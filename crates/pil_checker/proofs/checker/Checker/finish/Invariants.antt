use Rattle.std.proofs.Common.{ℕ, ◌<◌}
use Rattle.pil_ast.specs.Tree.{namespaces}
use Rattle.pil_ast.specs.Term.{item_at}
use Rattle.pil_ast.specs.Columns.{Columns}
use Rattle.pil_ast.specs.Holds.{lines}
use Rattle.pil_checker.specs.Plans.{IsPlanOf}
use Rattle.pil_checker.specs.Standing.{HaveFrom, AgreesIfBus}
use Rattle.pil_checker.proofs.checker.Checker.finish.Given as goal

abbrev pub invariant-loop-line : goal.invariant-loop-line
invariant-loop-line l = record {
  planned : IsPlanOf (namespaces l.pil) l.plan;
  rest : (c : Columns) → HaveFrom (namespaces l.pil) c l.fn.self.plan 0 → HaveFrom (namespaces l.pil) c l.plan l.line;
  done : (c : Columns) → HaveFrom (namespaces l.pil) c l.fn.self.plan 0 → (k : ℕ) → k < l.line → AgreesIfBus (namespaces l.pil) c (item_at (lines (namespaces l.pil)) k);
}
