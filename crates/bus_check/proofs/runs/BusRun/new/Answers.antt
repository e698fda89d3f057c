use Rattle.std.proofs.Common.{sym, arith}
use Rattle.std.proofs.lemmas.Bool.{true≢false}
use Rattle.pil_ast.specs.Tree.{namespaces}
use Rattle.pil_ast.specs.Term.{item_at}
use Rattle.pil_ast.specs.Holds.{lines}
use Rattle.bus_check.proofs.Run.{have-none}
use Rattle.bus_check.proofs.runs.BusRun.new.Goals as goal

pub returns-clause-open : goal.returns-clause-open
returns-clause-open c = (
  λ free. record { places = c.in_ok-places.ensures.places; made = c.in_ok-new.ensures; long = let a = c.in_ok-sides.ensures.long in let b = c.len.ensures in let d = c.in_ok-places.ensures.long in omega arith },
  λ spent. true≢false (sym spent),
)

pub returns-clause-stands : goal.returns-clause-stands
returns-clause-stands c = record {
  long = let a = c.in_ok-sides.ensures.long in let b = c.len.ensures in let d = c.in_ok-places.ensures.long in omega arith;
  each = λ k s is. let e = c.in_ok-sides.ensures.empty k s is in have-none (namespaces c.args.pil.now) (item_at (lines (namespaces c.args.pil.now)) k) s e.0 e.1;
}
