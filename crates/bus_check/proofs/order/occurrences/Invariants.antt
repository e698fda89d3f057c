use Rattle.std.proofs.Common.{◌≡◌, take}
use Rattle.pil_ast.specs.Holds.{times}
use Rattle.bus_check.specs.Bus.{held}
use Rattle.bus_check.proofs.order.occurrences.Given as goal

abbrev pub invariant-loop-place : goal.invariant-loop-place
invariant-loop-place l = l.count ≡ times l.tuple (take l.place (held l.tuples))
