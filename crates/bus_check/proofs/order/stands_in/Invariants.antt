use Rattle.std.proofs.Common.{◌-◌}
use Rattle.bus_check.specs.Bus.{held}
use Rattle.bus_check.proofs.Sorted.{IsSearched}
use Rattle.bus_check.proofs.order.stands_in.Given as goal

abbrev pub invariant-loop-low : goal.invariant-loop-low
invariant-loop-low l = IsSearched (held l.tuples) l.tuple l.low l.high

abbrev pub decreases-loop-low : goal.decreases-loop-low
decreases-loop-low l = l.high - l.low
