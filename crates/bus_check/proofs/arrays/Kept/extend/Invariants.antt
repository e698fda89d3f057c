use Rattle.std.proofs.Common.{◌≡◌, ◌++◌, take}
use Rattle.bus_check.specs.Bus.{held}
use Rattle.bus_check.proofs.arrays.Kept.extend.Given as goal

abbrev pub invariant-loop-place : goal.invariant-loop-place
invariant-loop-place l = held l.self ≡ held l.fn.self ++ take l.place (held l.other)
