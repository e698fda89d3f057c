use Rattle.std.proofs.Common.{◌≡◌, take}
use Rattle.bus_check.specs.Bus.{numbers, held}
use Rattle.bus_check.proofs.arrays.Kept.copies.Given as goal

abbrev pub invariant-loop-place : goal.invariant-loop-place
invariant-loop-place l = numbers l.vectors.items ≡ take l.place (held l.self)
