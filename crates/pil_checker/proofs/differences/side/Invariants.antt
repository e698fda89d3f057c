use Rattle.std.proofs.Common.{◌≡◌, ◌-◌}
use Rattle.pil_checker.specs.Standing.{GiveBefore, side_of}
use Rattle.pil_checker.proofs.differences.side.Given as goal

abbrev pub invariant-loop-number : goal.invariant-loop-number
invariant-loop-number l = (l.tuples ≡ side_of l.fn.parts.items l.first (l.number - l.first)) × GiveBefore l.number l.fn.parts.items l.parts.items
