use Rattle.std.proofs.Common.{◌≡◌, ◌+◌, drop}
use Rattle.broken_line.specs.Cut.{length_of_front}
use Rattle.broken_line.proofs.cut.front_len.Given as goal

-- there is no line feed so far
abbrev pub invariant-loop-i : goal.invariant-loop-i
invariant-loop-i l = length_of_front (drop l.i l.text) + l.i ≡ length_of_front l.text
