use Rattle.std.proofs.Common.{◌≡◌}
use Rattle.broken_line.specs.Cut.{skip}
use Rattle.broken_line.proofs.cut.behind_lines.Given as goal

-- so many lines were left behind
abbrev pub invariant-loop : goal.invariant-loop
invariant-loop l = l.rest ≡ skip l.counter l.text
