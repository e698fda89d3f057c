use Rattle.std.proofs.Common.{◌≤◌}
use Rattle.tab_file.specs.Stands.{taken}
use Rattle.tab_file.proofs.pieces_tests.byte_by_byte.Given as goal

abbrev pub invariant-loop-i : goal.invariant-loop-i
invariant-loop-i g l = taken l.reader ≤ l.i
