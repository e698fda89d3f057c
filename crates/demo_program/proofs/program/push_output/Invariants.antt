use Rattle.std.proofs.Common.{◌≡◌, ◌++◌, map}
use Rattle.std.specs.List.{range_with_len}
use Rattle.demo_program.specs.Program.{put_out}
use Rattle.demo_program.proofs.program.push_output.Given as goal

abbrev pub invariant-loop-j : goal.invariant-loop-j
invariant-loop-j l = l.program.items ≡ l.initial.program.items ++ map put_out (range_with_len 0 l.j)
