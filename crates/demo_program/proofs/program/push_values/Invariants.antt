use Rattle.std.proofs.Common.{◌≡◌, ◌++◌, map}
use Rattle.std.specs.List.{range_with_len}
use Rattle.demo_program.specs.Draws.{state}
use Rattle.demo_program.specs.Program.{set_value}
use Rattle.demo_program.proofs.program.push_values.Given as goal

abbrev pub invariant-loop-j : goal.invariant-loop-j
invariant-loop-j l = record {
  items : l.program.items ≡ l.initial.program.items ++ map (set_value l.initial.draws.state) (range_with_len 0 l.j);
  drawn : l.draws.state ≡ state l.initial.draws.state l.j;
}
