use Rattle.std.proofs.Common.{◌≡◌, ◌++◌, map}
use Rattle.std.specs.List.{range_with_len}
use Rattle.demo_program.specs.Draws.{draw, state}
use Rattle.demo_program.specs.Program.{drawn}
use Rattle.demo_program.proofs.program.push_drawn.Given as goal

abbrev pub invariant-loop : goal.invariant-loop
invariant-loop l = record {
  items : l.program.items ≡ l.initial.program.items ++ map (λ k. drawn l.kind (draw l.initial.draws.state k)) (range_with_len 0 l.counter);
  drawn : l.draws.state ≡ state l.initial.draws.state l.counter;
}
