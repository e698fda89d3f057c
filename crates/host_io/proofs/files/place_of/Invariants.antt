use Rattle.std.proofs.Common.{◌≡◌, ◌+◌, drop}
use Rattle.std.specs.Option.{option_map}
use Rattle.host_io.specs.Memory.{first_place}
use Rattle.host_io.specs.States.{file_states}
use Rattle.host_io.proofs.files.place_of.Given as goal

abbrev pub invariant-loop-i : goal.invariant-loop-i
invariant-loop-i l = option_map (λ k. k + l.i) (first_place (file_states (drop l.i l.files)) l.name) ≡ first_place (file_states l.files) l.name
