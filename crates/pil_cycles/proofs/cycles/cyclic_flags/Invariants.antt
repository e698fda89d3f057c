use Rattle.std.proofs.Common.{◌≡◌, map, take}
use Rattle.pil_cycles.specs.Verdicts.{is_cyclic}
use Rattle.pil_cycles.proofs.cycles.cyclic_flags.Given as goal

abbrev pub invariant-loop-verdict : goal.invariant-loop-verdict
invariant-loop-verdict l = l.flags.items ≡ map is_cyclic (take l.verdict-index l.verdicts)
