use Rattle.std.proofs.Common.{length, ◌-◌}
use Rattle.pil_cycles.specs.Users.{Uses}
use Rattle.pil_cycles.specs.Verdicts.{IsJudged}
use Rattle.pil_cycles.proofs.components.judge.Given as goal

abbrev pub invariant-loop-back : goal.invariant-loop-back
invariant-loop-back l = IsJudged (Uses l.users) (length l.users) l.order (length l.order - l.back) l.verdicts.items
