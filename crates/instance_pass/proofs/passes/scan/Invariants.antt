use Rattle.pil_program.specs.Blocks.{at_lane}
use Rattle.instance_pass.specs.Passes.{AllMet, AsksNth}
use Rattle.instance_pass.proofs.passes.scan.Given as goal

abbrev pub invariant-loop-check : goal.invariant-loop-check
invariant-loop-check l =
    AllMet (λ k j. AsksNth l.asked.tables.now l.space l.asked.checks.now k (at_lane l.blocks j)) l.check l.count
