use Rattle.std.proofs.Common.{◌≡◌, ◌++◌, map, drop}
use Rattle.run_rows.specs.Runs.{values_of}
use Rattle.run_rows.specs.Gathered.{all_named}
use Rattle.run_rows.proofs.gathering.take_parts.Given as goal

abbrev pub invariant-loop-i : goal.invariant-loop-i
invariant-loop-i g l =
    l.found.items ++ map g.T.FromStep.taken (all_named l.air l.image (drop l.i l.parts) (drop l.i (values_of l.chunks)))
    ≡ l.initial.found.items ++ map g.T.FromStep.taken (all_named l.air l.image l.parts (values_of l.chunks))
