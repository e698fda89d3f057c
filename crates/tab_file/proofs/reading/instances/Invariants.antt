use Rattle.std.proofs.Common.{◌-◌}
use Rattle.gold.specs.Shapes.{instances_from}
use Rattle.tab_file.specs.Steps.{Leaves}
use Rattle.tab_file.proofs.reading.instances.Given as goal

abbrev pub invariant-loop-i : goal.invariant-loop-i
invariant-loop-i l =
    Leaves l.bytes l.air.airs l.start (instances_from l.air.number l.air.form 0 l.count) l.initial.tables
    l.at (instances_from l.air.number l.air.form l.i (l.count - l.i)) l.tables
