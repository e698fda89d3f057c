use Rattle.std.proofs.Common.{List, ◌++◌, take}
use Rattle.gold.specs.declared.instances.Table.{Table}
use Rattle.fixed_cols.specs.declared.sizes.Sizes.{Sizes}
use Rattle.verdict.specs.Standing.{StandsForTables}
use Rattle.file_verdict.specs.Standing.{FillPlaces}
use Rattle.file_verdict.proofs.adding.add_all.Given as goal

abbrev pub invariant-loop-table : goal.invariant-loop-table
invariant-loop-table l =
    (sizes : Sizes) (before : List Table) → StandsForTables l.image sizes before l.fn.run → FillPlaces sizes (before ++ l.tables) → StandsForTables l.image sizes (before ++ take l.table-index l.tables) l.run
