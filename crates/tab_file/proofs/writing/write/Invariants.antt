use Rattle.std.proofs.Common.{◌≡◌, ◌++◌, take}
use Rattle.std.specs.List.{flat_map}
use Rattle.gold.specs.Shapes.{counts_from}
use Rattle.tab_file.specs.Format.{header, instance_text}
use Rattle.gold.specs.declared.shapes.Form.TheVariants.{Two}
use Rattle.tab_file.specs.Steps.{height}
use Rattle.tab_file.proofs.writing.write.Given as goal

abbrev pub invariant-loop-table : goal.invariant-loop-table
invariant-loop-table l = l.out.items ≡ header Two l.witness.profile 7 (counts_from 0 7 l.witness.tables) ++ flat_map (λ t. instance_text (height t.columns) t) (take l.table-index l.tables)
