use Rattle.std.proofs.Common.{◌≡◌, ◌++◌}
use Rattle.gold.specs.Shapes.{counts_from}
use Rattle.gold.specs.declared.shapes.Form.TheVariants.{Two}
use Rattle.tab_file.specs.Format.{header}
use Rattle.tab_file.proofs.writing.put_header.Given as goal

abbrev pub invariant-loop-air : goal.invariant-loop-air
invariant-loop-air l = l.out.items ≡ l.fn.out.items ++ header Two l.witness.profile 7 (counts_from 0 l.air l.witness.tables)
