use Rattle.std.proofs.Common.{refl}
use Rattle.machine_text.specs.Lines.{names_no_public, looks_in_table}
use Rattle.machine_text.specs.Machine.{machine}
use Rattle.machine_text.proofs.Items.{at_each}
use Rattle.machine_text.proofs.laws.machine_lines.Goals as goal

pub returns-clause-publics : goal.returns-clause-publics
returns-clause-publics c = λ p s k. at_each names_no_public refl (machine p) s k refl

pub returns-clause-tables : goal.returns-clause-tables
returns-clause-tables c = λ p s k. at_each (looks_in_table (machine p)) refl (machine p) s k refl
