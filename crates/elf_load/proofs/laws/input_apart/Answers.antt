use Rattle.elf_load.proofs.Unique.{other_input}
use Rattle.elf_load.proofs.laws.input_apart.Goals as goal

pub returns : goal.returns
returns c = other_input
