use Rattle.elf_load.proofs.Size.{exact_size}
use Rattle.elf_load.proofs.laws.exact_size.Goals as goal

pub returns : goal.returns
returns c = exact_size
