use Rattle.elf_load.proofs.Loaded.{loaded_loadable}
use Rattle.elf_load.proofs.laws.loaded_is_loadable.Goals as goal

pub returns : goal.returns
returns c = loaded_loadable
