use Rattle.std.proofs.Common.{inl, ap, Ok}
use Rattle.elf_load.proofs.Unique.{one_image}
use Rattle.elf_load.proofs.loading.load.Goals as goal

pub returns-clause-loads : goal.returns-clause-loads
returns-clause-loads c = λ image l. inl (ap Ok (one_image c.args.file.now c.args.input.now _ image c.in_ok-image_of.ensures l))
