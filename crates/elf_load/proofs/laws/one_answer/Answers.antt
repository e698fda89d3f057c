use Rattle.elf_load.proofs.Unique.{one_image, one_refusal, not_both}
use Rattle.elf_load.proofs.Decided.{some_answer}
use Rattle.elf_load.proofs.laws.one_answer.Goals as goal

pub returns : goal.returns
returns c = record { some = some_answer; one_image = one_image; one_refusal = one_refusal; not_both = not_both }
