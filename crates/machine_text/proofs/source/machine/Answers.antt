use Rattle.std.proofs.Common.{subst, sym}
use Rattle.pil_text.specs.Text.{Reads}
use Rattle.machine_text.specs.Machine.{machine}
use Rattle.machine_text.proofs.source.machine.Goals as goal

pub returns-in-Ok-clause-made : goal.returns-in-Ok-clause-made
returns-in-Ok-clause-made c = c.in-Ok.ensures.same (machine c.args.profile) (subst (λ t. Reads t (machine c.args.profile)) (sym c.deref.ensures.value) c.in_ok-text.ensures.reads)
