use Rattle.pil_exact.proofs.Modulo.{is_mod}
use Rattle.pil_exact.proofs.laws.value_law.Goals as goal

pub returns : goal.returns
returns c = is_mod
