use Rattle.pil_laws.proofs.Join.{joined, joins}
use Rattle.pil_laws.proofs.laws.joint_law.Goals as goal

pub returns : goal.returns
returns c = λ ns d home inst clast cfirst es fs k. (joined ns d home inst clast cfirst es fs k, joins ns d home inst clast cfirst es fs k)
