use Rattle.pil_laws.proofs.Table.{sent-rows}
use Rattle.pil_laws.proofs.laws.table_law.Goals as goal

pub returns : goal.returns
returns c = λ ns d first width f rows a. sent-rows ns d first width (λ x k. x k) f rows a
