use Rattle.rv_model.proofs.Values.{value_below, access_below}
use Rattle.rv_model.proofs.laws.values_law.Goals as goal

pub returns-clause-operations : goal.returns-clause-operations
returns-clause-operations c = value_below

pub returns-clause-accesses : goal.returns-clause-accesses
returns-clause-accesses c = access_below
