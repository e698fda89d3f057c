use Rattle.machine_columns.proofs.Publics.{one_out, publics_below, publics_outs, public_is}
use Rattle.machine_columns.proofs.laws.publics_laws.Goals as goal

pub returns-clause-one : goal.returns-clause-one
returns-clause-one c = one_out

pub returns-clause-outs : goal.returns-clause-outs
returns-clause-outs c = publics_outs c.memory_constants.ensures.out c.memory_text.ensures.publics

pub returns-clause-below : goal.returns-clause-below
returns-clause-below c = publics_below (record { columns = c.columns_laws.ensures.machine; machine = c.machine_laws.ensures.machine })

pub returns-clause-same : goal.returns-clause-same
returns-clause-same c = public_is (record { columns = c.columns_laws.ensures.machine; machine = c.machine_laws.ensures.machine })
