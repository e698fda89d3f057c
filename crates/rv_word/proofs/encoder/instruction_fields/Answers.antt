use Rattle.rv_word.proofs.encoder.instruction_fields.Goals as goal

pub returns-in-Branch-clause-value : goal.returns-in-Branch-clause-value
returns-in-Branch-clause-value c = rw c.in-Branch.is (c.branch_fields.ensures.value _ _ _)

pub returns-in-Load-clause-value : goal.returns-in-Load-clause-value
returns-in-Load-clause-value c = rw c.in-Load.is (c.load_fields.ensures.value _ _ _)

pub returns-in-Store-clause-value : goal.returns-in-Store-clause-value
returns-in-Store-clause-value c = rw c.in-Store.is (c.store_fields.ensures.value _ _ _)

pub returns-in-OpImm-clause-value : goal.returns-in-OpImm-clause-value
returns-in-OpImm-clause-value c = rw c.in-OpImm.is (c.immediate_fields.ensures.value _ _ _)

pub returns-in-Op-clause-value : goal.returns-in-Op-clause-value
returns-in-Op-clause-value c = rw c.in-Op.is (c.operation_fields.ensures.value _ _ _)
