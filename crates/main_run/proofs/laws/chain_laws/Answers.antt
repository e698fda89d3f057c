use Rattle.main_run.proofs.Chain.{chain_law, rest_law}
use Rattle.main_run.proofs.laws.chain_laws.Goals as goal

pub returns-clause-chain : goal.returns-clause-chain
returns-clause-chain c = chain_law (record { row = c.main_laws.ensures.row; follows = c.main_laws.ensures.follows; ends = c.main_laws.ensures.ends; selected = c.main_laws.ensures.selected })

pub returns-clause-rest : goal.returns-clause-rest
returns-clause-rest c = rest_law (record { row = c.main_laws.ensures.row; follows = c.main_laws.ensures.follows; ends = c.main_laws.ensures.ends; selected = c.main_laws.ensures.selected })
