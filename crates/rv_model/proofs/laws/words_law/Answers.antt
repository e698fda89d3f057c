use Rattle.rv_model.proofs.Beginning.{words_below, entry_below}
use Rattle.rv_model.proofs.laws.words_law.Goals as goal

pub returns-clause-words : goal.returns-clause-words
returns-clause-words c = words_below

pub returns-clause-entry : goal.returns-clause-entry
returns-clause-entry c = entry_below
