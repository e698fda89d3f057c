use Rattle.zk_words.proofs.Deciding.{decided, one}
use Rattle.zk_words.proofs.command.one_command.Goals as goal

pub returns-clause-decided : goal.returns-clause-decided
returns-clause-decided c = decided

pub returns-clause-one : goal.returns-clause-one
returns-clause-one c = one
