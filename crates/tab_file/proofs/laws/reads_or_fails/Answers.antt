use Rattle.tab_file.proofs.Exclusive.{one_of_both, never_both}
use Rattle.tab_file.proofs.OfFile.{never_memory}
use Rattle.tab_file.proofs.laws.reads_or_fails.Goals as goal

pub returns-clause-one : goal.returns-clause-one
returns-clause-one c = one_of_both

pub returns-clause-not_both : goal.returns-clause-not_both
returns-clause-not_both c = never_both

pub returns-clause-no_memory : goal.returns-clause-no_memory
returns-clause-no_memory c = never_memory
