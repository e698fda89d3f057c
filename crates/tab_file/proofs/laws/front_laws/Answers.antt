use Rattle.tab_file.proofs.Fronts.{come_counts, come_fill, none_come, come_later, all_of, come_profile}
use Rattle.tab_file.proofs.laws.front_laws.Goals as goal

pub returns-clause-counts : goal.returns-clause-counts
returns-clause-counts c = come_counts

pub returns-clause-places : goal.returns-clause-places
returns-clause-places c = come_fill

pub returns-clause-none : goal.returns-clause-none
returns-clause-none c = none_come

pub returns-clause-later : goal.returns-clause-later
returns-clause-later c = come_later

pub returns-clause-all : goal.returns-clause-all
returns-clause-all c = all_of

pub returns-clause-profile : goal.returns-clause-profile
returns-clause-profile c = come_profile
