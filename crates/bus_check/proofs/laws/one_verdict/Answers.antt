use Rattle.bus_check.proofs.Verdict.{search-lines, one-first, never-both}
use Rattle.bus_check.proofs.laws.one_verdict.Goals as goal

pub returns-clause-some : goal.returns-clause-some
returns-clause-some c = search-lines

pub returns-clause-one : goal.returns-clause-one
returns-clause-one c = one-first

pub returns-clause-not_both : goal.returns-clause-not_both
returns-clause-not_both c = never-both
