use Rattle.planner.proofs.Handed.{handed_push, added_whole, finished_in}
use Rattle.planner.proofs.laws.jobs_handed_out.Goals as goal

pub returns-clause-push : goal.returns-clause-push
returns-clause-push c = handed_push

pub returns-clause-added : goal.returns-clause-added
returns-clause-added c = added_whole

pub returns-clause-finished : goal.returns-clause-finished
returns-clause-finished c = finished_in
