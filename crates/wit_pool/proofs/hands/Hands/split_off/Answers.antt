use Rattle.crossbeam_queue.specs.Passes.{view}
use Rattle.wit_pool.proofs.Serves.{fresh}
use Rattle.wit_pool.proofs.hands.Hands.split_off.Goals as goal

pub returns-clause-theirs : goal.returns-clause-theirs
returns-clause-theirs c = fresh c.args.queue.now (view c.args.self.pass) _ c.in-Ok.ensures.queue.1 c.in-Ok.ensures.views.1 c.new.ensures.items
