use Rattle.std.proofs.Common.{rules, Some}
use Rattle.std.proofs.lemmas.List.Elements.{All-pop}
use Rattle.wit_pool.specs.Crew.{IsWorker}
use Rattle.wit_pool.proofs.crew.+starting.Goals as goal

pub with_workers-start_one-requires-clause-crew : goal.with_workers-start_one-requires-clause-crew
with_workers-start_one-requires-clause-crew g t c κs within = record {
  running = c.requires.running;
  mine = c.requires.mine;
  waiting = (All-pop (IsWorker c.args.queue.now) c.args.crew.waiting.items c.pop.new.self.items (Some c.in-Some.theirs) c.in-Some.ensures.items c.requires.waiting).0;
  few = search rules;
}

pub with_workers-start_one-requires-clause-theirs :
    goal.with_workers-start_one-requires-clause-theirs
with_workers-start_one-requires-clause-theirs g t c κs within = (All-pop (IsWorker c.args.queue.now) c.args.crew.waiting.items c.pop.new.self.items (Some c.in-Some.theirs) c.in-Some.ensures.items c.requires.waiting).1
