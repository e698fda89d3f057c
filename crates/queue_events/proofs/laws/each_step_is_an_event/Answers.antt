use Rattle.queue_events.proofs.Events.{pushed, popped, split, join, keeps, begin, balanced}
use Rattle.queue_events.proofs.laws.each_step_is_an_event.Goals as goal

pub returns-clause-push : goal.returns-clause-push
returns-clause-push c = pushed

pub returns-clause-pop : goal.returns-clause-pop
returns-clause-pop c = popped

pub returns-clause-split : goal.returns-clause-split
returns-clause-split c = split

pub returns-clause-join : goal.returns-clause-join
returns-clause-join c = join

pub returns-clause-keep : goal.returns-clause-keep
returns-clause-keep c = keeps

pub returns-clause-begin : goal.returns-clause-begin
returns-clause-begin c = begin

pub returns-clause-balance : goal.returns-clause-balance
returns-clause-balance c = balanced
