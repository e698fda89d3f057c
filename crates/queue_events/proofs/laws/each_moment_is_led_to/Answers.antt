use Rattle.queue_events.proofs.Led.{begins, puts, takes, forks, merges}
use Rattle.queue_events.proofs.laws.each_moment_is_led_to.Goals as goal

pub returns-clause-begin : goal.returns-clause-begin
returns-clause-begin c = begins

pub returns-clause-push : goal.returns-clause-push
returns-clause-push c = puts

pub returns-clause-pop : goal.returns-clause-pop
returns-clause-pop c = takes

pub returns-clause-split : goal.returns-clause-split
returns-clause-split c = forks

pub returns-clause-join : goal.returns-clause-join
returns-clause-join c = merges
