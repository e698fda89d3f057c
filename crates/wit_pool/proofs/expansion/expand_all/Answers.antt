use Rattle.std.proofs.Common.{rules, sym, ap, subst}
use Rattle.std.specs.Arc.{arc_value}
use Rattle.crossbeam_queue.specs.Passes.{Pass, view}
use Rattle.job_queue.specs.declared.rule.View.{View}
use Rattle.job_queue.specs.declared.ticket.Ticket.{Ticket}
use Rattle.job_queue.specs.Calls.{HasAll}
use Rattle.job_queue.specs.Rule.{HaveSameTickets}
use Rattle.wit_pool.specs.Jobs.{jobs_of}
use Rattle.wit_pool.specs.Serving.{pushed_of}
use Rattle.wit_pool.proofs.Wholes.{begins, crew_ready, makes}
use Rattle.wit_pool.proofs.expansion.expand_all.Goals as goal

pub split_all-mine-requires-clause-serves : goal.split_all-mine-requires-clause-serves
split_all-mine-requires-clause-serves g c = begins c.args.queue.now _ c.requires.pass.0 c.requires.pass.1 c.new.ensures.items

pub with_workers-hands-requires-after_bounds : goal.with_workers-hands-requires-after_bounds
with_workers-hands-requires-after_bounds g c κs within =
    let mine = rw c.in-Ok-waiting.is at c.split_all-mine.ensures.mine in
    let workers = rw c.in-Ok-waiting.is at c.split_all-mine.ensures.workers in
    crew_ready c.args.queue.now (arc_value c.args.image) c.args.limit c.args.workers _ c.in-Ok.run' c.split_all-mine.result.0 c.in-Ok-waiting.waiting (jobs_of (view c.args.pass).pushed) c.in-Ok.ensures.running c.in-Ok.ensures.number c.requires.image
    (ap (λ (v : View). jobs_of v.pushed) c.requires.pass.1) mine workers.0 workers.1 c.requires.workers.1

pub returns-in_default-made-clause-tickets : goal.returns-in_default-made-clause-tickets
returns-in_default-made-clause-tickets g c =
    let all : HasAll c.args.queue.now c.with_workers-hands.result.0.pass = search rules in
    subst (λ (p : Pass Ticket View). HaveSameTickets (view p).pushed (view p).taken) (sym c.made-pass.ensures.pass) (c.empty-hands.ensures.all all)

pub returns-in-Ok-made-clause-tickets : goal.returns-in-Ok-made-clause-tickets
returns-in-Ok-made-clause-tickets g c =
    let all : HasAll c.args.queue.now c.with_workers-hands.result.0.pass = search rules in
    subst (λ (p : Pass Ticket View). HaveSameTickets (view p).pushed (view p).taken) (sym c.made-pass.ensures.pass) (c.empty-hands.ensures.all all)

pub returns-in-Ok-made-clause-answer : goal.returns-in-Ok-made-clause-answer
returns-in-Ok-made-clause-answer g c =
    let all : HasAll c.args.queue.now c.with_workers-hands.result.0.pass = search rules in
    let led = rw c.in-Ok-end.is at c.with_workers-hands.ensures.led in
    let long = rw c.in-Ok-made.is at c.made-pass.ensures.long in
    let run = rw c.in-Ok-made.is at c.made-pass.ensures.run in
    let witness = rw c.in-Ok-made.is at c.made-pass.ensures.witness in
    makes c.args.queue.now (arc_value c.args.image) c.args.limit c.in-Ok.run'.emu.limit _ c.in-Ok-end.run' c.empty-hands.result (pushed_of c.with_workers-hands.result.0) c.in-Ok-made.made c.requires.image c.in-Ok.ensures.running.most led c.empty-hands.ensures.serving
    (c.empty-hands.ensures.all all) long run witness
