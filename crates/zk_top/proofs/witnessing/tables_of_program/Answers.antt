use Rattle.std.proofs.Common.{◌≡◌}
use Rattle.rv_model.specs.Run.{end_within}
use Rattle.zk_top.specs.Outcome.{IsWitnessOutcome, program_names, of_making}
use Rattle.zk_top.proofs.Programs.{program_on, program_asks, program_read, program_stops}
use Rattle.zk_top.proofs.Making.{making_begins, making_leads}
use Rattle.zk_top.proofs.witnessing.tables_of_program.Goals as goal

pub returns-in-Ok-clause-leads : goal.returns-in-Ok-clause-leads
unfolding IsWitnessOutcome
returns-in-Ok-clause-leads g c = λ told tables o is.
    let old = g.H.Host.world c.args.host.now in
    let new = g.H.Host.world c.program_of.new.host in
    let elf = c.args.elf.now in
    let input = c.args.input.now in
    let names = program_names elf input in
    let image = c.in-Ok.image in
    let has = c.in-Ok.ensures.had told in
    let on = program_on elf input (λ i p. p ≡ of_making names tables i c.args.steps (end_within i c.args.steps)) o image old new has is in
    making_leads names tables image c.args.steps o c.tables_alone.result old new (program_asks elf input image old new has) (program_read elf input image old new has) on c.tables_alone.ensures.made

pub returns-in-Err-clause-leads : goal.returns-in-Err-clause-leads
unfolding IsWitnessOutcome
returns-in-Err-clause-leads g c = λ told tables o is.
    let names = program_names c.args.elf.now c.args.input.now in
    program_stops c.args.elf.now c.args.input.now (λ i p. p ≡ of_making names tables i c.args.steps (end_within i c.args.steps)) c.in-Err.status o (g.H.Host.world c.args.host.now) (g.H.Host.world c.program_of.new.host)
    (λ image p e. making_begins names tables image c.args.steps p e) (c.in-Err.ensures.stopped told) is
