use Rattle.std.proofs.Common.{◌≡◌, ◌^◌, [], ◌∷◌, Some, inl, sym, ap, ◌∙◌, subst}
use Rattle.host_io.specs.World.{Opened}
use Rattle.file_verdict.specs.Standing.{StandsForFile}
use Rattle.zk_words.specs.declared.status.Which.TheVariants as files
use Rattle.zk_words.specs.declared.status.Status.{Status}
use Rattle.zk_top.specs.Outcome.{Contents, IsCheckOutcome, program_names, check_names, OfMachineTables}
use Rattle.zk_top.specs.Parts.{Stops, IsNotRead}
use Rattle.zk_top.proofs.Stages.{stopped, asks_both, read_both, file_on, front_asked, stage_leads}
use Rattle.zk_top.proofs.Programs.{program_on, program_asks, program_read, program_stops}
use Rattle.zk_top.proofs.Checks.{OnProgram, file_names, tables_begin, check_begins}
use Rattle.zk_top.proofs.judging.work.Goals as goal

pub returns-in-Err-clause-leads : goal.returns-in-Err-clause-leads
unfolding IsCheckOutcome
returns-in-Err-clause-leads g c = λ told o is.
    let old = g.H.Host.world c.args.host.now in
    let new = g.H.Host.world c.program_of.new.host in
    program_stops c.args.elf.now c.args.input.now (OnProgram old.contents c.args.elf.now c.args.input.now c.args.tables.now) c.in-Err.status o old new
    (check_begins old.contents c.args.elf.now c.args.input.now c.args.tables.now) (c.in-Err.ensures.stopped told) is

pub returns-in_default-clause-leads : goal.returns-in_default-clause-leads
unfolding IsCheckOutcome
returns-in_default-clause-leads g c = λ told o is.
    let old = g.H.Host.world c.args.host.now in
    let mid = g.H.Host.world c.program_of.new.host in
    let elf = c.args.elf.now in
    let input = c.args.input.now in
    let tables = c.args.tables.now in
    let image = c.in-Ok.image in
    let has = c.in-Ok.ensures.had told in
    let on = program_on elf input (OnProgram old.contents elf input tables) o image old mid has is in
    inl (front_asked (program_names elf input) o old mid (check_begins old.contents elf input tables image o on) (program_asks elf input image old mid has))

pub returns-in-Ok-file_into-clause-leads : goal.returns-in-Ok-file_into-clause-leads
unfolding IsCheckOutcome
returns-in-Ok-file_into-clause-leads g c = λ told o is.
    let old = g.H.Host.world c.args.host.now in
    let mid = g.H.Host.world c.program_of.new.host in
    let new = g.H.Host.world c.file_into.new.host in
    let elf = c.args.elf.now in
    let input = c.args.input.now in
    let tables = c.args.tables.now in
    let names = check_names elf input tables in
    let image = c.in-Ok.image in
    let has = c.in-Ok.ensures.had told in
    let asks = program_asks elf input image old mid has in
    let came = c.in-Ok-file_into.ensures.read (c.in-Ok.ensures.told told) in
    let read = came.is_read in
    let file = came.bytes in
    let stands : StandsForFile image file c.file_into.new.sink = came.given c.in-Ok-new.file [] (λ any s. s) image c.in-Ok-new.ensures.stands in
    let on = program_on elf input (OnProgram old.contents elf input tables) o image old mid has is in
    let found : old.contents tables ≡ Some file = sym (ap (λ (contents : Contents). contents tables) asks.contents) ∙ read.found in
    let on_file = file_on names (old.contents tables) (2 ^ 48) files.Tables (OfMachineTables names image) o file found read.fits on in
    stage_leads names (λ ns. OfMachineTables ns image file) o c.report_of_file.result old new
    (asks_both (program_names elf input) (Opened tables ∷ []) old mid new asks read.asks) (read_both old mid new (program_read elf input image old mid has) read.read) (file_names names image file o on_file) on_file (c.report_of_file.ensures.comes image file stands)

pub returns-in-Err-file_into-clause-leads : goal.returns-in-Err-file_into-clause-leads
unfolding IsCheckOutcome
returns-in-Err-file_into-clause-leads g c = λ told o is.
    let old = g.H.Host.world c.args.host.now in
    let mid = g.H.Host.world c.program_of.new.host in
    let new = g.H.Host.world c.file_into.new.host in
    let elf = c.args.elf.now in
    let input = c.args.input.now in
    let tables = c.args.tables.now in
    let names = check_names elf input tables in
    let image = c.in-Ok.image in
    let has = c.in-Ok.ensures.had told in
    let asks = program_asks elf input image old mid has in
    let on = program_on elf input (OnProgram old.contents elf input tables) o image old mid has is in
    let not_read : IsNotRead (Opened tables) (old.contents tables) (2 ^ 48) c.in-Err-file_into.e mid new = subst (λ (contents : Contents). IsNotRead (Opened tables) (contents tables) (2 ^ 48) c.in-Err-file_into.e mid new) asks.contents (c.in-Err-file_into.ensures.not_read (c.in-Ok.ensures.told told)) in
    subst (λ (s : Status). Stops o s old new) (sym c.stopped.ensures)
    (stopped (program_names elf input) (Opened tables) (old.contents tables) (2 ^ 48) files.Tables (OfMachineTables names image) o c.in-Err-file_into.e old mid new asks not_read (tables_begin old.contents elf input tables image o on) on)

pub returns-in-Ok-file_into-clause-fault : goal.returns-in-Ok-file_into-clause-fault
returns-in-Ok-file_into-clause-fault g c = λ is. absurd (c.report_of_file.ensures.no_fault is)
