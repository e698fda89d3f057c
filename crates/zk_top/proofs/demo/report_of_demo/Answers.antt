use Rattle.std.proofs.Common.{◌≡◌, ◌+◌, List, [], arith, IfOk}
use Rattle.host_io.specs.World.{Asked}
use Rattle.demo_program.specs.Demo.{demo_file}
use Rattle.zk_words.specs.declared.status.Status.TheVariants.{Done}
use Rattle.zk_top.specs.Outcome.{Outcome, IsDemoOutcome, reporting, demo_report}
use Rattle.zk_top.proofs.Demos.{demo_reported, ok_then}
use Rattle.zk_top.proofs.demo.report_of_demo.Goals as goal

pub checked_run-requires : goal.checked_run-requires
checked_run-requires c =
    let halted = c.demo_runs.ensures.halts c.args.number c.args.kind c.args.size c.in_ok-image.image c.requires c.in_ok-image.ensures in
    (c.args.size + 21, halted.0, omega (arith, c.requires.1), halted.1)

pub returns : goal.returns
returns c =
    let number = c.args.number in
    let kind = c.args.kind in
    let size = c.args.size in
    let made = c.in_ok-made.made in
    ok_then c.demo_text.result (λ text. text.items ≡ demo_report made.steps made.public made.witness)
    (λ text. (names : List Asked) (o : Outcome) → IsDemoOutcome names number kind size o → o ≡ reporting names Done text.items) c.demo_text.ensures
    (λ text is names o demo. demo_reported names number kind size c.in_ok-image.image made text.items o (c.one_answer.ensures.one_image (demo_file number kind size) []) c.in_ok-image.ensures c.in_ok-made.ensures is demo)
