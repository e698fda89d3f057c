use Rattle.std.proofs.Common.{◌≡◌, Err, Ok, ap, ◌∙◌, inr, refl}
use Rattle.gold.specs.declared.shapes.Form.TheVariants.{Two}
use Rattle.zk_layout.specs.Air.{machine_shape_of}
use Rattle.machine_text.specs.Machine.{machine}
use Rattle.row_check.specs.Breaks.{IsFirstBroken}
use Rattle.machine_columns.specs.Values.{values_of}
use Rattle.machine_columns.specs.Accepted.{AreAccepted, public_of}
use Rattle.rv_model.specs.declared.answer.Public.{Public}
use Rattle.zk_words.specs.declared.status.Status.TheVariants.{BadTables, Broken}
use Rattle.zk_top.specs.Outcome.{OfVerdict, check_report}
use Rattle.zk_top.proofs.Checks.{accepted_come, broken_comes}
use Rattle.zk_top.proofs.FileTables.{only_failure, refusal_comes, tables_come}
use Rattle.zk_top.proofs.judging.report_of_file.Goals as goal

pub returns-in-Ok-Broken-clause-comes : goal.returns-in-Ok-Broken-clause-comes
unfolding AreAccepted
returns-in-Ok-Broken-clause-comes c = λ image bytes s.
    let told = c.in-Ok-Broken.ensures.judged image bytes s in
    let w = told.0 in
    let ns = machine w.profile in
    let values = values_of image w in
    let first : IsFirstBroken ns values c.in-Ok-Broken.broken = rw c.in-Ok-Broken.field-0-is at told.2 in
    tables_come (machine_shape_of Two) bytes (λ names. OfVerdict names image) w (Err (Broken c.in-Ok-Broken.broken))
    ((λ other reads. c.one_text.ensures.witness bytes (machine_shape_of Two) other w reads told.1), (λ kind at fails. c.reads_or_fails.ensures.not_both bytes (machine_shape_of Two) w kind at told.1 fails))
    (broken_comes image w c.in-Ok-Broken.broken (λ all. c.one_verdict.ensures.not_both ns values c.in-Ok-Broken.broken all first) (λ a is. c.one_verdict.ensures.one ns values a c.in-Ok-Broken.broken is first))

pub returns-in-Ok-clause-comes : goal.returns-in-Ok-clause-comes
unfolding AreAccepted
returns-in-Ok-clause-comes c = λ image bytes s.
    let told = c.in-Ok-Accepted.ensures.judged image bytes s in
    let w = told.0 in
    let judged : AreAccepted image w × (c.in-Ok-Accepted.public ≡ public_of image w) = rw c.in-Ok-Accepted.field-0-is at told.2 in
    tables_come (machine_shape_of Two) bytes (λ names. OfVerdict names image) w (Ok c.in-Ok.text)
    ((λ other reads. c.one_text.ensures.witness bytes (machine_shape_of Two) other w reads told.1), (λ kind at fails. c.reads_or_fails.ensures.not_both bytes (machine_shape_of Two) w kind at told.1 fails))
    (accepted_come image w c.in-Ok.text.items (λ b all first. c.one_verdict.ensures.not_both (machine w.profile) (values_of image w) b all first) judged.0
    (c.in-Ok.ensures ∙ ap (λ (p : Public). check_report p) judged.1))

pub returns-in_default : goal.returns-in_default
returns-in_default c =
    let e = c.in-Err.e in
    record {
      comes = λ image bytes s.
          let fails = c.in-Err.ensures.fails c.in_default.not-NoMemory image bytes s in
          refusal_comes (machine_shape_of Two) bytes (λ names. OfVerdict names image) (BadTables e)
          (inr (e.kind, e.at, refl, only_failure bytes (machine_shape_of Two) e.kind e.at (λ witness reads. c.reads_or_fails.ensures.not_both bytes (machine_shape_of Two) witness e.kind e.at reads fails) fails));
      no_bad_words = λ h. cc;
      no_fault = λ h. cc;
    }
