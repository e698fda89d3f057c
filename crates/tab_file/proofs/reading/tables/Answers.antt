use Rattle.std.proofs.Common.{◌+◌, [], List, length, drop, get_or, subst, arith}
use Rattle.gold.specs.Shapes.{Place, instances_from, places_from}
use Rattle.tab_file.specs.Steps.{Leaves}
use Rattle.tab_file.proofs.Going.{IfErr-passed}
use Rattle.tab_file.proofs.Places.{no_form, Leaves-many, Leaves-many_fail, places_from-more, places_from-none}
use Rattle.tab_file.proofs.reading.tables.Goals as goal

pub instances-requires : goal.instances-requires
instances-requires c = c.loop-number.invariant.whole

pub returns-in_err-at-clause-fail : goal.returns-in_err-at-clause-fail
returns-in_err-at-clause-fail c =
    let bytes = c.args.bytes.now in
    let fs = c.args.airs.now in
    let cs = c.args.counts.now in
    let a = c.loop-number.number in
    let now = instances_from a (get_or fs a no_form) 0 (get_or cs a 0) in
    let later = places_from (a + 1) (drop (a + 1) fs) (drop (a + 1) cs) in
    let more = places_from-more fs cs a no_form 0 c.loop-number-test.true (omega (arith, c.loop-number-test.true, c.requires.counts)) in
    let left = subst (λ (qs : List Place). Leaves bytes (length fs) c.args.start (places_from 0 fs cs) [] c.loop-number.at qs c.loop-number.tables) more c.loop-number.invariant in
    let e = c.in_err-at.field-0.0 in
    IfErr-passed c.from_residual.result e _ c.from_residual.ensures.1
    (Leaves-many_fail bytes (length fs) c.args.start (places_from 0 fs cs) [] c.loop-number.at now later c.loop-number.tables e left c.in_err-at.ensures.fail)

pub loop-number-preserved : goal.loop-number-preserved
loop-number-preserved c =
    let bytes = c.args.bytes.now in
    let fs = c.args.airs.now in
    let cs = c.args.counts.now in
    let a = c.loop-number.number in
    let now = instances_from a (get_or fs a no_form) 0 (get_or cs a 0) in
    let later = places_from (a + 1) (drop (a + 1) fs) (drop (a + 1) cs) in
    let more = places_from-more fs cs a no_form 0 c.loop-number-test.true (omega (arith, c.loop-number-test.true, c.requires.counts)) in
    let left = subst (λ (qs : List Place). Leaves bytes (length fs) c.args.start (places_from 0 fs cs) [] c.loop-number.at qs c.loop-number.tables) more c.loop-number.invariant in
    Leaves-many bytes (length fs) c.args.start (places_from 0 fs cs) [] c.loop-number.at now later c.loop-number.tables c.in_ok-at.at c.instances.new.tables left c.in_ok-at.ensures.read

pub returns-clause-read : goal.returns-clause-read
returns-clause-read c =
    let fs = c.args.airs.now in
    let cs = c.args.counts.now in
    subst (λ (qs : List Place). Leaves c.args.bytes.now (length fs) c.args.start (places_from 0 fs cs) [] c.loop-number.at qs c.loop-number.tables)
    (places_from-none fs cs c.loop-number.number c.loop-number-test.false) c.loop-number.invariant
