use Rattle.std.proofs.Common.{[], ◌∷◌, ◌*◌, List, replicate}
use Rattle.tab_file.specs.declared.fault.TabKind.TheVariants.{BadOrder, BadShape}
use Rattle.tab_file.specs.Items.{Item, exactly, air_item, value_item}
use Rattle.tab_file.proofs.Going.{IfErr-passed, Fail-then, Fail-second, Fail-third, Fail-fourth, Fail-after_four, Pass-after_four}
use Rattle.tab_file.proofs.reading.table.Goals as goal

pub returns-in_err-air-clause-fail : goal.returns-in_err-air-clause-fail
returns-in_err-air-clause-fail c =
    let form = c.args.air.now.form in
    let air : Item = air_item c.args.air.now.airs c.args.air.now.number in
    let instance : Item = exactly c.args.instance BadOrder 4 in
    let columns : Item = exactly form.columns BadShape 0 in
    let rows : Item = exactly form.rows BadShape 0 in
    let values : List Item = replicate (form.columns * form.rows) value_item in
    let e = c.in_err-air.field-0.0 in
    IfErr-passed c.from_residual.result e _ c.from_residual.ensures.1
    (Fail-then c.args.bytes.now c.args.start (air ∷ []) (instance ∷ columns ∷ rows ∷ values) e c.in_err-air.ensures.fail)

pub returns-in_err-instance-clause-fail : goal.returns-in_err-instance-clause-fail
returns-in_err-instance-clause-fail c =
    let form = c.args.air.now.form in
    let air : Item = air_item c.args.air.now.airs c.args.air.now.number in
    let instance : Item = exactly c.args.instance BadOrder 4 in
    let columns : Item = exactly form.columns BadShape 0 in
    let rows : Item = exactly form.rows BadShape 0 in
    let values : List Item = replicate (form.columns * form.rows) value_item in
    let e = c.in_err-instance.field-0.0 in
    IfErr-passed c.from_residual-in_err-instance.result e _ c.from_residual-in_err-instance.ensures.1
    (Fail-second c.args.bytes.now c.args.start air instance (columns ∷ rows ∷ values) e c.in_ok-air.ensures.pass c.in_err-instance.ensures.fail)

pub returns-in_err-expect-clause-fail : goal.returns-in_err-expect-clause-fail
returns-in_err-expect-clause-fail c =
    let form = c.args.air.now.form in
    let air : Item = air_item c.args.air.now.airs c.args.air.now.number in
    let instance : Item = exactly c.args.instance BadOrder 4 in
    let columns : Item = exactly form.columns BadShape 0 in
    let rows : Item = exactly form.rows BadShape 0 in
    let values : List Item = replicate (form.columns * form.rows) value_item in
    let e = c.in_err-expect.field-0.0 in
    IfErr-passed c.from_residual-in_err-expect.result e _ c.from_residual-in_err-expect.ensures.1
    (Fail-third c.args.bytes.now c.args.start air instance columns (rows ∷ values) e c.in_ok-air.ensures.pass c.in_ok-instance.ensures.pass c.in_err-expect.ensures.fail)

pub returns-in_err-expect-2-clause-fail : goal.returns-in_err-expect-2-clause-fail
returns-in_err-expect-2-clause-fail c =
    let form = c.args.air.now.form in
    let air : Item = air_item c.args.air.now.airs c.args.air.now.number in
    let instance : Item = exactly c.args.instance BadOrder 4 in
    let columns : Item = exactly form.columns BadShape 0 in
    let rows : Item = exactly form.rows BadShape 0 in
    let values : List Item = replicate (form.columns * form.rows) value_item in
    let e = c.in_err-expect-2.field-0.0 in
    IfErr-passed c.from_residual-in_err-expect-2.result e _ c.from_residual-in_err-expect-2.ensures.1
    (Fail-fourth c.args.bytes.now c.args.start air instance columns rows values e c.in_ok-air.ensures.pass c.in_ok-instance.ensures.pass c.in_ok-expect.ensures.pass c.in_err-expect-2.ensures.fail)

pub returns-in_err-columns-clause-fail : goal.returns-in_err-columns-clause-fail
returns-in_err-columns-clause-fail c =
    let form = c.args.air.now.form in
    let air : Item = air_item c.args.air.now.airs c.args.air.now.number in
    let instance : Item = exactly c.args.instance BadOrder 4 in
    let columns : Item = exactly form.columns BadShape 0 in
    let rows : Item = exactly form.rows BadShape 0 in
    let values : List Item = replicate (form.columns * form.rows) value_item in
    let e = c.in_err-columns.field-0.0 in
    IfErr-passed c.from_residual-in_err-columns.result e _ c.from_residual-in_err-columns.ensures.1
    (Fail-after_four c.args.bytes.now c.args.start air instance columns rows values e c.in_ok-air.ensures.pass c.in_ok-instance.ensures.pass c.in_ok-expect.ensures.pass c.in_ok-expect-2.ensures.pass c.in_err-columns.ensures.fail)

pub returns-clause-pass : goal.returns-clause-pass
returns-clause-pass c =
    let form = c.args.air.now.form in
    let air : Item = air_item c.args.air.now.airs c.args.air.now.number in
    let instance : Item = exactly c.args.instance BadOrder 4 in
    let columns : Item = exactly form.columns BadShape 0 in
    let rows : Item = exactly form.rows BadShape 0 in
    let values : List Item = replicate (form.columns * form.rows) value_item in
    Pass-after_four c.args.bytes.now c.args.start c.in_ok-columns.next air instance columns rows values c.in_ok-air.ensures.pass c.in_ok-instance.ensures.pass c.in_ok-expect.ensures.pass c.in_ok-expect-2.ensures.pass c.in_ok-columns.ensures.pass
