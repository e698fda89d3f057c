use Rattle.std.proofs.Common.{◌+◌, ◌-◌, ◌≡◌, List, subst}
use Rattle.gold.specs.Shapes.{Place, instances_from}
use Rattle.tab_file.specs.Steps.{Leaves, place, table_at}
use Rattle.tab_file.proofs.Going.{IfErr-passed}
use Rattle.tab_file.proofs.Places.{Leaves-step, Leaves-fail, instances_from-more, instances_from-none}
use Rattle.tab_file.proofs.reading.instances.Goals as goal

pub table-requires : goal.table-requires
table-requires c = c.loop-i.invariant.whole

pub returns-in_err-table-clause-fail : goal.returns-in_err-table-clause-fail
returns-in_err-table-clause-fail c =
    let a = c.args.air.now.number in
    let f = c.args.air.now.form in
    let n = c.args.count in
    let i = c.loop-i.i in
    let left = subst (λ (qs : List Place). Leaves c.args.bytes.now c.args.air.now.airs c.args.start (instances_from a f 0 n) c.args.tables.now c.loop-i.at qs c.loop-i.tables)
    (instances_from-more a f i n c.loop-i-test.true) c.loop-i.invariant in
    let e = c.in_err-table.field-0.0 in
    IfErr-passed c.from_residual.result e _ c.from_residual.ensures.1
    (Leaves-fail c.args.bytes.now c.args.air.now.airs c.args.start (instances_from a f 0 n) c.args.tables.now c.loop-i.at (place a f i) (instances_from a f (i + 1) (n - (i + 1))) c.loop-i.tables e left c.in_err-table.ensures.fail)

pub loop-i-preserved : goal.loop-i-preserved
loop-i-preserved c =
    let a = c.args.air.now.number in
    let f = c.args.air.now.form in
    let n = c.args.count in
    let i = c.loop-i.i in
    let left = subst (λ (qs : List Place). Leaves c.args.bytes.now c.args.air.now.airs c.args.start (instances_from a f 0 n) c.args.tables.now c.loop-i.at qs c.loop-i.tables)
    (instances_from-more a f i n c.loop-i-test.true) c.loop-i.invariant in
    let step = Leaves-step c.args.bytes.now c.args.air.now.airs c.args.start (instances_from a f 0 n) c.args.tables.now c.loop-i.at (place a f i) (instances_from a f (i + 1) (n - (i + 1))) c.loop-i.tables c.in_ok-table.next left c.in_ok-table.ensures.pass c.in_ok-table.ensures.next in
    let value : c.in_ok-table.table ≡ table_at c.args.bytes.now c.loop-i.at (place a f i) = c.in_ok-table.ensures.value in
    rw (c.in_ok-push.ensures.ok, value) step

pub returns-clause-read : goal.returns-clause-read
returns-clause-read c =
    let a = c.args.air.now.number in
    let f = c.args.air.now.form in
    let n = c.args.count in
    subst (λ (qs : List Place). Leaves c.args.bytes.now c.args.air.now.airs c.args.start (instances_from a f 0 n) c.args.tables.now c.loop-i.at qs c.loop-i.tables)
    (instances_from-none a f c.loop-i.i n c.loop-i-test.false) c.loop-i.invariant
