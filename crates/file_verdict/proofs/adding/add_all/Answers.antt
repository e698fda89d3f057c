use Rattle.std.proofs.Common.{◌++◌, take, arith}
use Rattle.file_verdict.proofs.InOrder.{comes_next, stands_at_first, stands_at_last, stands_one_more}
use Rattle.file_verdict.proofs.adding.add_all.Goals as goal

pub loop-table-init : goal.loop-table-init
loop-table-init c = λ sizes before s fill. stands_at_first c.args.image.now sizes before c.args.tables.now c.args.run.now s

pub add-requires : goal.add-requires
add-requires c =
    let r = c.requires in
    let ts = c.args.tables.now in
    let n = c.loop-table.table-index in
    record {
      sizes = r.sizes;
      tables = r.before ++ take n ts;
      stands = c.loop-table.invariant r.sizes r.before r.stands r.fill;
      next = comes_next c.file_laws.ensures.next r.sizes r.before ts n c.table-item.result r.fill c.loop-table-test.true c.table-item.is;
    }

pub loop-table-preserved : goal.loop-table-preserved
loop-table-preserved c = λ sizes before s fill.
    let ts = c.args.tables.now in
    let n = c.loop-table.table-index in
    stands_one_more c.args.image.now sizes before ts n c.table-item.result c.add.new.self c.loop-table-test.true c.table-item.is
    (c.in_ok-add.ensures sizes (before ++ take n ts) (c.loop-table.invariant sizes before s fill) (comes_next c.file_laws.ensures.next sizes before ts n c.table-item.result fill c.loop-table-test.true c.table-item.is))

pub returns : goal.returns
returns c = λ sizes before s fill. stands_at_last c.args.image.now sizes before c.args.tables.now c.loop-table.table-index c.loop-table.run (omega (arith, c.loop-table-test.false)) (c.loop-table.invariant sizes before s fill)
