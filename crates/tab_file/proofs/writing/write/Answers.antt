use Rattle.std.proofs.Common.{All, sym, subst}
use Rattle.gold.specs.Shapes.{counts_from}
use Rattle.gold.specs.declared.shapes.Form.TheVariants.{Two}
use Rattle.tab_file.specs.Format.{header}
use Rattle.tab_file.specs.Pieces.{IsSmall}
use Rattle.tab_file.proofs.Heights.{tables_small, counts_small, texts_more, texts_all}
use Rattle.tab_file.proofs.writing.write.Goals as goal

pub put_header-requires : goal.put_header-requires
put_header-requires c = counts_small c.args.witness.now c.requires

pub put_table-requires : goal.put_table-requires
put_table-requires c =
    let all : All IsSmall c.as_slice-tables.result.now = rw c.as_slice-tables.ensures.items (tables_small c.args.witness.now c.requires) in
    let small = subst IsSmall (sym c.table-item.is) (all c.loop-table.table-index c.table-item.result c.loop-table-test.true) in
    small

pub loop-table-preserved : goal.loop-table-preserved
loop-table-preserved c =
    let w = c.args.witness.now in
    texts_more c.as_slice-tables.result.now c.loop-table.table-index c.table-item.result (header Two w.profile 7 (counts_from 0 7 w.tables)) c.loop-table.out.items c.put_table.new.out.items c.loop-table-test.true c.table-item.is c.loop-table.invariant c.in_ok-put_table.ensures

pub returns-clause-text : goal.returns-clause-text
returns-clause-text c = texts_all c.args.witness.now c.as_slice-tables.result.now c.loop-table.table-index c.loop-table.out.items c.requires c.loop-table-test.false c.as_slice-tables.ensures.items c.loop-table.invariant

pub returns-clause-reads : goal.returns-clause-reads
returns-clause-reads c = record { shaped = c.requires; spelled = returns-clause-text c }
