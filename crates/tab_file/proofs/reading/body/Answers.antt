use Rattle.std.proofs.Common.{length, ◌∙◌, ap, sym, Some}
use Rattle.std.specs.Int.{w32}
use Rattle.tab_file.specs.Reading.{numbers_from}
use Rattle.tab_file.proofs.Going.{IfErr-passed, length-numbers_from}
use Rattle.tab_file.proofs.Whole.{counts_fail, tables_fail, ends, ends_whole, ends_early, tables_are}
use Rattle.tab_file.proofs.reading.body.Goals as goal

pub returns-in_err-counts-clause-err : goal.returns-in_err-counts-clause-err
returns-in_err-counts-clause-err c =
    let bytes = c.args.bytes.now in
    let fs = c.args.airs.now in
    let e = c.in_err-counts.field-0.0 in
    IfErr-passed c.from_residual.result e _ c.from_residual.ensures.1
    (counts_fail bytes c.args.start c.args.machine fs (numbers_from w32 bytes c.args.start (length fs)) e c.in_err-counts.ensures.fail)

pub tables-requires-clause-counts : goal.tables-requires-clause-counts
tables-requires-clause-counts c = rw (c.deref.ensures.value, c.in_ok-counts.ensures.values) (length-numbers_from w32 c.args.bytes.now c.args.start (length c.args.airs.now))

pub returns-in_err-tables-clause-err : goal.returns-in_err-tables-clause-err
returns-in_err-tables-clause-err c =
    let bytes = c.args.bytes.now in
    let fs = c.args.airs.now in
    let e = c.in_err-tables.field-0.0 in
    IfErr-passed c.from_residual-in_err-tables.result e _ c.from_residual-in_err-tables.ensures.1
    (tables_fail bytes c.args.start c.in_ok-counts.at c.args.machine fs (numbers_from w32 bytes c.args.start (length fs)) c.deref.result.now e c.in_ok-counts.ensures.pass
    (c.deref.ensures.value ∙ c.in_ok-counts.ensures.values) c.in_err-tables.ensures.fail)

pub returns-then-end-bytes-clause-err : goal.returns-then-end-bytes-clause-err
returns-then-end-bytes-clause-err c =
    let bytes = c.args.bytes.now in
    let fs = c.args.airs.now in
    λ _. ends bytes c.args.start c.in_ok-counts.at c.in_ok-tables.end c.args.machine fs (numbers_from w32 bytes c.args.start (length fs)) c.deref.result.now c.in_ok-tables.tables c.in_ok-counts.ensures.pass
    (c.deref.ensures.value ∙ c.in_ok-counts.ensures.values) c.in_ok-tables.ensures.read
    ∙ ends_early bytes c.in_ok-tables.end c.if-end-bytes.true ∙ ap (λ e. Some e) (sym c.fault.ensures)

pub returns-clause-ok : goal.returns-clause-ok
returns-clause-ok c =
    let bytes = c.args.bytes.now in
    let fs = c.args.airs.now in
    ends bytes c.args.start c.in_ok-counts.at c.in_ok-tables.end c.args.machine fs (numbers_from w32 bytes c.args.start (length fs)) c.deref.result.now c.in_ok-tables.tables c.in_ok-counts.ensures.pass
    (c.deref.ensures.value ∙ c.in_ok-counts.ensures.values) c.in_ok-tables.ensures.read
    ∙ ends_whole bytes c.in_ok-tables.end c.if-end-bytes.false

pub returns-clause-tables : goal.returns-clause-tables
returns-clause-tables c =
    let bytes = c.args.bytes.now in
    let fs = c.args.airs.now in
    tables_are bytes c.args.start c.in_ok-counts.at c.in_ok-tables.end fs (numbers_from w32 bytes c.args.start (length fs)) c.deref.result.now c.in_ok-tables.tables c.in_ok-counts.ensures.next
    (c.deref.ensures.value ∙ c.in_ok-counts.ensures.values) c.in_ok-tables.ensures.read
