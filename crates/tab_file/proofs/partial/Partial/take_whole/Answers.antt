use Rattle.std.proofs.Common.{◌≡◌, ◌≤◌, ◌<◌, ◌+◌, ◌-◌, ◌*◌, ◌++◌, [], ℕ, List, length, drop, refl, ap, ◌∙◌, arith}
use Rattle.std.proofs.lemmas.Result.{err_from_is_err_and}
use Rattle.tab_file.specs.declared.partial.Partial.{Partial}
use Rattle.tab_file.proofs.Values.{values_fail, run_stands, run_taken, tail_kept}
use Rattle.tab_file.proofs.partial.Partial.take_whole.Goals as goal

pub returns-in_err-push_values-clause-takes : goal.returns-in_err-push_values-clause-takes
returns-in_err-push_values-clause-takes c file begin n q more s =
    let g = c.args.self.now in
    let r = err_from_is_err_and c.from_residual.result c.from_residual.ensures.1 in
    let stands = run_stands file begin n q g c.args.piece.now more (8 * c.min-count.result) s c.requires.part in
    rw (r.1, r.2) (values_fail file begin n q g _ c.min-count.result c.in_err-push_values.field-0.0 s c.requires.heads c.requires.columns (omega (arith, s.rows, c.min-count.ensures, c.saturating_sub-wanted.ensures, c.len.ensures))
    (c.in_err-push_values.ensures.adds file _ s.passed.whole stands))

pub returns-then-count-wanted-clause-takes : goal.returns-then-count-wanted-clause-takes
returns-then-count-wanted-clause-takes c file begin n q more s =
    let g = c.args.self.now in
    let stands = run_stands file begin n q g c.args.piece.now more (8 * c.min-count.result) s c.requires.part in
    let h : Partial = record { alloc = g.alloc; due = g.due; air = g.air; heads = g.heads; columns = g.columns; column = c.push_values.new.column; at = g.at + 8 * c.min-count.result; part = g.part } in
    let taken = run_taken file begin n q g h c.args.piece.now more c.min-count.result s c.requires.heads c.requires.columns c.requires.part
    (omega (arith, c.min-count.ensures)) (omega (arith, s.rows, c.min-count.ensures, c.saturating_sub-wanted.ensures, c.len.ensures)) (record {
      due = refl;
      air = refl;
      heads = refl;
      columns = refl;
      at = refl;
      part = c.requires.part;
      adds = c.in_ok-push_values.ensures.adds file _ s.passed.whole stands;
    }) in
    tail_kept file begin n q h _ c.args.piece.now more (8 * c.min-count.result) taken c.requires.heads c.requires.part (record { due = refl; air = refl; heads = refl; columns = refl; column = refl; at = refl })
    (c.requires.columns, omega (arith, c.in_ok-push_values.ensures.len, c.if-count-wanted.true, c.saturating_sub-wanted.ensures, c.len.ensures)) c.in_ok-extend_from_slice.ensures.items (omega (arith, c.min-count.ensures, c.if-count-wanted.true))

pub returns-clause-waits : goal.returns-clause-waits
returns-clause-waits c less = absurd (omega (arith, less, c.in_ok-push_values.ensures.len, c.if-count-wanted.false, c.saturating_sub-wanted.ensures, c.len.ensures))

pub returns-clause-takes : goal.returns-clause-takes
returns-clause-takes c file begin n q more s =
    let g = c.args.self.now in
    let stands = run_stands file begin n q g c.args.piece.now more (8 * c.min-count.result) s c.requires.part in
    run_taken file begin n q g _ c.args.piece.now more c.min-count.result s c.requires.heads c.requires.columns c.requires.part
    (omega (arith, c.min-count.ensures)) (omega (arith, s.rows, c.min-count.ensures, c.saturating_sub-wanted.ensures, c.len.ensures)) (record {
      due = refl;
      air = refl;
      heads = refl;
      columns = refl;
      at = refl;
      part = c.requires.part;
      adds = c.in_ok-push_values.ensures.adds file _ s.passed.whole stands;
    })
