use Rattle.std.proofs.Common.{◌≡◌, ◌≤◌, ◌+◌, ◌-◌, ◌++◌, ℕ, List, length, drop, ◌∙◌, arith}
use Rattle.std.proofs.lemmas.Result.{err_from_is_err_and}
use Rattle.std.proofs.lemmas.List.{length-drop}
use Rattle.tab_file.specs.Items.{instance_items}
use Rattle.tab_file.specs.Parts.{Fails}
use Rattle.tab_file.proofs.Values.{step_on, fail_on}
use Rattle.tab_file.proofs.partial.Partial.take_column.Goals as goal

pub returns-in_err-more-clause-takes : goal.returns-in_err-more-clause-takes
returns-in_err-more-clause-takes c file begin n q more s =
    let r = err_from_is_err_and c.from_residual-in_err-more.result c.from_residual-in_err-more.ensures.1 in
    rw (r.1, r.2) (fail_on (Fails file begin (instance_items n q) c.in_err-more.field-0.0) file begin n q c.take_part.new.self c.args.piece.now more c.in_ok-done.done (c.in_err-more.ensures.takes file begin n q more) (c.in_ok-done.ensures.takes file begin n q more s))

pub returns-clause-takes : goal.returns-clause-takes
returns-clause-takes c file begin n q more s =
    step_on file begin n q c.take_part.new.self c.take_whole.new.self c.args.piece.now more c.in_ok-done.done c.in_ok-more.more
    (c.in_ok-more.ensures.takes file begin n q more) (c.in_ok-done.ensures.takes file begin n q more s)
