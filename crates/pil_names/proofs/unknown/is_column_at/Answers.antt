use Rattle.std.proofs.Common.{sym, ap, ◌∙◌}
use Rattle.pil_names.specs.Outline.{home_at}
use Rattle.pil_names.specs.Wrongs.{is_column}
use Rattle.pil_names.specs.Shown.{draft, outlined}
use Rattle.pil_names.proofs.Lookups.{draft-within, draft-past}
use Rattle.pil_names.proofs.unknown.is_column_at.Goals as goal

pub returns-in-Some : goal.returns-in-Some
returns-in-Some c =
    let h = c.in-Some.ensures in
    let items = (home_at (outlined c.args.outline.now).homes c.args.home).items in
    c.is_column.ensures ∙ ap is_column (sym (draft-within items c.args.item (draft c.in-Some.found) (sym h)))

pub returns-in-None : goal.returns-in-None
returns-in-None c =
    let h = c.in-None.ensures in
    let items = (home_at (outlined c.args.outline.now).homes c.args.home).items in
    ap is_column (sym (draft-past items c.args.item (sym h)))
