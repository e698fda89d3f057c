use Rattle.std.proofs.Common.{sym, ◌∙◌}
use Rattle.pil_names.proofs.Numbers.{Adds-new}
use Rattle.pil_names.proofs.names.Names.add.Goals as goal

pub returns-clause-added : goal.returns-clause-added
returns-clause-added c =
    Adds-new
    c.args.self.now
    (record { numbers = c.insert.new.self })
    c.in_ok-from_slice.field-0.items
    c.args.name.now
    c.args.number
    c.in_ok-from_slice.ensures.items
    (sym c.contains.ensures ∙ c.if-contains.false)
    c.in_ok-insert.ensures.updates
