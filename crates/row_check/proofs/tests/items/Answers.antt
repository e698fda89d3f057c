use Rattle.pil_ast.specs.Tree.{line}
use Rattle.std.proofs.Common.{◌∙◌}
use Rattle.row_check.proofs.Readable.{two, same_items}
use Rattle.row_check.proofs.tests.items.Goals as goal

pub returns : goal.returns
returns c =
    two line c.new-items.result c.push.new.self c.push-2.new.self c.commit.result c.in_ok-identity.field-0 c.new-items.ensures c.in_ok-push.ensures.ok c.in_ok-push-2.ensures.ok
    ∙ same_items _ _ c.commit.ensures c.in_ok-identity.ensures
