use Rattle.pil_ast.specs.Tree.{line}
use Rattle.std.proofs.Common.{◌∙◌}
use Rattle.bus_check.proofs.Readable.{four, same_items}
use Rattle.bus_check.proofs.tests.items.Goals as goal

pub returns : goal.returns
returns c =
    four line c.new-items.result c.push.new.self c.push-2.new.self c.push-3.new.self c.push-4.new.self c.commit.result c.commit-2.result c.commit-3.result c.args.item c.new-items.ensures c.in_ok-push.ensures.ok c.in_ok-push-2.ensures.ok c.in_ok-push-3.ensures.ok c.in_ok-push-4.ensures.ok
    ∙ same_items _ _ _ (line c.args.item) c.commit.ensures c.commit-2.ensures c.commit-3.ensures
