use Rattle.pil_ast.specs.Tree.{line}
use Rattle.pil_laws.proofs.Loops.{mapped-at, pieces-more}
use Rattle.zk_top.specs.Outcome.{public_line}
use Rattle.zk_top.specs.Parts.{IsPublicIn}
use Rattle.zk_top.proofs.report.push_publics.Goals as goal

pub push_public-requires : goal.push_public-requires
push_public-requires g c =
    mapped-at line (IsPublicIn (g.C.Columns.values c.args.columns.now)) c.args.items.now c.loop-item.item-index c.item-item.result c.loop-item-test.true c.item-item.is c.requires

pub loop-item-preserved : goal.loop-item-preserved
loop-item-preserved g c =
    pieces-more line c.args.items.now c.loop-item.item-index c.item-item.result c.loop-item-test.true c.item-item.is (public_line (g.C.Columns.values c.args.columns.now))
    c.args.text.now.items _ _ c.loop-item.invariant c.in_ok-push_public.ensures
