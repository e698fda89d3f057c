use Rattle.std.proofs.Common.{slice_get, ◌∙◌, ap, arith}
use Rattle.pil_ast.specs.Tree.{namespaces, line}
use Rattle.pil_ast.specs.Holds.{lines}
use Rattle.pil_checker.proofs.Texts.{line-is}
use Rattle.pil_checker.proofs.plans.Plan.new.Goals as goal

pub push_item-requires-clause-line : goal.push_item-requires-clause-line
push_item-requires-clause-line g c = line-is (namespaces c.args.pil.now) c.loop-before.before (line c.line_at-item.result.now) c.requires.sound c.requires.unnamed c.line_at-item.ensures

pub push_item-requires-clause-next : goal.push_item-requires-clause-next
push_item-requires-clause-next g c = ap (slice_get (lines (namespaces c.args.pil.now))) c.loop-before.invariant.planned.checks_long ∙ c.line_at-item.ensures

pub push_item-requires-clause-few : goal.push_item-requires-clause-few
push_item-requires-clause-few g c = let e = c.loop-before.invariant.planned.checks_long in let l = c.loop-before-test.true in omega arith
