use Rattle.std.proofs.Common.{ℕ, ◌<◌, ◌≤◌, length, map, inl, inr, sym, subst, below_more, arith}
use Rattle.std.proofs.lemmas.Bool.{cases_lt}
use Rattle.pil_ast.specs.Tree.{line}
use Rattle.pil_ast.specs.Term.{item_at}
use Rattle.pil_program.specs.Publics.{NoneInItem}
use Rattle.pil_program.proofs.Unnamed.{item-read, past-items}
use Rattle.pil_program.proofs.publics.none_in_items.Goals as goal

pub loop-item-preserved : goal.loop-item-preserved
loop-item-preserved c =
    below_more (λ j. NoneInItem (item_at (map line c.args.items.now) j)) c.loop-item.item-index c.loop-item.invariant
    (subst NoneInItem (sym (item-read c.args.items.now c.loop-item.item-index c.item-item.result c.loop-item-test.true c.item-item.is)) (c.none_in_item.ensures c.if-not-none_in_item.false))

pub returns : goal.returns
returns c = λ t k. elim (cases_lt k c.loop-item.item-index) [
  | inl b ↦ c.loop-item.invariant k b
  | inr b ↦ past-items c.args.items.now k (let past = c.loop-item-test.false in omega arith)
]
