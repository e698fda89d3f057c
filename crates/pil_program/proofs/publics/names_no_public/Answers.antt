use Rattle.std.proofs.Common.{ℕ, ◌≡◌, ◌<◌, ◌≤◌, length, map, get_or, inl, inr, sym, ◌∙◌, ap, subst, below_more, arith}
use Rattle.std.proofs.lemmas.Bool.{cases_lt}
use Rattle.pil_ast.specs.Tree.{line, namespaces}
use Rattle.pil_ast.specs.Term.{item_at, space_at}
use Rattle.pil_program.specs.Publics.{NoneInItem}
use Rattle.pil_program.proofs.Places.{space_at-namespace}
use Rattle.pil_program.proofs.Unnamed.{past-spaces}
use Rattle.pil_program.proofs.publics.names_no_public.Goals as goal

pub loop-space-preserved : goal.loop-space-preserved
loop-space-preserved c = λ s k. below_more (λ j. NoneInItem (item_at (space_at (namespaces c.args.pil.now) j).items k)) c.loop-space.space-index (λ j l. c.loop-space.invariant j k l)
    (let same = c.as_slice-space-items.ensures in
    let at = c.space-item.is ∙ ap (λ ys. get_or ys c.loop-space.space-index c.space-item.result) same in
    let l = subst (λ ys. c.loop-space.space-index < length ys) same c.loop-space-test.true in
    subst (λ n. NoneInItem (item_at n.items k)) (sym (space_at-namespace c.args.pil.now.spaces c.loop-space.space-index c.space-item.result l at))
    (subst (λ items. NoneInItem (item_at (map line items) k)) c.as_slice.ensures (c.none_in_items.ensures c.if-not-none_in_items.false k))) s

pub returns : goal.returns
returns c = λ t s k. elim (cases_lt s c.loop-space.space-index) [
  | inl b ↦ c.loop-space.invariant s k b
  | inr b ↦ past-spaces c.args.pil.now.spaces s k (let past = c.loop-space-test.false in let e = ap length c.as_slice-space-items.ensures in omega arith)
]
