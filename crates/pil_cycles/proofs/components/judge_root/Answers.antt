use Rattle.std.proofs.Common.{ℕ, ◌≡◌, ◌<◌, ◌+◌, List, All, Contains, [], ◌∷◌, ◌++◌, length, get_or, sym, subst, ap, ◌∙◌, arith, length-append}
use Rattle.std.proofs.lemmas.Option.{slice_get_within}
use Rattle.std.proofs.lemmas.List.Elements.{All-contains}
use Rattle.pil_cycles.specs.declared.components.Verdict.TheVariants.{Unknown}
use Rattle.pil_cycles.specs.Users.{Uses}
use Rattle.pil_cycles.specs.Verdicts.{IsUnknown, IsJudged, IsSpread}
use Rattle.pil_cycles.proofs.Lists.{contains_standing, all_last}
use Rattle.pil_cycles.proofs.Marks.{known_where}
use Rattle.pil_cycles.proofs.Spread.{spread_begin, spread_more, spread_end_known, spread_end_free, users_read, users_within}
use Rattle.pil_cycles.proofs.components.judge_root.Goals as goal
use Rattle.pil_cycles.proofs.components.judge_root.Goals.{then-is_unknown, else-is_unknown}

pub loop-item-init : goal.loop-item-init
loop-item-init c =
    let root_in : c.args.root < length c.args.users.now = All-contains (λ k. k < length c.args.users.now) c.args.order.now c.args.root c.requires.order.inside (contains_standing c.args.order.now c.args.at c.args.root c.requires.root) in
    spread_begin (Uses c.args.users.now) (length c.args.users.now) c.args.order.now c.args.at c.args.root c.args.verdicts.now c.push.new.self c.requires.judged c.requires.root root_in (c.in_ok-push.ensures.ok ∙ ap (λ s. s ++ c.args.root ∷ []) c.new-todo.ensures)

item_in : (todo rest : List ℕ) (item n : ℕ) → todo ≡ rest ++ item ∷ [] → All (λ k. k < n) todo → item < n
item_in todo rest item n same inside = all_last (λ k. k < n) rest item (subst (λ s. All (λ k. k < n) s) same inside)

pub mark_all-requires : goal.mark_all-requires
mark_all-requires c =
    let inside : c.in-Some.item < length c.args.users.now = item_in c.loop-item.todo c.pop.new.self c.in-Some.item (length c.args.users.now) c.in-Some.ensures c.loop-item.invariant.inside in
    users_within c.args.users.now c.in-Some.item (length c.loop-item.verdicts) c.as_slice.result.now (users_read c.args.users.now c.in-Some.item c.as_slice.result.now c.index-users-item.result inside c.as_slice.ensures c.index-users-item.is) c.requires.users c.loop-item.invariant.long

pub loop-item-smaller : goal.loop-item-smaller
loop-item-smaller c =
    let size : length c.loop-item.todo ≡ length c.pop.new.self + 1 = ap length c.in-Some.ensures ∙ length-append c.pop.new.self (c.in-Some.item ∷ []) in
    omega (arith, c.in_ok-mark_all.ensures.size)

pub loop-item-preserved : goal.loop-item-preserved
loop-item-preserved c =
    let inside : c.in-Some.item < length c.args.users.now = item_in c.loop-item.todo c.pop.new.self c.in-Some.item (length c.args.users.now) c.in-Some.ensures c.loop-item.invariant.inside in
    let read : c.as_slice.result.now ≡ get_or c.args.users.now c.in-Some.item [] = users_read c.args.users.now c.in-Some.item c.as_slice.result.now c.index-users-item.result inside c.as_slice.ensures c.index-users-item.is in
    spread_more (Uses c.args.users.now) (length c.args.users.now) c.args.order.now c.args.at c.args.root c.loop-item.verdicts c.mark_all.new.verdicts c.loop-item.todo c.pop.new.self c.mark_all.new.todo c.as_slice.result.now c.in-Some.item c.requires.order c.requires.users c.loop-item.invariant c.in-Some.ensures
    (λ a on. subst (λ s. Contains s a) read on) (λ a on. subst (λ s. Contains s a) (sym read) on) c.in_ok-mark_all.ensures

pub bounds-verdicts-root : goal.bounds-verdicts-root
bounds-verdicts-root c = slice_get_within c.loop-item.verdicts c.args.root Unknown (c.is_unknown-2.ensures.0 c.if-is_unknown.true)

pub returns : goal.returns
returns c =
    let spread : IsSpread (Uses c.args.users.now) (length c.args.users.now) c.args.order.now c.args.at c.args.root c.loop-item.verdicts [] = subst (λ t. IsSpread (Uses c.args.users.now) (length c.args.users.now) c.args.order.now c.args.at c.args.root c.loop-item.verdicts t) c.in_default.ensures.0 c.loop-item.invariant in
    let root_in : c.args.root < length c.args.users.now = All-contains (λ k. k < length c.args.users.now) c.args.order.now c.args.root c.requires.order.inside (contains_standing c.args.order.now c.args.at c.args.root c.requires.root) in
    elim c.if-is_unknown.branch [
      | then-is_unknown w ↦
          subst (λ v. IsJudged (Uses c.args.users.now) (length c.args.users.now) c.args.order.now c.args.at v) (sym w.verdicts-is)
          (spread_end_free (Uses c.args.users.now) (length c.args.users.now) c.args.order.now c.args.at c.args.root c.loop-item.verdicts spread c.requires.root (c.is_unknown-2.ensures.0 w.if-is_unknown.true))
      | else-is_unknown w ↦
          let not_u : ¬ IsUnknown c.loop-item.verdicts c.args.root = λ e. let n : ⊥ = cc (c.is_unknown-2.ensures.1 e, w.if-is_unknown.false) in n in
          subst (λ v. IsJudged (Uses c.args.users.now) (length c.args.users.now) c.args.order.now c.args.at v) (sym w.verdicts-is)
          (spread_end_known (Uses c.args.users.now) (length c.args.users.now) c.args.order.now c.args.at c.args.root c.loop-item.verdicts spread c.requires.root (known_where c.loop-item.verdicts c.args.root (omega (arith, spread.long)) not_u))
    ]
