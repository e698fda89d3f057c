use Rattle.std.proofs.Common.{◌≡◌, ◌+◌, ◌-◌, length, sym, subst, ◌∙◌, arith}
use Rattle.std.proofs.lemmas.Option.{slice_get-get_or}
use Rattle.pil_cycles.specs.Users.{Uses}
use Rattle.pil_cycles.specs.Verdicts.{IsJudged}
use Rattle.pil_cycles.proofs.Lists.{written_back}
use Rattle.pil_cycles.proofs.Spread.{judged_begin, judged_end}
use Rattle.pil_cycles.proofs.components.judge.Goals as goal

pub loop-back-init : goal.loop-back-init
loop-back-init c = judged_begin (Uses c.args.users.now) (length c.args.users.now) c.args.order.now (length c.args.order.now - 0) c.in_ok-verdicts.verdicts.items (c.in_ok-verdicts.ensures.items_if_clones_equal (λ y e. e)) (omega arith)

pub judge_root-requires-clause-root : goal.judge_root-requires-clause-root
judge_root-requires-clause-root c = slice_get-get_or c.args.order.now (length c.args.order.now - 1 - c.loop-back.back) 0 (omega (arith, c.loop-back-test.true))

pub judge_root-requires-clause-judged : goal.judge_root-requires-clause-judged
judge_root-requires-clause-judged c =
    let here : length c.args.order.now - c.loop-back.back ≡ length c.args.order.now - 1 - c.loop-back.back + 1 = omega (arith, c.loop-back-test.true) in
    subst (λ n. IsJudged (Uses c.args.users.now) (length c.args.users.now) c.args.order.now n c.deref_mut.result.now) here
    (subst (λ v. IsJudged (Uses c.args.users.now) (length c.args.users.now) c.args.order.now (length c.args.order.now - c.loop-back.back) v) (sym c.deref_mut.ensures.value) c.loop-back.invariant)

pub loop-back-preserved : goal.loop-back-preserved
loop-back-preserved c =
    let here : length c.args.order.now - 1 - c.loop-back.back ≡ length c.args.order.now - (c.loop-back.back + 1) = omega arith in
    let same : length c.judge_root.new.verdicts ≡ length c.loop-back.verdicts.items = c.in_ok-judge_root.ensures.long ∙ sym c.loop-back.invariant.long in
    subst (λ v. IsJudged (Uses c.args.users.now) (length c.args.users.now) c.args.order.now (length c.args.order.now - (c.loop-back.back + 1)) v) (sym (written_back c.loop-back.verdicts.len c.loop-back.verdicts.items c.judge_root.new.verdicts c.loop-back.verdicts.ok.0 same))
    (subst (λ n. IsJudged (Uses c.args.users.now) (length c.args.users.now) c.args.order.now n c.judge_root.new.verdicts) here c.in_ok-judge_root.ensures)

pub returns : goal.returns
returns c =
    let done : length c.args.order.now - c.loop-back.back ≡ 0 = omega (arith, c.loop-back-test.false) in
    judged_end (Uses c.args.users.now) (length c.args.users.now) c.args.order.now c.loop-back.verdicts.items c.requires.order
    (subst (λ n. IsJudged (Uses c.args.users.now) (length c.args.users.now) c.args.order.now n c.loop-back.verdicts.items) done c.loop-back.invariant)
