use Rattle.std.proofs.Common.{◌≡◌, ◌<◌, ◌+◌, [], ◌∷◌, ◌++◌, take, length, get_or, set, sym, subst}
use Rattle.std.proofs.lemmas.List.{take_more}
use Rattle.pil_cycles.specs.declared.components.Verdict.TheVariants.{Cyclic}
use Rattle.pil_cycles.specs.Verdicts.{IsMarked, IsUnknown}
use Rattle.pil_cycles.proofs.Marks.{marks_none, marks_known, marks_new}
use Rattle.pil_cycles.proofs.components.mark_all.Goals as goal
use Rattle.pil_cycles.proofs.components.mark_all.Goals.{then-is_unknown+in_ok-push, else-is_unknown}

pub loop-item-init : goal.loop-item-init
loop-item-init c = marks_none c.args.verdicts.now c.args.todo.now

pub loop-item-preserved : goal.loop-item-preserved
loop-item-preserved c =
    let i = c.loop-item.item-index in
    let item = get_or c.args.list.now i 0 in
    let longer : take (i + 1) c.args.list.now ≡ take i c.args.list.now ++ item ∷ [] = take_more c.args.list.now i 0 c.loop-item-test.true in
    let inside : item < length c.args.verdicts.now = c.requires i 0 c.loop-item-test.true in
    subst (λ s. IsMarked s c.args.verdicts.now c.if-is_unknown.verdicts c.args.todo.now c.if-is_unknown.todo) (sym longer)
    (elim c.if-is_unknown.branch [
      | then-is_unknown+in_ok-push w ↦
          subst (λ v. IsMarked (take i c.args.list.now ++ item ∷ []) c.args.verdicts.now v c.args.todo.now c.if-is_unknown.todo) (sym w.verdicts-is)
          (subst (λ t. IsMarked (take i c.args.list.now ++ item ∷ []) c.args.verdicts.now (set c.loop-item.verdicts item Cyclic) c.args.todo.now t) (sym w.todo-is)
          (marks_new (take i c.args.list.now) c.args.verdicts.now c.loop-item.verdicts c.args.todo.now c.loop-item.todo w.push.new.self item c.loop-item.invariant (c.is_unknown.ensures.0 w.if-is_unknown.true) w.in_ok-push.ensures.ok))
      | else-is_unknown w ↦
          let not_u : ¬ IsUnknown c.loop-item.verdicts item = λ e. let n : ⊥ = cc (c.is_unknown.ensures.1 e, w.if-is_unknown.false) in n in
          subst (λ v. IsMarked (take i c.args.list.now ++ item ∷ []) c.args.verdicts.now v c.args.todo.now c.if-is_unknown.todo) (sym w.verdicts-is)
          (subst (λ t. IsMarked (take i c.args.list.now ++ item ∷ []) c.args.verdicts.now c.loop-item.verdicts c.args.todo.now t) (sym w.todo-is)
          (marks_known (take i c.args.list.now) c.args.verdicts.now c.loop-item.verdicts c.args.todo.now c.loop-item.todo item c.loop-item.invariant inside not_u))
    ])
