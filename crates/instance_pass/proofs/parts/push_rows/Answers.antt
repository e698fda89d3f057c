use Rattle.std.proofs.Common.{ℕ, ◌++◌, ◌∷◌, [], List, Bool, cond, map, sym, ◌∙◌, ap}
use Rattle.std.proofs.lemmas.List.{append-nil}
use Rattle.pil_program.specs.Blocks.{at_lane}
use Rattle.instance_pass.specs.Senders.{sent_by}
use Rattle.instance_pass.proofs.Rows.{rows-more}
use Rattle.instance_pass.proofs.parts.push_rows.Goals as goal
use Rattle.instance_pass.proofs.parts.push_rows.Goals.{then-selects+in_ok-tuple-2+in_ok-push, else-selects}

pub loop-lane-preserved : goal.loop-lane-preserved
loop-lane-preserved c =
    let v : ℕ → ℕ = at_lane c.args.blocks.now c.loop-lane.lane in
    let old : List (List ℕ) = c.loop-lane.tuples in
    let sends : Bool → List (List ℕ) = λ b. old ++ cond b (map v c.args.sender.now.terms ∷ []) [] in
    rows-more (λ j. sent_by (at_lane c.args.blocks.now j) c.args.sender.now) c.loop-lane.lane c.args.tuples.now old c.if-selects.tuples c.loop-lane.invariant
    (elim c.if-selects.branch [
      | then-selects+in_ok-tuple-2+in_ok-push w ↦ w.tuples-is ∙ w.in_ok-push.ensures ∙ ap (λ t. old ++ t ∷ []) (w.as_slice.ensures.value ∙ w.in_ok-tuple-2.ensures) ∙ ap sends (sym (sym c.selects.ensures ∙ w.if-selects.true))
      | else-selects w ↦ w.tuples-is ∙ sym (append-nil old) ∙ ap sends (sym (sym c.selects.ensures ∙ w.if-selects.false))
    ])
