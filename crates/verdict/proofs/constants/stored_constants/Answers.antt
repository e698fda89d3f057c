use Rattle.std.proofs.Common.{ℕ, ◌≡◌, ◌<◌, ◌^◌, List, All, length, sym, ap, map, subst, arith, ◌∙◌}
use Rattle.std.specs.List.{range_with_len}
use Rattle.gold.specs.Field.{AreCanonical}
use Rattle.pil_ast.specs.Term.{space_at}
use Rattle.verdict.specs.Frames.{instances_at, instances_with}
use Rattle.verdict.proofs.Written.{all_more, map_more}
use Rattle.verdict.proofs.Start.{is_held}
use Rattle.verdict.proofs.constants.stored_constants.Goals as goal

pub loop-space-preserved : goal.loop-space-preserved
loop-space-preserved c = (
  map_more (instances_at c.args.fixed.now c.args.profile) c.loop-space.spaces c.push.new.self c.loop-space.space c.in_ok-instances.instances c.loop-space.invariant.0 c.in_ok-push.ensures.ok
      (c.in_ok-instances.ensures.columns ∙ ap (instances_with c.args.fixed.now c.loop-space.space) (c.rows.ensures ∙ ap (λ ns. (space_at ns c.loop-space.space).rows) c.requires)),
  all_more (λ (x : List (List (List ℕ))). length x < 2 ^ 32) c.loop-space.spaces c.push.new.self c.in_ok-instances.instances c.loop-space.invariant.1 c.in_ok-push.ensures.ok c.in_ok-instances.ensures.few,
  all_more (All AreCanonical) c.loop-space.spaces c.push.new.self c.in_ok-instances.instances c.loop-space.invariant.2 c.in_ok-push.ensures.ok c.in_ok-instances.ensures.canonical,
)

pub new-requires : goal.new-requires
new-requires c =
    let six : c.loop-space.space ≡ 6 = omega arith in
    is_held c.args.fixed.now c.args.profile c.loop-space.spaces (subst (λ n. c.loop-space.spaces ≡ map (instances_at c.args.fixed.now c.args.profile) (range_with_len 0 n)) six c.loop-space.invariant.0) c.loop-space.invariant.1 c.loop-space.invariant.2
