use Rattle.std.proofs.Common.{◌≡◌, ◌∙◌, All, length, ap, arith}
use Rattle.std.proofs.lemmas.List.FromFn.{length-map-range_with_len}
use Rattle.gold.specs.Field.{AreCanonical}
use Rattle.verdict.specs.Frames.{constants_at}
use Rattle.verdict.proofs.Written.{all_more, map_more}
use Rattle.verdict.proofs.constants.constant_instances.Goals as goal

pub loop-instance-preserved : goal.loop-instance-preserved
loop-instance-preserved c = (
  map_more (λ i. constants_at c.args.fixed.now c.args.space i c.args.rows) c.loop-instance.instances c.push.new.self c.loop-instance.instance c.in_ok-columns.columns c.loop-instance.invariant.0 c.in_ok-push.ensures.ok c.in_ok-columns.ensures.columns,
  all_more AreCanonical c.loop-instance.instances c.push.new.self c.in_ok-columns.columns c.loop-instance.invariant.1 c.in_ok-push.ensures.ok c.in_ok-columns.ensures.canonical,
)

pub returns-clause-few : goal.returns-clause-few
returns-clause-few c =
    let long : length c.loop-instance.instances ≡ c.loop-instance.instance = ap length c.loop-instance.invariant.0 ∙ length-map-range_with_len (λ i. constants_at c.args.fixed.now c.args.space i c.args.rows) 0 c.loop-instance.instance in
    omega arith
