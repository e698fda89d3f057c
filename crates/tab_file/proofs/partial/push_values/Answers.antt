use Rattle.std.proofs.Common.{◌≡◌, ◌+◌, ◌*◌, ◌≤◌, ◌<◌, ◌++◌, ◌∷◌, [], length, ap, subst, ◌∙◌, arith}
use Rattle.std.proofs.lemmas.List.{length-append}
use Rattle.tab_file.specs.Parts.{Adds}
use Rattle.tab_file.proofs.Grown.{Adds-more, Adds-fail}
use Rattle.tab_file.proofs.partial.push_values.Goals as goal

pub returns-in-None-clause-adds : goal.returns-in-None-clause-adds
returns-in-None-clause-adds c file more le stands =
    let bytes = c.args.bytes.now in
    Adds-fail file bytes more c.args.at c.loop-i.i c.args.count c.args.column.now c.loop-i.column le stands (omega (arith, c.requires.count, c.loop-i-test.true)) c.loop-i-test.true c.in-None.ensures (c.loop-i.invariant.adds file more le stands)

pub loop-i-preserved : goal.loop-i-preserved
loop-i-preserved c = record {
  len = ap length c.in_ok-push-in-Some.ensures.ok ∙ length-append c.loop-i.column (c.in-Some.value ∷ []) ∙ omega (arith, c.loop-i.invariant.len);
  adds = λ file more le stands.
      Adds-more file c.args.bytes.now more c.args.at c.loop-i.i c.args.column.now c.loop-i.column c.push.new.self c.in-Some.value le stands (omega (arith, c.requires.count, c.loop-i-test.true)) c.in-Some.ensures.0 c.in-Some.ensures.1
      c.in_ok-push-in-Some.ensures.ok (c.loop-i.invariant.adds file more le stands);
}

pub returns-clause-adds : goal.returns-clause-adds
returns-clause-adds c file more le stands =
    let all : c.loop-i.i ≡ c.args.count = omega (arith, c.loop-i.auto.i-end, c.loop-i-test.false) in
    subst (λ k. Adds file c.args.at k c.args.column.now c.loop-i.column) all (c.loop-i.invariant.adds file more le stands)
