use Rattle.std.proofs.Common.{ℕ, ◌≡◌, ◌<◌, Some, length, get_or, map, slice_get, option_map, sym, ◌∙◌, ap, below_more, arith}
use Rattle.std.proofs.lemmas.List.{length-map}
use Rattle.std.proofs.lemmas.Option.{slice_get-map, slice_get-get_or}
use Rattle.pil_program.specs.Blocks.{at_lane}
use Rattle.instance_pass.proofs.Elements.{same-lists}
use Rattle.instance_pass.proofs.scans.is_tuple.Goals as goal

pub loop-place-preserved : goal.loop-place-preserved
loop-place-preserved c =
    let v : ℕ → ℕ = at_lane c.args.blocks.now c.args.lane in
    let terms = c.as_slice-terms.result.now in
    let place = c.loop-place.place in
    let long = c.if-tuple-terms.false in
    let test = c.loop-place-test.true in
    below_more (λ k. slice_get c.args.tuple.now k ≡ slice_get (map v terms) k) place c.loop-place.invariant
    (slice_get-get_or c.args.tuple.now place 0 (omega arith) ∙ ap Some (c.if-tuple-place.false ∙ c.value_at.ensures) ∙ sym (slice_get-map v terms place ∙ ap (option_map v) (slice_get-get_or terms place 0 test)))

pub returns : goal.returns
returns c = λ t.
    let v : ℕ → ℕ = at_lane c.args.blocks.now c.args.lane in
    let terms = c.as_slice-terms.result.now in
    let long = c.if-tuple-terms.false in
    let past = c.loop-place-test.false in
    let same = length-map terms v in
    same-lists c.args.tuple.now (map v terms) (omega arith) (λ k l. c.loop-place.invariant k (omega arith)) ∙ ap (map v) c.as_slice-terms.ensures
