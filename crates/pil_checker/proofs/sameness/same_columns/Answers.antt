use Rattle.std.proofs.Common.{ℕ, ◌≡◌, ◌<◌, Some, length, map, slice_get, sym, ◌∙◌, ap, below_more, arith}
use Rattle.std.proofs.lemmas.List.{length-map}
use Rattle.pil_ast.specs.Tree.{term}
use Rattle.pil_checker.proofs.Elements.{map-found, same-lists}
use Rattle.pil_checker.proofs.sameness.same_columns.Goals as goal

pub loop-place-preserved : goal.loop-place-preserved
loop-place-preserved c =
    let same = c.if-a-b.false in
    let test = c.loop-place-test.true in
    below_more (λ k. slice_get (map term c.args.a.now) k ≡ slice_get (map term c.args.b.now) k) _ c.loop-place.invariant
    (map-found term c.args.a.now c.loop-place.place c.index-a-place.result (omega arith) c.index-a-place.is ∙ ap Some (c.same_column.ensures c.if-not-same_column.false)
    ∙ sym (map-found term c.args.b.now c.loop-place.place c.index-b-place.result (omega arith) c.index-b-place.is))

pub returns : goal.returns
returns c = λ t.
    let same = c.if-a-b.false in
    let past = c.loop-place-test.false in
    let a = length-map c.args.a.now term in
    let b = length-map c.args.b.now term in
    same-lists (map term c.args.a.now) (map term c.args.b.now) (omega arith) (λ k l. c.loop-place.invariant k (omega arith))
