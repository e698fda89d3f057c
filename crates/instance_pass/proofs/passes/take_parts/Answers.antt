use Rattle.std.proofs.Common.{◌<◌, length, flat_map, sym, subst, arith}
use Rattle.std.specs.List.{range_with_len}
use Rattle.pil_program.specs.Blocks.{at_lane}
use Rattle.instance_pass.specs.declared.parts.Part.{Part}
use Rattle.instance_pass.specs.Senders.{sent_by}
use Rattle.instance_pass.specs.Parts.{Takes, IsPartIn}
use Rattle.instance_pass.proofs.Elements.{found-all, first-none, first-next, first-more, first-all}
use Rattle.instance_pass.proofs.passes.take_parts.Goals as goal

pub take-requires-clause-inside : goal.take-requires-clause-inside
take-requires-clause-inside c =
    let h = c.loop-number.invariant in
    let inside : c.loop-number.number < length c.loop-number.parts = let l = c.loop-number-test.true in let a = h.long in omega arith in
    subst (IsPartIn c.args.space (length c.args.blocks.now)) c.index-parts-number.is
    (found-all (IsPartIn c.args.space (length c.args.blocks.now)) c.args.parts.now c.loop-number.number c.index-parts-number.result c.requires.parts
    (first-next _ c.loop-number.number c.args.parts.now c.loop-number.parts c.index-parts-number.result h inside c.index-parts-number.is))

pub loop-number-preserved : goal.loop-number-preserved
loop-number-preserved c =
    let R : Part → Part → Type 0 = λ p q. Takes c.args.space (flat_map (λ j. sent_by (at_lane c.args.blocks.now j) p.sender) (range_with_len 0 c.args.count)) p q in
    let h = c.loop-number.invariant in
    let inside : c.loop-number.number < length c.loop-number.parts = let l = c.loop-number-test.true in let a = h.long in omega arith in
    first-more R c.loop-number.number c.args.parts.now c.loop-number.parts c.index-parts-number.result c.take.new.self h inside c.index-parts-number.is
    (subst (λ p. R p c.take.new.self) (sym c.index-parts-number.is) c.in_ok-take.ensures)

pub returns : goal.returns
returns c = first-all _ c.loop-number.number c.args.parts.now c.loop-number.parts c.loop-number.invariant c.loop-number-test.false

pub loop-number-init : goal.loop-number-init
loop-number-init c = first-none _ c.args.parts.now
