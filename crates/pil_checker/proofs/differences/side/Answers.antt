use Rattle.std.proofs.Common.{◌≡◌, ◌-◌, ◌+◌, ◌<◌, ◌++◌, List, Some, length, slice_get, ap, sym, ◌∙◌, subst, arith}
use Rattle.instance_pass.specs.declared.parts.Part.{Part}
use Rattle.pil_checker.specs.Standing.{tuples_at, side_of}
use Rattle.pil_checker.proofs.Compared.{tuples-found}
use Rattle.pil_checker.proofs.Elements.{read-found}
use Rattle.pil_checker.proofs.Given.{given-more}
use Rattle.pil_checker.proofs.Rows.{side-more}
use Rattle.pil_checker.proofs.differences.side.Goals as goal

pub loop-number-preserved : goal.loop-number-preserved
loop-number-preserved c =
    let low = c.loop-number.auto.number in
    let test = c.loop-number-test.true in
    let high = c.requires.high in
    let number = c.loop-number.number in
    let h = c.loop-number.invariant in
    let old : List Part = c.args.parts.now.items in
    let now : List Part = c.loop-number.parts.items in
    let p : Part = c.index_mut.result.now in
    let inside : number < length now = let e = h.1.senders.long in omega arith in
    let there : slice_get old number ≡ Some p = sym (h.1.rest number (omega arith)) ∙ read-found now number p inside c.index_mut.ensures.value in
    let at : c.args.first + (number - c.args.first) ≡ number = omega arith in
    let next : (number - c.args.first) + 1 ≡ (number + 1) - c.args.first = omega arith in (
      subst (λ n. c.append.new.self ≡ side_of old c.args.first n) next
          (side-more (tuples_at old) c.args.first (number - c.args.first) number c.loop-number.tuples c.append.new.self p.tuples at h.0 (c.in_ok-append.ensures ∙ ap (λ t. c.loop-number.tuples ++ t) c.given.ensures.tuples) (tuples-found old number p there)),
      given-more number old now p c.given.new.part h.1 inside c.index_mut.ensures.value c.given.ensures.sender,
    )
