use Rattle.std.proofs.Common.{◌≡◌, ◌+◌, ◌≤◌, ◌<◌, ◌⊎◌, inl, inr, ⊎_elim, ℕ, List, length, get_or, arith, subst, ap, sym, ◌∙◌}
use Rattle.rv_model.specs.Image.{Img, Seg}
use Rattle.rv_model.specs.declared.machine.TheConstants.{MEMORY_WORDS}
use Rattle.step_rows.specs.declared.doubleword.Doubleword.{Doubleword}
use Rattle.step_rows.specs.Initial.{initial_doublewords}
use Rattle.image_rows.proofs.Doublewords.{few_doublewords}
use Rattle.image_rows.specs.Found.{HasAllDoublewords, end_doubleword, end_of_input}
use Rattle.image_rows.proofs.Zero.{IsPast, past_of, past_further, zero_to_input, zero_to_segment, zero_past, all_doublewords, no_doublewords}
use Rattle.image_rows.proofs.initial.initial_doublewords.Goals as goal
use Rattle.image_rows.proofs.initial.initial_doublewords.Goals.{then-from-ge-INPUT_START+in_ok-add_input, else-from-ge-INPUT_START}

pub loop-segment-init : goal.loop-segment-init
loop-segment-init c = record {
  found = no_doublewords c.args.image.now c.new.result.items c.new.ensures.items;
  most = omega arith;
  past = λ j d lt. absurd (omega arith);
}

pub add_input-requires-clause-zero : goal.add_input-requires-clause-zero
add_input-requires-clause-zero c =
    let start : c.segment.inside.start ≡ c.segment-item.result.start = ap (λ (s : Seg). s.start) c.segment.view_is in
    zero_to_input c.args.image.now c.deref-segment-items.result.now c.loop-segment.segment-index c.loop-segment.found.below c.segment-item.result
    (past_of c.args.image.now c.deref-segment-items.result.now c.image.inside.segments.items c.loop-segment.segment-index c.loop-segment.found.below c.deref-segment-items.ensures.value
    (ap (λ (i : Img). i.segments) c.image.view_is) c.image.invariant.loadable.ascending c.loop-segment.invariant.past)
    c.segment-item.is (omega (arith, c.if-from-ge-INPUT_START.true, c.from.ensures))

pub add_span-requires-clause-zero : goal.add_span-requires-clause-zero
add_span-requires-clause-zero c =
    let start : c.segment.inside.start ≡ c.segment-item.result.start = ap (λ (s : Seg). s.start) c.segment.view_is in
    let past : IsPast c.args.image.now c.deref-segment-items.result.now c.loop-segment.segment-index c.loop-segment.found.below =
    past_of c.args.image.now c.deref-segment-items.result.now c.image.inside.segments.items c.loop-segment.segment-index c.loop-segment.found.below c.deref-segment-items.ensures.value
    (ap (λ (i : Img). i.segments) c.image.view_is) c.image.invariant.loadable.ascending c.loop-segment.invariant.past in
    λ k low high.
    elim c.if-from-ge-INPUT_START.branch [
      | then-from-ge-INPUT_START+in_ok-add_input w ↦
          let e = w.in_ok-add_input.ensures.1 in
          let b : c.if-from-ge-INPUT_START.found.below ≡ w.add_input.new.self.below = ap (λ f. f.below) w.found-is in
          zero_to_segment c.args.image.now c.deref-segment-items.result.now c.loop-segment.segment-index w.add_input.new.self.below c.segment-item.result
          (past_further c.args.image.now c.deref-segment-items.result.now c.loop-segment.segment-index c.loop-segment.found.below w.add_input.new.self.below past (omega arith))
          c.segment-item.is (inl (omega arith)) k (omega arith) (omega arith)
      | else-from-ge-INPUT_START w ↦
          let b : c.if-from-ge-INPUT_START.found.below ≡ c.loop-segment.found.below = ap (λ f. f.below) w.found-is in
          zero_to_segment c.args.image.now c.deref-segment-items.result.now c.loop-segment.segment-index c.loop-segment.found.below c.segment-item.result past
          c.segment-item.is (inr (omega (arith, w.if-from-ge-INPUT_START.false, c.from.ensures))) k (omega arith) (omega arith)
    ]

pub add_input-requires-2-clause-zero : goal.add_input-requires-2-clause-zero
add_input-requires-2-clause-zero c =
    let past = past_of c.args.image.now c.deref-segment-items.result.now c.image.inside.segments.items c.loop-segment.segment-index c.loop-segment.found.below c.deref-segment-items.ensures.value
    (ap (λ (i : Img). i.segments) c.image.view_is) c.image.invariant.loadable.ascending c.loop-segment.invariant.past in
    λ k low high. zero_past c.args.image.now c.deref-segment-items.result.now c.loop-segment.segment-index c.loop-segment.found.below past c.loop-segment-test.false k low (inr high)

found_all : (c : goal.In_ok-add_input-2) → c.add_input-2.new.self.doublewords.items ≡ initial_doublewords c.args.image.now
found_all c =
    let past = past_of c.args.image.now c.deref-segment-items.result.now c.image.inside.segments.items c.loop-segment.segment-index c.loop-segment.found.below c.deref-segment-items.ensures.value
    (ap (λ (i : Img). i.segments) c.image.view_is) c.image.invariant.loadable.ascending c.loop-segment.invariant.past in
    let h = c.in_ok-add_input-2.ensures in
    let n : length c.image.inside.input.items ≡ length c.args.image.now.input = ap (λ (i : Img). length i.input) c.image.view_is in
    let fits = c.image.invariant.loadable.input in
    all_doublewords c.args.image.now c.add_input-2.new.self.doublewords.items c.add_input-2.new.self.below (omega (arith, h.1, n, fits, c.loop-segment.invariant.most)) h.0
    (λ k low. zero_past c.args.image.now c.deref-segment-items.result.now c.loop-segment.segment-index c.add_input-2.new.self.below
    (past_further c.args.image.now c.deref-segment-items.result.now c.loop-segment.segment-index c.loop-segment.found.below c.add_input-2.new.self.below past (omega (arith, h.1)))
    c.loop-segment-test.false k low (inl (omega (arith, h.1))))

pub returns : goal.returns
returns c =
    let e = found_all c in
    record { value = e; few = let P : List Doubleword → Type 0 = λ l. length l ≤ MEMORY_WORDS in subst P (sym e) (few_doublewords c.args.image.now) }
