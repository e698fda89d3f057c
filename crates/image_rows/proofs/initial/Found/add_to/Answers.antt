use Rattle.std.proofs.Common.{◌≡◌, ◌≤◌, ◌+◌, ℕ, max, arith, subst, ap, sym, ◌∙◌}
use Rattle.image_rows.specs.Found.{HasAllDoublewords}
use Rattle.image_rows.proofs.Zero.{doubleword_found, doublewords_same}
use Rattle.image_rows.proofs.initial.Found.add_to.Goals as goal
use Rattle.image_rows.proofs.initial.Found.add_to.Goals.{then-value-ne0+in_ok-push, else-value-ne0}

pub loop-number-preserved : goal.loop-number-preserved
loop-number-preserved c =
    let h = c.loop-number.invariant in
    let image = c.args.image.now in
    elim c.if-value-ne0.branch [
      | then-value-ne0+in_ok-push w ↦ rw w.self-is (record {
        found = doubleword_found image c.loop-number.self.doublewords.items _ c.loop-number.number c.word-value.result h.found c.word-value.ensures w.if-value-ne0.true w.in_ok-push.ensures.items;
        below = h.below;
        at_most = omega arith;
      })
      | else-value-ne0 w ↦ rw w.self-is (record {
        found = doublewords_same image c.loop-number.self.doublewords.items c.loop-number.number (c.loop-number.number + 1) (omega arith) h.found
            (λ k low high. let e : k ≡ c.loop-number.number = omega arith in rw e (sym c.word-value.ensures ∙ w.if-value-ne0.false));
        below = h.below;
        at_most = omega arith;
      })
    ]

pub returns : goal.returns
returns c =
    let h = c.loop-number.invariant in
    let e : c.loop-number.number ≡ c.max-self.result = omega (arith, c.max-self.ensures) in
    let P : ℕ → Type 0 = λ n. HasAllDoublewords c.args.image.now c.loop-number.self.doublewords.items n in
    (subst P e h.found, omega (arith, c.max-self.ensures))
