use Rattle.std.proofs.Common.{◌≡◌, ◌<◌, ◌≤◌, ◌+◌, ◌∷◌, drop, length, get_or, ◌∙◌, sym, ap, arith}
use Rattle.std.proofs.lemmas.List.{get_or_default}
use Rattle.gold.specs.declared.shapes.AirShape.{AirShape}
use Rattle.tab_file.specs.Steps.{place}
use Rattle.tab_file.specs.Parts.{left_of}
use Rattle.tab_file.proofs.Places.{no_form}
use Rattle.tab_file.proofs.Cursor.{left_of-next, left_of-next_air}
use Rattle.tab_file.proofs.coming.Coming.next.Goals as goal

pub returns-then-self-index-clause-next : goal.returns-then-self-index-clause-next
returns-then-self-index-clause-next c =
    let s = c.loop-self.self in
    let below : c.loop-self.self.number < length c.loop-self.self.airs.items = omega (arith, c.loop-self-test.true, c.len.ensures) in
    let counted : c.loop-self.self.number < length c.loop-self.self.counts.items = omega (arith, c.if-self-len.true, c.len-in-loop-self.ensures) in
    let count = c.index.ensures ∙ get_or_default s.counts.items s.number c.index.result.now 0 counted in
    let form = c.index-then-self-index.ensures ∙ get_or_default s.airs.items s.number c.index-then-self-index.result.now no_form below in
    let here : c.loop-self.self.instance < get_or c.loop-self.self.counts.items c.loop-self.self.number 0 = omega (arith, count, c.if-self-index.true) in
    sym c.loop-self.invariant.left ∙ left_of-next s.airs.items s.counts.items s.number s.instance below counted here
    ∙ ap (λ (f : AirShape). place s.number f s.instance ∷ left_of (drop s.number s.airs.items) (drop s.number s.counts.items) s.number (s.instance + 1)) (sym form)

pub loop-self-preserved : goal.loop-self-preserved
loop-self-preserved c =
    let s = c.loop-self.self in
    let below : c.loop-self.self.number < length c.loop-self.self.airs.items = omega (arith, c.loop-self-test.true, c.len.ensures) in
    let counted : c.loop-self.self.number < length c.loop-self.self.counts.items = omega (arith, c.if-self-len.true, c.len-in-loop-self.ensures) in
    let count = c.index.ensures ∙ get_or_default s.counts.items s.number c.index.result.now 0 counted in
    let over : get_or c.loop-self.self.counts.items c.loop-self.self.number 0 ≤ c.loop-self.self.instance = omega (arith, count, c.if-self-index.false) in
    record {
      airs = c.loop-self.invariant.airs;
      counts = c.loop-self.invariant.counts;
      left = left_of-next_air s.airs.items s.counts.items s.number s.instance below counted over ∙ c.loop-self.invariant.left;
    }
