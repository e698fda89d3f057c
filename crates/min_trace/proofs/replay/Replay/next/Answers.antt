use Rattle.std.proofs.Common.{◌≡◌, ◌+◌, ◌*◌, ◌<◌, ◌∷◌, length, ap, sym, ◌∙◌, arith}
use Rattle.min_trace.specs.Record.{record_at, cpu_at, old_at}
use Rattle.min_trace.specs.Chunk.{Piece, left}
use Rattle.min_trace.proofs.Onward.{front_left, left_more, walked}
use Rattle.min_trace.proofs.replay.Replay.next.Goals as goal

pub walk-made-requires-clause-olds : goal.walk-made-requires-clause-olds
walk-made-requires-clause-olds c =
    let number : c.chunk.inside.number ≡ c.self.inside.chunk.now.number = ap (λ (p : Piece). p.number) c.chunk.view_is in
    let steps : c.chunk.inside.steps ≡ c.self.inside.chunk.now.steps = ap (λ (p : Piece). p.steps) c.chunk.view_is in
    let lt : c.self.inside.taken < c.self.inside.chunk.now.steps = omega arith in
    rw number (front_left _ _ _ _ _ _ c.self.invariant lt (c.deref.ensures.value ∙ ap (λ (p : Piece). p.olds) c.chunk.view_is))

pub invariant_of-self : goal.invariant_of-self
invariant_of-self c =
    let number : c.chunk.inside.number ≡ c.self.inside.chunk.now.number = ap (λ (p : Piece). p.number) c.chunk.view_is in
    let steps : c.chunk.inside.steps ≡ c.self.inside.chunk.now.steps = ap (λ (p : Piece). p.steps) c.chunk.view_is in
    let lt : c.self.inside.taken < c.self.inside.chunk.now.steps = omega arith in
    walked _ _ _ _ _ _ _ c.self.invariant lt (c.walk-made.ensures.cpu ∙ ap (λ n. cpu_at c.self.inside.image.now (1024 * n + c.self.inside.taken + 1)) number)
    (c.walk-made.ensures.used ∙ ap (λ n. c.self.inside.at + length (old_at c.self.inside.image.now (1024 * n + c.self.inside.taken))) number) c.walk-made.ensures.few

pub returns-clause-next : goal.returns-clause-next
returns-clause-next c =
    let number : c.chunk.inside.number ≡ c.self.inside.chunk.now.number = ap (λ (p : Piece). p.number) c.chunk.view_is in
    let steps : c.chunk.inside.steps ≡ c.self.inside.chunk.now.steps = ap (λ (p : Piece). p.steps) c.chunk.view_is in
    let lt : c.self.inside.taken < c.self.inside.chunk.now.steps = omega arith in
    sym c.self.view_is ∙ left_more c.self.inside.image.now c.self.inside.chunk.now c.self.inside.taken lt
    ∙ ap (λ r. r ∷ left c.self.inside.image.now c.self.inside.chunk.now (c.self.inside.taken + 1)) (sym (c.walk-made.ensures.made ∙ ap (λ n. record_at c.self.inside.image.now (1024 * n + c.self.inside.taken)) number))
