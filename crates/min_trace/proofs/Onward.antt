-- One step along a chunk.
use Rattle.std.proofs.Common.{◌≡◌, ◌+◌, ◌-◌, ◌*◌, ◌<◌, ◌≤◌, ℕ, suc, List, ◌∷◌, ◌++◌, length, drop, refl, ap, sym, ◌∙◌, arith}
use Rattle.std.proofs.lemmas.List.{drop-drop, drop_at}
use Rattle.rv_model.specs.Image.{Img}
use Rattle.rv_model.specs.declared.cpu.Cpu.{Cpu}
use Rattle.min_trace.specs.Record.{record_at, old_at, olds_between, records_between, cpu_at}
use Rattle.min_trace.specs.Chunk.{Piece, IsReplay, left}
use Rattle.min_trace.specs.Found.{IsFront}

next_number : (k taken : ℕ) → 1024 * k + taken + 1 ≡ 1024 * k + (taken + 1)
next_number k taken = omega arith

fewer : (steps taken : ℕ) → taken < steps → steps - taken ≡ suc (steps - (taken + 1))
fewer steps taken h = omega arith

olds_more : (image : Img) (c : Piece) (taken at : ℕ) (now : Cpu) → IsReplay image c taken at now → taken < c.steps
    → drop at c.olds ≡ old_at image (1024 * c.number + taken) ++ olds_between image (1024 * c.number + (taken + 1)) (c.steps - (taken + 1))
olds_more image c taken at now r h =
    r.olds ∙ rw (fewer c.steps taken h) (ap (λ j. old_at image (1024 * c.number + taken) ++ olds_between image j (c.steps - (taken + 1))) (next_number c.number taken))

pub front_left : (image : Img) (c : Piece) (taken at : ℕ) (now : Cpu) (olds : List ℕ) → IsReplay image c taken at now → taken < c.steps → olds ≡ c.olds → IsFront (old_at image (1024 * c.number + taken)) (drop at olds)
front_left image c taken at now olds r h e =
    (olds_between image (1024 * c.number + (taken + 1)) (c.steps - (taken + 1)), ap (drop at) e ∙ olds_more image c taken at now r h)

pub left_more : (image : Img) (c : Piece) (taken : ℕ) → taken < c.steps → left image c taken ≡ record_at image (1024 * c.number + taken) ∷ left image c (taken + 1)
left_more image c taken h =
    rw (fewer c.steps taken h) (ap (λ j. record_at image (1024 * c.number + taken) ∷ records_between image j (c.steps - (taken + 1))) (next_number c.number taken))

pub walked : (image : Img) (c : Piece) (taken at after : ℕ) (now new : Cpu) → IsReplay image c taken at now → taken < c.steps → new ≡ cpu_at image (1024 * c.number + taken + 1)
    → after ≡ at + length (old_at image (1024 * c.number + taken)) → after ≤ at + 1 → IsReplay image c (taken + 1) after new
walked image c taken at after now new r h n e f = record {
  chunk = r.chunk;
  most = omega arith;
  low = omega (arith, r.low);
  cpu = n ∙ ap (cpu_at image) (next_number c.number taken);
  olds = rw e (sym (drop-drop (length (old_at image (1024 * c.number + taken))) at c.olds) ∙ ap (drop (length (old_at image (1024 * c.number + taken)))) (olds_more image c taken at now r h)
      ∙ drop_at (old_at image (1024 * c.number + taken)) _ _ refl);
}
