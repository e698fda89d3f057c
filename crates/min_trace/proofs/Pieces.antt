-- One chunk of each number, and records as pieces of a run's.
use Rattle.std.proofs.Common.{◌≡◌, ◌+◌, ◌-◌, ◌<◌, ◌≤◌, inl, inr, ℕ, zero, suc, List, take, drop, map, refl, ap, sym, ◌∙◌, arith}
use Rattle.std.specs.List.{range_with_len}
use Rattle.std.proofs.lemmas.Bool.{cases_lt}
use Rattle.std.proofs.lemmas.List.FromFn.{take-map-range_with_len}
use Rattle.rv_model.specs.Image.{Img}
use Rattle.rv_model.specs.State.{Answer, Next, Halt, Fault}
use Rattle.rv_model.specs.Run.{step_at, IsNext, IsHalt}
use Rattle.rv_model.specs.declared.cpu.Cpu.{Cpu}
use Rattle.min_trace.specs.Record.{record_at, records_between, olds_between, cpu_at}
use Rattle.min_trace.specs.Chunk.{Piece, IsChunk, first_step}

not_both : (a : Answer) → IsNext a → IsHalt a → ⊥
not_both (Next t) n h = h
not_both Halt n h = n
not_both (Fault f) n h = n

-- a chunk has no fewer steps than another of its number
no_shorter : (image : Img) (c d : Piece) → IsChunk image c → IsChunk image d → c.number ≡ d.number → d.steps ≤ c.steps
no_shorter image c d a b e = elim (cases_lt c.steps d.steps) [
  | inl less ↦ elim a.whole [
    | inl full ↦ absurd (omega (arith, b.most))
    | inr halt ↦
        let last : first_step c.number + c.steps - 1 + 1 < first_step d.number + d.steps = omega (arith, a.some) in
        absurd (not_both (step_at image (first_step c.number + c.steps - 1)) (b.on (first_step c.number + c.steps - 1) last) halt)
  ]
  | inr more ↦ more
]

same_piece : (m n : ℕ) (a b : Cpu) (s t : ℕ) (xs ys : List ℕ) → m ≡ n → a ≡ b → s ≡ t → xs ≡ ys → ◌≡◌ {A = Piece} (record { number = m; start = a; steps = s; olds = xs }) (record { number = n; start = b; steps = t; olds = ys })
same_piece m n a b s t xs ys k e f g = rw (k, e, f, g) refl

pub one_chunk : (image : Img) (c d : Piece) → IsChunk image c → IsChunk image d → c.number ≡ d.number → c ≡ d
one_chunk image c d a b e =
    let steps : c.steps ≡ d.steps = omega (arith, no_shorter image c d a b e, no_shorter image d c b a (sym e)) in
    same_piece c.number d.number c.start d.start c.steps d.steps c.olds d.olds e
    (a.start ∙ ap (λ n. cpu_at image (first_step n)) e ∙ sym b.start)
    steps
    (a.olds ∙ ap (λ n. olds_between image (first_step n) c.steps) e ∙ ap (olds_between image (first_step d.number)) steps ∙ sym b.olds)

drop_range : {A : Type 0} (f : ℕ → A) (a k n : ℕ) → k ≤ n → drop k (map f (range_with_len a n)) ≡ map f (range_with_len (a + k) (n - k))
drop_range f a zero n le = let e : a + 0 ≡ a = omega arith in let m : n - 0 ≡ n = omega arith in rw (e, m) refl
drop_range f a (suc k) zero le = absurd (omega arith)
drop_range f a (suc k) (suc n) le = let e : a + suc k ≡ a + 1 + k = omega arith in let m : suc n - suc k ≡ n - k = omega arith in rw (e, m) (drop_range f (a + 1) k n (omega arith))

pub piece : (image : Img) (n first count : ℕ) → first + count ≤ n → records_between image first count ≡ take count (drop first (records_between image 0 n))
piece image n first count le =
    let start : 0 + first ≡ first = omega arith in
    sym (ap (take count) (drop_range (record_at image) 0 first n (omega arith)) ∙ take-map-range_with_len (record_at image) (0 + first) (n - first) count (omega arith)
    ∙ ap (λ m. map (record_at image) (range_with_len m count)) start)
