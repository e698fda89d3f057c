-- Of the emulator's answers at one place only one is so, and it tells the run's end.
use Rattle.std.proofs.Common.{◌≡◌, ◌+◌, ◌-◌, ◌*◌, ◌<◌, ℕ, Result, Ok, Err, inl, inr, refl, ap, sym, subst, ◌∙◌, arith}
use Rattle.rv_model.specs.Image.{Img}
use Rattle.rv_model.specs.State.{Halt, Fault}
use Rattle.rv_model.specs.Run.{step_at, IsNext, MeetsLimit, Halted, Faulted, Limited, end_within, EndsOnce}
use Rattle.rv_model.specs.declared.answer.Public.{Public}
use Rattle.rv_model.specs.declared.answer.RunFault.{RunFault}
use Rattle.rv_model.specs.declared.answer.RunEnd.{RunEnd}
use Rattle.rv_model.specs.declared.answer.RunEnd.TheVariants as ends
use Rattle.min_trace.specs.Record.{cpu_at, olds_between}
use Rattle.min_trace.specs.Chunk.{Piece, IsChunk, first_step}
use Rattle.rv_emu.proofs.Answers.{piece}
use Rattle.rv_emu.specs.declared.emu.Step.{Step}
use Rattle.rv_emu.specs.declared.emu.Step.TheVariants as steps
use Rattle.rv_emu.specs.Answered.{Place, IsWhole, IsLast, FaultsIn, IsUsedUp, Answered, EndsBy, IsOnly}

-- what rv_model's law says of the end of a run
abbrev pub EndOnce : Type 0
EndOnce = (image : Img) (limit : ℕ) → EndsOnce image limit

pub ends_by : EndOnce → (p q : Place) (a : Result Step RunEnd) → Answered a p q → EndsBy a p.limit (end_within p.image p.limit)
ends_by ends_once p q (Ok (steps.Chunk c)) h = tt
ends_by ends_once p q (Ok (steps.Last c public)) h =
    sym ((ends_once p.image p.limit).only _ (h.0.within, h.0.halts)) ∙ ap (λ n. Halted (1024 * n + c.steps) public) (sym h.0.number)
ends_by ends_once p q (Err (ends.Fault fault)) h = sym ((ends_once p.image p.limit).only (Faulted fault) (h.0.step, h.0.within, h.0.faults))
ends_by ends_once p q (Err (ends.StepLimit most)) h = (h.0, sym ((ends_once p.image p.limit).only Limited h.1.on))
ends_by ends_once p q (Err ends.NoMemory) h = tt

-- a chunk is known by its number and its steps
same_chunk : (image : Img) (c d : Piece) → IsChunk image c → IsChunk image d → c.number ≡ d.number → c.steps ≡ d.steps → c ≡ d
same_chunk image c d is id number steps =
    let start : c.start ≡ d.start = is.start ∙ ap (λ n. cpu_at image (1024 * n)) number ∙ sym id.start in
    let olds : c.olds ≡ d.olds = is.olds ∙ ap (λ n. olds_between image (1024 * n) c.steps) number ∙ ap (olds_between image (1024 * d.number)) steps ∙ sym id.olds in
    ap (λ n. piece n c.start c.steps c.olds) number ∙ ap (λ s. piece d.number s c.steps c.olds) start ∙ ap (λ k. piece d.number d.start k c.olds) steps ∙ ap (piece d.number d.start d.steps) olds

leads_no_halt : (image : Img) (n j : ℕ) → MeetsLimit image n → j < n → step_at image j ≡ Halt → ⊥
leads_no_halt image n j meets below is = subst IsNext is (meets j below)

leads_no_fault : (image : Img) (n j : ℕ) (fault : RunFault) → MeetsLimit image n → j < n → step_at image j ≡ Fault fault → ⊥
leads_no_fault image n j fault meets below is = subst IsNext is (meets j below)

whole_no_last : (p : Place) (c d : Piece) (public : Public) → IsWhole p c → IsLast p d public → ⊥
whole_no_last p c d public w l = leads_no_halt p.image (first_step (p.number + 1)) (1024 * p.number + d.steps - 1) w.on (omega (arith, l.chunk.some, l.chunk.most)) l.halts.halt

whole_no_fault : (p : Place) (c : Piece) (fault : RunFault) → IsWhole p c → FaultsIn p fault → ⊥
whole_no_fault p c fault w f = leads_no_fault p.image (first_step (p.number + 1)) f.step fault w.on f.high f.faults.is

whole_no_limit : (p : Place) (c : Piece) → IsWhole p c → IsUsedUp p → ⊥
whole_no_limit p c w u = absurd (omega (arith, w.within, u.high))

same_last : EndOnce → (p : Place) (c d : Piece) (a b : Public) → IsLast p c a → IsLast p d b → (c ≡ d) × (a ≡ b)
same_last ends_once p c d a b l m =
    let ends : Halted (1024 * p.number + c.steps) a ≡ Halted (1024 * p.number + d.steps) b = (ends_once p.image p.limit).only _ (l.within, l.halts) ∙ sym ((ends_once p.image p.limit).only _ (m.within, m.halts)) in
    let at : 1024 * p.number + c.steps ≡ 1024 * p.number + d.steps = cc in
    let steps : c.steps ≡ d.steps = omega arith in
    let told : a ≡ b = cc in
    (same_chunk p.image c d l.chunk m.chunk (l.number ∙ sym m.number) steps, told)

same_whole : (p : Place) (c d : Piece) → IsWhole p c → IsWhole p d → c ≡ d
same_whole p c d w v = same_chunk p.image c d w.chunk v.chunk (w.number ∙ sym v.number) (w.steps ∙ sym v.steps)

last_no_fault : EndOnce → (p : Place) (c : Piece) (public : Public) (fault : RunFault) → IsLast p c public → FaultsIn p fault → ⊥
last_no_fault ends_once p c public fault l f =
    let clash : Halted (1024 * p.number + c.steps) public ≡ Faulted fault = (ends_once p.image p.limit).only _ (l.within, l.halts) ∙ sym ((ends_once p.image p.limit).only _ (f.step, f.within, f.faults)) in cc

last_no_limit : EndOnce → (p : Place) (c : Piece) (public : Public) → IsLast p c public → IsUsedUp p → ⊥
last_no_limit ends_once p c public l u =
    let clash : Halted (1024 * p.number + c.steps) public ≡ Limited = (ends_once p.image p.limit).only _ (l.within, l.halts) ∙ sym ((ends_once p.image p.limit).only _ u.on) in cc

same_fault : EndOnce → (p : Place) (a b : RunFault) → FaultsIn p a → FaultsIn p b → a ≡ b
same_fault ends_once p a b f g =
    let ends : Faulted a ≡ Faulted b = (ends_once p.image p.limit).only _ (f.step, f.within, f.faults) ∙ sym ((ends_once p.image p.limit).only _ (g.step, g.within, g.faults)) in cc

fault_no_limit : (p : Place) (fault : RunFault) → FaultsIn p fault → IsUsedUp p → ⊥
fault_no_limit p fault f u = leads_no_fault p.image p.limit f.step fault u.on f.within f.faults.is

pub only_answer : EndOnce → (p q r : Place) (a b : Result Step RunEnd) → IsOnly p q r a b
only_answer ends_once p q r (Err ends.NoMemory) b = λ h k. inr (inl refl)
only_answer ends_once p q r (Ok (steps.Chunk c)) (Ok (steps.Chunk d)) = λ h k. inl (ap (λ x. Ok (steps.Chunk x)) (same_whole p c d h.0 k.0), h.1 ∙ sym k.1)
only_answer ends_once p q r (Ok (steps.Chunk c)) (Ok (steps.Last d public)) = λ h k. absurd (whole_no_last p c d public h.0 k.0)
only_answer ends_once p q r (Ok (steps.Chunk c)) (Err (ends.Fault fault)) = λ h k. absurd (whole_no_fault p c fault h.0 k.0)
only_answer ends_once p q r (Ok (steps.Chunk c)) (Err (ends.StepLimit most)) = λ h k. absurd (whole_no_limit p c h.0 k.1)
only_answer ends_once p q r (Ok (steps.Chunk c)) (Err ends.NoMemory) = λ h k. inr (inr refl)
only_answer ends_once p q r (Ok (steps.Last c public)) (Ok (steps.Chunk d)) = λ h k. absurd (whole_no_last p d c public k.0 h.0)
only_answer ends_once p q r (Ok (steps.Last c x)) (Ok (steps.Last d y)) = λ h k.
    let same = same_last ends_once p c d x y h.0 k.0 in inl (ap (λ z. Ok (steps.Last z x)) same.0 ∙ ap (λ z. Ok (steps.Last d z)) same.1, h.1 ∙ sym k.1)
only_answer ends_once p q r (Ok (steps.Last c public)) (Err (ends.Fault fault)) = λ h k. absurd (last_no_fault ends_once p c public fault h.0 k.0)
only_answer ends_once p q r (Ok (steps.Last c public)) (Err (ends.StepLimit most)) = λ h k. absurd (last_no_limit ends_once p c public h.0 k.1)
only_answer ends_once p q r (Ok (steps.Last c public)) (Err ends.NoMemory) = λ h k. inr (inr refl)
only_answer ends_once p q r (Err (ends.Fault fault)) (Ok (steps.Chunk d)) = λ h k. absurd (whole_no_fault p d fault k.0 h.0)
only_answer ends_once p q r (Err (ends.Fault fault)) (Ok (steps.Last d public)) = λ h k. absurd (last_no_fault ends_once p d public fault k.0 h.0)
only_answer ends_once p q r (Err (ends.Fault f)) (Err (ends.Fault g)) = λ h k. inl (ap (λ x. Err (ends.Fault x)) (same_fault ends_once p f g h.0 k.0), h.1 ∙ sym k.1)
only_answer ends_once p q r (Err (ends.Fault fault)) (Err (ends.StepLimit most)) = λ h k. absurd (fault_no_limit p fault h.0 k.1)
only_answer ends_once p q r (Err (ends.Fault fault)) (Err ends.NoMemory) = λ h k. inr (inr refl)
only_answer ends_once p q r (Err (ends.StepLimit most)) (Ok (steps.Chunk d)) = λ h k. absurd (whole_no_limit p d k.0 h.1)
only_answer ends_once p q r (Err (ends.StepLimit most)) (Ok (steps.Last d public)) = λ h k. absurd (last_no_limit ends_once p d public k.0 h.1)
only_answer ends_once p q r (Err (ends.StepLimit most)) (Err (ends.Fault fault)) = λ h k. absurd (fault_no_limit p fault k.0 h.1)
only_answer ends_once p q r (Err (ends.StepLimit m)) (Err (ends.StepLimit n)) = λ h k. inl (ap (λ x. Err (ends.StepLimit x)) (h.0 ∙ sym k.0), h.2 ∙ sym k.2)
only_answer ends_once p q r (Err (ends.StepLimit most)) (Err ends.NoMemory) = λ h k. inr (inr refl)
