-- The state after a step, by its record.
use Rattle.std.proofs.Common.{◌≡◌, ◌==◌, ◌+◌, ◌<◌, ℕ, Bool, true, false, if◌then◌else◌, List, length, get_or, Option, Some, None, IfSome, unwrap_or, refl, ap, sym, subst, ◌∙◌, arith, inl, inr, set}
use Rattle.std.proofs.lemmas.Bool.{cases_Bool}
use Rattle.std.proofs.lemmas.List.{get_or-set_same}
use Rattle.rv_word.specs.declared.instr.Instr.{Instr}
use Rattle.rv_word.specs.declared.instr.Instr.TheVariants.{Lui, Auipc, Jal, Jalr, Branch, Load, Store, OpImm, Op, Fence, Ecall, Ebreak}
use Rattle.rv_word.specs.Is.{Is, decoded}
use Rattle.rv_word.specs.Ranges.{InRange}
use Rattle.rv_model.specs.Image.{Img, fetch}
use Rattle.rv_model.specs.Code.{instr_of}
use Rattle.rv_model.specs.State.{State, Answer, Next, Halt, Fault, step, executed_fetch, executed_word, next, with_reg, reg, is_taken}
use Rattle.rv_model.specs.Run.{state_at, step_at, moved, IsNext}
use Rattle.min_trace.specs.declared.record.StepRecord.{StepRecord}
use Rattle.min_trace.specs.Operands.{rs1_of, rs2_of, rd_of}
use Rattle.min_trace.specs.Record.{instr_at, onward, record_at}
use Rattle.min_trace.specs.Chunk.{IsStep}
use Rattle.min_trace.specs.After.{with_written, after}
use Rattle.min_trace.proofs.Steps.{state_more}
use Rattle.min_trace.proofs.Completes.{jumped, completed, completes, executes_at, in_range_at, AreRegisters, registers_at}
use Rattle.min_trace.proofs.Facts.{recorded, recorded_at}

same_state : (a b : ℕ) (x y : List ℕ) (v w : ℕ → ℕ) → a ≡ b → x ≡ y → v ≡ w → ◌≡◌ {A = State} (record { pc = a; x = x; word = v }) (record { pc = b; x = y; word = w })
same_state a b x y v w e f g = rw (e, f, g) refl

-- a register as it was written is written again
written_again : (x : List ℕ) (rd value : ℕ) → AreRegisters x → rd < 32 → with_reg x rd value ≡ with_written x (if rd == 0 then None else Some (rd, get_or (with_reg x rd value) rd 0))
written_again x rd value r below = elim (cases_Bool (rd == 0)) [
  | inl is_zero ↦ rw is_zero refl
  | inr not_zero ↦
      let within : rd < length x = omega (arith, r.count) in
      let here : get_or (set x rd value) rd 0 ≡ value = get_or-set_same x rd value 0 within in
      rw (not_zero, here) refl
]

branched : (s : State) (target : ℕ) (taken : Bool) → moved s (if taken then jumped s s.x target else next s) ≡ record { pc = unwrap_or (onward (if taken then jumped s s.x target else next s)) s.pc; x = s.x; word = s.word }
branched s target true = refl
branched s target false = refl

after_of : (j : ℕ) (i : Instr) (s : State) → AreRegisters s.x → InRange i → moved s (completed i s) ≡ after (recorded j i s) s
after_of j (Lui rd imm) s r range = same_state _ _ _ _ _ _ refl (written_again s.x rd _ r range.0) refl
after_of j (Auipc rd imm) s r range = same_state _ _ _ _ _ _ refl (written_again s.x rd _ r range.0) refl
after_of j (Jal rd imm) s r range = same_state _ _ _ _ _ _ refl (written_again s.x rd _ r range.0) refl
after_of j (Jalr rd rs1 imm) s r range = same_state _ _ _ _ _ _ refl (written_again s.x rd _ r range.0) refl
after_of j (Branch cond rs1 rs2 imm) s r range = branched s _ (is_taken cond (reg s rs1) (reg s rs2))
after_of j (Load kind rd rs1 imm) s r range = same_state _ _ _ _ _ _ refl (written_again s.x rd _ r range.1) refl
after_of j (Store kind rs1 rs2 imm) s r range = refl
after_of j (OpImm op rd rs1 imm uw) s r range = same_state _ _ _ _ _ _ refl (written_again s.x rd _ r range.1) refl
after_of j (Op op rd rs1 rs2 uw) s r range = same_state _ _ _ _ _ _ refl (written_again s.x rd _ r range.1) refl
after_of j Fence s r range = refl
after_of j Ecall s r range = refl
after_of j Ebreak s r range = refl

abbrev pub Found : Type 0
Found = (w : ℕ) → IfSome (decoded w) (Is w)

abbrev pub Ranged : Type 0
Ranged = (w : ℕ) (i : Instr) → Is w i → InRange i

pub after_at : Found → Ranged → (image : Img) (j : ℕ) → IsStep (step_at image j) → state_at image (j + 1) ≡ after (record_at image j) (state_at image j)
after_at found range image j h =
    let i : Instr = instr_at image j in
    let s : State = state_at image j in
    let is : step_at image j ≡ completed i s = executes_at image j h ∙ completes i s (subst IsStep (executes_at image j h) h) in
    state_more image j ∙ ap (moved s) is ∙ after_of j i s (registers_at image j) (in_range_at found range image j) ∙ ap (λ (r : StepRecord). after r s) (sym (recorded_at image j h))

on_next : (a : Answer) (s : State) → IsNext a → onward a ≡ Some (moved s a).pc
on_next (Next t) s h = refl
on_next Halt s h = absurd h
on_next (Fault f) s h = absurd h

pub next_at : (image : Img) (j : ℕ) → IsNext (step_at image j) → (record_at image j).next ≡ Some (record_at image (j + 1)).pc
unfolding record_at
next_at image j h = on_next (step_at image j) (state_at image j) h ∙ ap (λ (s : State). Some s.pc) (sym (state_more image j))

pub halt_at : (image : Img) (j : ℕ) → step_at image j ≡ Halt → (record_at image j).next ≡ None
unfolding record_at
halt_at image j h = ap onward h

found_here : (f : Option ℕ) (s : State) → IsStep (executed_fetch f s) → instr_of f ≡ Some (unwrap_or (instr_of f) Fence)
found_here None s h = absurd h
found_here (Some w) s h = elim (decoded w) as (λ o. IsStep (executed_word o w s) → o ≡ Some (unwrap_or o Fence)) [ None ↦ λ k. absurd k | Some i ↦ λ k. refl ] h

pub here_at : (image : Img) (j : ℕ) → IsStep (step_at image j) → instr_of (fetch image (record_at image j).pc) ≡ Some (record_at image j).instr
unfolding step record_at instr_at
here_at image j h = found_here (fetch image (state_at image j).pc) (state_at image j) h

rs1_below : (i : Instr) → InRange i → rs1_of i < 32
rs1_below (Jalr rd rs1 imm) r = r.1
rs1_below (Branch cond rs1 rs2 imm) r = r.0
rs1_below (Load kind rd rs1 imm) r = r.2
rs1_below (Store kind rs1 rs2 imm) r = r.1
rs1_below (OpImm op rd rs1 imm uw) r = r.2
rs1_below (Op op rd rs1 rs2 uw) r = r.2
rs1_below Ecall r = omega arith
rs1_below _ r = omega arith

rs2_below : (i : Instr) → InRange i → rs2_of i < 32
rs2_below (Branch cond rs1 rs2 imm) r = r.1
rs2_below (Store kind rs1 rs2 imm) r = r.2
rs2_below (Op op rd rs1 rs2 uw) r = r.3
rs2_below _ r = omega arith

rd_below : (i : Instr) → InRange i → rd_of i < 32
rd_below (Lui rd imm) r = r.0
rd_below (Auipc rd imm) r = r.0
rd_below (Jal rd imm) r = r.0
rd_below (Jalr rd rs1 imm) r = r.0
rd_below (Load kind rd rs1 imm) r = r.1
rd_below (OpImm op rd rs1 imm uw) r = r.1
rd_below (Op op rd rs1 rs2 uw) r = r.1
rd_below _ r = omega arith

pub rs1_at : Found → Ranged → (image : Img) (j : ℕ) → (record_at image j).rs1 < 32
unfolding record_at
rs1_at found range image j = rs1_below (instr_at image j) (in_range_at found range image j)

pub rs2_at : Found → Ranged → (image : Img) (j : ℕ) → (record_at image j).rs2 < 32
unfolding record_at
rs2_at found range image j = rs2_below (instr_at image j) (in_range_at found range image j)

written_below : (rd value : ℕ) → rd < 32 → IfSome {T = ℕ × ℕ} (if rd == 0 then None else Some (rd, value)) (λ w. w.0 < 32)
written_below rd value h = elim (rd == 0) as (λ b. IfSome {T = ℕ × ℕ} (if b then None else Some (rd, value)) (λ w. w.0 < 32)) [ true ↦ tt | false ↦ h ]

pub rd_at : Found → Ranged → (image : Img) (j : ℕ) → IfSome (record_at image j).rd (λ w. w.0 < 32)
unfolding record_at
rd_at found range image j = written_below (rd_of (instr_at image j)) _ (rd_below (instr_at image j) (in_range_at found range image j))

pub range_at : Found → Ranged → (image : Img) (j : ℕ) → InRange (record_at image j).instr
unfolding record_at
range_at found range image j = in_range_at found range image j
