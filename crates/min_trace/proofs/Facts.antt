-- What the fields of a record have to do with each other.
use Rattle.std.proofs.Common.{◌≡◌, ◌==◌, ◌+◌, ◌%◌, ◌<◌, ◌<ℤ◌, ◌^◌, ℕ, ℤ, pos, negsuc, Bool, true, false, if◌then◌else◌, List, length, get_or, Option, Some, None, IfSome, refl, ap, sym, subst, ◌∙◌, arith, inl, inr, set}
use Rattle.std.proofs.lemmas.Int.{ints}
use Rattle.std.proofs.lemmas.Bool.{cases_Bool}
use Rattle.std.proofs.lemmas.List.{get_or-set_same}
use Rattle.rv_word.specs.declared.instr.Cond.{Cond}
use Rattle.rv_word.specs.declared.instr.Cond.TheVariants as conds
use Rattle.rv_word.specs.declared.instr.Instr.{Instr}
use Rattle.rv_word.specs.declared.instr.Instr.TheVariants.{Lui, Auipc, Jal, Jalr, Branch, Load, Store, OpImm, Op, Fence, Ecall, Ebreak}
use Rattle.rv_word.specs.Is.{Is, decoded}
use Rattle.rv_word.specs.Ranges.{InRange}
use Rattle.rv_model.specs.Image.{Img}
use Rattle.rv_model.specs.Op.{value_of, flag_of, bits_of}
use Rattle.rv_model.specs.State.{State, executed, next, with_reg, wrapped, is_taken}
use Rattle.rv_model.specs.Cpu.{cpu_of, access}
use Rattle.rv_model.specs.Run.{state_at, step_at, moved}
use Rattle.min_trace.specs.declared.record.StepRecord.{StepRecord}
use Rattle.min_trace.specs.Operands.{compared_by}
use Rattle.min_trace.specs.Record.{instr_at, act, onward, mem_at, record_of, record_at}
use Rattle.min_trace.specs.Chunk.{IsStep}
use Rattle.min_trace.specs.Laws.{Accesses, is_taken_by, leads_to, written_by}
use Rattle.min_trace.proofs.Steps.{good_access, state_more}
use Rattle.min_trace.proofs.Completes.{jumped, completed, completes, executes_at, in_range_at, AreRegisters, registers_at}

-- the record of an instruction that doesn't fault
abbrev pub recorded : ℕ → Instr → State → StepRecord
recorded j i s = record_of j i (cpu_of s) (act (access i s) s.word) (cpu_of (moved s (completed i s))) (onward (completed i s))

pub recorded_at : (image : Img) (j : ℕ) → IsStep (step_at image j) → record_at image j ≡ recorded j (instr_at image j) (state_at image j)
unfolding record_at
recorded_at image j h =
    let i : Instr = instr_at image j in
    let s : State = state_at image j in
    let is : step_at image j ≡ completed i s = executes_at image j h ∙ completes i s (subst IsStep (executes_at image j h) h) in
    let to : state_at image (j + 1) ≡ moved s (completed i s) = state_more image j ∙ ap (moved s) is in
    ap (λ t. record_of j i (cpu_of s) (mem_at image j) (cpu_of t) (onward (step_at image j))) to
    ∙ ap (λ a. record_of j i (cpu_of s) (mem_at image j) (cpu_of (moved s (completed i s))) (onward a)) is

accesses_of : (j : ℕ) (i : Instr) (s : State) → IsStep (executed i s) → Accesses i (recorded j i s) s.word
unfolding value_of
accesses_of j (Load kind rd rs1 imm) s h = let good = good_access (Load kind rd rs1 imm) s h in (good.0, good.1, refl)
accesses_of j (Store kind rs1 rs2 imm) s h = let good = good_access (Store kind rs1 rs2 imm) s h in (good.0, good.1, refl)
accesses_of j (Lui rd imm) s h = refl
accesses_of j (Auipc rd imm) s h = refl
accesses_of j (Jal rd imm) s h = refl
accesses_of j (Jalr rd rs1 imm) s h = refl
accesses_of j (Branch cond rs1 rs2 imm) s h = refl
accesses_of j (OpImm op rd rs1 imm uw) s h = refl
accesses_of j (Op op rd rs1 rs2 uw) s h = refl
accesses_of j Fence s h = refl
accesses_of j Ecall s h = refl
accesses_of j Ebreak s h = refl

taken_is : (cond : Cond) (a b : ℕ) → is_taken cond a b ≡ is_taken_by cond (flag_of (compared_by cond) a b)
unfolding flag_of
taken_is conds.Eq a b = refl
taken_is conds.Ne a b = refl
taken_is conds.Lt a b = refl
taken_is conds.Ge a b = refl
taken_is conds.Ltu a b = refl
taken_is conds.Geu a b = refl

onward_if : (s : State) (target : ℕ) (taken : Bool) → onward (if taken then jumped s s.x target else next s) ≡ Some (if taken then target else wrapped (s.pc + 4))
onward_if s target true = refl
onward_if s target false = refl

leads_of : (j : ℕ) (i : Instr) (s : State) → (recorded j i s).next ≡ leads_to i (recorded j i s)
unfolding value_of
leads_of j (Branch cond rs1 rs2 imm) s =
    let target : ℕ = wrapped (s.pc + bits_of imm) in
    onward_if s target (is_taken cond (get_or s.x rs1 0) (get_or s.x rs2 0)) ∙ ap (λ u. Some (if u then target else wrapped (s.pc + 4))) (taken_is cond (get_or s.x rs1 0) (get_or s.x rs2 0))
leads_of j (Lui rd imm) s = refl
leads_of j (Auipc rd imm) s = refl
leads_of j (Jal rd imm) s = refl
leads_of j (Jalr rd rs1 imm) s = refl
leads_of j (Load kind rd rs1 imm) s = refl
leads_of j (Store kind rs1 rs2 imm) s = refl
leads_of j (OpImm op rd rs1 imm uw) s = refl
leads_of j (Op op rd rs1 rs2 uw) s = refl
leads_of j Fence s = refl
leads_of j Ecall s = refl
leads_of j Ebreak s = refl

-- a register other than x0, with a value
abbrev register_with : ℕ → ℕ → Option (ℕ × ℕ)
register_with rd value = if rd == 0 then None else Some (rd, value)

-- a register that was written has the value
written_is : (x : List ℕ) (rd value known : ℕ) → AreRegisters x → rd < 32 → value ≡ known → register_with rd (get_or (with_reg x rd value) rd 0) ≡ register_with rd known
written_is x rd value known r below is = elim (cases_Bool (rd == 0)) [
  | inl is_zero ↦ rw is_zero refl
  | inr not_zero ↦
      let within : rd < length x = omega (arith, r.count) in
      let here : get_or (set x rd value) rd 0 ≡ known = get_or-set_same x rd value 0 within ∙ is in
      rw (not_zero, here) refl
]

bits_below : (z : ℤ) → z <ℤ pos (2 ^ 31) → bits_of z < 2 ^ 64
bits_below (pos n) h = omega (arith, ints)
bits_below (negsuc n) h = omega arith

-- the sum with x0
sum_with_zero : (a b : ℕ) → a ≡ 0 → b < 2 ^ 64 → b ≡ (a + b) % 2 ^ 64
sum_with_zero a b is below = omega arith

wrapped_below : (n : ℕ) → wrapped n < 2 ^ 64
wrapped_below n = omega arith

-- a register with the sum of x0 and the value
computed_is : (s : State) (rd value : ℕ) → AreRegisters s.x → rd < 32 → value < 2 ^ 64
    → register_with rd (get_or (with_reg s.x rd value) rd 0) ≡ register_with rd ((get_or s.x 0 0 + value) % 2 ^ 64)
computed_is s rd value r below fits = written_is s.x rd value ((get_or s.x 0 0 + value) % 2 ^ 64) r below (sum_with_zero (get_or s.x 0 0) value r.first fits)

writes_of : (j : ℕ) (i : Instr) (s : State) → AreRegisters s.x → InRange i → (recorded j i s).rd ≡ written_by i (recorded j i s)
unfolding value_of
writes_of j (Lui rd imm) s r range = computed_is s rd (bits_of imm) r range.0 (bits_below imm range.1.1)
writes_of j (Auipc rd imm) s r range = computed_is s rd (wrapped (s.pc + bits_of imm)) r range.0 (wrapped_below (s.pc + bits_of imm))
writes_of j (Jal rd imm) s r range = computed_is s rd (wrapped (s.pc + 4)) r range.0 (wrapped_below (s.pc + 4))
writes_of j (Jalr rd rs1 imm) s r range = written_is s.x rd _ _ r range.0 refl
writes_of j (Load kind rd rs1 imm) s r range = written_is s.x rd _ _ r range.1 refl
writes_of j (OpImm op rd rs1 imm uw) s r range = written_is s.x rd _ _ r range.1 refl
writes_of j (Op op rd rs1 rs2 uw) s r range = written_is s.x rd _ _ r range.1 refl
writes_of j (Branch cond rs1 rs2 imm) s r range = refl
writes_of j (Store kind rs1 rs2 imm) s r range = refl
writes_of j Fence s r range = refl
writes_of j Ecall s r range = refl
writes_of j Ebreak s r range = refl

pub accesses_at : (image : Img) (j : ℕ) → IsStep (step_at image j) → Accesses (record_at image j).instr (record_at image j) (state_at image j).word
accesses_at image j h =
    subst (λ (r : StepRecord). Accesses r.instr r (state_at image j).word) (sym (recorded_at image j h)) (accesses_of j (instr_at image j) (state_at image j) (subst IsStep (executes_at image j h) h))

pub leads_at : (image : Img) (j : ℕ) → IsStep (step_at image j) → (record_at image j).next ≡ leads_to (record_at image j).instr (record_at image j)
leads_at image j h = subst (λ (r : StepRecord). r.next ≡ leads_to r.instr r) (sym (recorded_at image j h)) (leads_of j (instr_at image j) (state_at image j))

pub writes_at : ((w : ℕ) → IfSome (decoded w) (Is w)) → ((w : ℕ) (i : Instr) → Is w i → InRange i) → (image : Img) (j : ℕ) → IsStep (step_at image j) → (record_at image j).rd ≡ written_by (record_at image j).instr (record_at image j)
writes_at found range image j h =
    subst (λ (r : StepRecord). r.rd ≡ written_by r.instr r) (sym (recorded_at image j h)) (writes_of j (instr_at image j) (state_at image j) (registers_at image j) (in_range_at found range image j))
