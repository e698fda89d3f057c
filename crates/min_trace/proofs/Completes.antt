-- Instructions that don't fault, and the registers that they leave.
use Rattle.std.proofs.Common.{◌≡◌, ◌≢◌, ◌==◌, ◌+◌, ◌*◌, ◌/◌, ◌%◌, ◌^◌, ℕ, zero, suc, Bool, true, false, nat_lt, if◌then◌else◌, List, length, get_or, Option, Some, None, IfSome, unwrap_or, refl, sym, ◌∙◌, inl, inr}
use Rattle.std.proofs.lemmas.Bool.{eqb-false, cases_Bool}
use Rattle.std.proofs.lemmas.List.{length-set, get_or-set_other}
use Rattle.rv_word.specs.declared.instr.Kind.{Kind}
use Rattle.rv_word.specs.declared.instr.Instr.{Instr}
use Rattle.rv_word.specs.declared.instr.Instr.TheVariants.{Lui, Auipc, Jal, Jalr, Branch, Load, Store, OpImm, Op, Fence, Ecall, Ebreak}
use Rattle.rv_word.specs.Is.{Is, decoded}
use Rattle.rv_word.specs.Ranges.{InRange}
use Rattle.rv_model.specs.Image.{Img, fetch}
use Rattle.rv_model.specs.Code.{instr_of}
use Rattle.rv_model.specs.Op.{value_of, bits_of}
use Rattle.rv_model.specs.Align.{width, aligned}
use Rattle.rv_model.specs.State.{State, Answer, Next, Halt, Fault, step, executed, executed_fetch, executed_word, load, store, at_address, jump, next, next_with_reg, next_with_store, with_reg, wrapped, reg, operand, is_taken}
use Rattle.rv_model.specs.Run.{state_at, step_at, moved}
use Rattle.rv_model.specs.declared.answer.RunFault.TheVariants.{Misaligned, BadAddress, BadTarget, BadCall}
use Rattle.min_trace.specs.Record.{instr_at}
use Rattle.min_trace.specs.Chunk.{IsStep}

-- a jump whose target is good
abbrev pub jumped : State → List ℕ → ℕ → Answer
jumped s x target = Next (record { pc = target; x = x; word = s.word })

-- what an instruction does where it doesn't fault
abbrev pub completed : Instr → State → Answer
completed (Lui rd imm) s = next_with_reg s rd (bits_of imm)
completed (Auipc rd imm) s = next_with_reg s rd (wrapped (s.pc + bits_of imm))
completed (Jal rd imm) s = jumped s (with_reg s.x rd (wrapped (s.pc + 4))) (wrapped (s.pc + bits_of imm))
completed (Jalr rd rs1 imm) s = jumped s (with_reg s.x rd (wrapped (s.pc + 4))) (wrapped (reg s rs1 + bits_of imm) / 2 * 2)
completed (Branch cond rs1 rs2 imm) s = if is_taken cond (reg s rs1) (reg s rs2) then jumped s s.x (wrapped (s.pc + bits_of imm)) else next s
completed (Load kind rd rs1 imm) s = let address = wrapped (reg s rs1 + bits_of imm) in next_with_reg s rd (aligned kind (address % 8) (s.word (address / 8)) 0)
completed (Store kind rs1 rs2 imm) s = next_with_store s kind (wrapped (reg s rs1 + bits_of imm)) (reg s rs2)
completed (OpImm op rd rs1 imm uw) s = next_with_reg s rd (value_of op (operand uw (reg s rs1)) (bits_of imm))
completed (Op op rd rs1 rs2 uw) s = next_with_reg s rd (value_of op (operand uw (reg s rs1)) (reg s rs2))
completed Fence s = next s
completed Ecall s = Halt
completed Ebreak s = Halt

jumps : (s : State) (x : List ℕ) (target : ℕ) → IsStep (jump s x target) → jump s x target ≡ jumped s x target
jumps s x target =
    elim (target % 4 == 0) as (λ u. IsStep (if u then jumped s x target else Fault (BadTarget s.pc target)) → (if u then jumped s x target else Fault (BadTarget s.pc target)) ≡ jumped s x target) [ true ↦ λ h. refl | false ↦ λ h. absurd h ]

addresses : (s : State) (kind : Kind) (address : ℕ) (b : Answer) → IsStep (at_address s kind address b) → at_address s kind address b ≡ b
addresses s kind address b =
    elim (address % width kind == 0) as (λ u. IsStep (if u then (if nat_lt address (2 ^ 32) then b else Fault (BadAddress s.pc address)) else Fault (Misaligned s.pc address)) → (if u then (if nat_lt address (2 ^ 32) then b else Fault (BadAddress s.pc address)) else Fault (Misaligned s.pc address)) ≡ b) [
      | true ↦ elim (nat_lt address (2 ^ 32)) as (λ u. IsStep (if u then b else Fault (BadAddress s.pc address)) → (if u then b else Fault (BadAddress s.pc address)) ≡ b) [ true ↦ λ h. refl | false ↦ λ h. absurd h ]
      | false ↦ λ h. absurd h
    ]

branches : (s : State) (taken : Bool) (target : ℕ) → IsStep (if taken then jump s s.x target else next s) → (if taken then jump s s.x target else next s) ≡ (if taken then jumped s s.x target else next s)
branches s true target h = jumps s s.x target h
branches s false target h = refl

halts : (s : State) → IsStep (if reg s 17 == 93 then Halt else Fault (BadCall s.pc (reg s 17))) → (if reg s 17 == 93 then Halt else Fault (BadCall s.pc (reg s 17))) ≡ Halt
halts s =
    elim (reg s 17 == 93) as (λ u. IsStep (if u then Halt else Fault (BadCall s.pc (reg s 17))) → (if u then Halt else Fault (BadCall s.pc (reg s 17))) ≡ Halt) [ true ↦ λ h. refl | false ↦ λ h. absurd h ]

pub completes : (i : Instr) (s : State) → IsStep (executed i s) → executed i s ≡ completed i s
unfolding load store
completes (Lui rd imm) s h = refl
completes (Auipc rd imm) s h = refl
completes (Jal rd imm) s h = jumps s _ _ h
completes (Jalr rd rs1 imm) s h = jumps s _ _ h
completes (Branch cond rs1 rs2 imm) s h = branches s _ _ h
completes (Load kind rd rs1 imm) s h = addresses s kind _ _ h
completes (Store kind rs1 rs2 imm) s h = addresses s kind _ _ h
completes (OpImm op rd rs1 imm uw) s h = refl
completes (Op op rd rs1 rs2 uw) s h = refl
completes Fence s h = refl
completes Ecall s h = halts s h
completes Ebreak s h = absurd h

-- the instruction of a step of the run
executes : (f : Option ℕ) (s : State) → IsStep (executed_fetch f s) → executed_fetch f s ≡ executed (unwrap_or (instr_of f) Fence) s
executes None s h = absurd h
executes (Some w) s h =
    elim (decoded w) as (λ o. IsStep (executed_word o w s) → executed_word o w s ≡ executed (unwrap_or o Fence) s) [ None ↦ λ k. absurd k | Some i ↦ λ k. refl ] h

pub executes_at : (image : Img) (j : ℕ) → IsStep (step_at image j) → step_at image j ≡ executed (instr_at image j) (state_at image j)
unfolding step instr_at
executes_at image j h = executes (fetch image (state_at image j).pc) (state_at image j) h

decoded_in_range : ((w : ℕ) → IfSome (decoded w) (Is w)) → ((w : ℕ) (i : Instr) → Is w i → InRange i) → (f : Option ℕ) → InRange (unwrap_or (instr_of f) Fence)
decoded_in_range found range None = tt
decoded_in_range found range (Some w) = elim (decoded w) as (λ o. IfSome o (Is w) → InRange (unwrap_or o Fence)) [ None ↦ λ k. tt | Some i ↦ λ k. range w i k ] (found w)

pub in_range_at : ((w : ℕ) → IfSome (decoded w) (Is w)) → ((w : ℕ) (i : Instr) → Is w i → InRange i) → (image : Img) (j : ℕ) → InRange (instr_at image j)
unfolding instr_at
in_range_at found range image j = decoded_in_range found range (fetch image (state_at image j).pc)

-- 32 registers, of which the first is 0
pub record AreRegisters (x : List ℕ) : Type 0 where
  pub count : length x ≡ 32
  pub first : get_or x 0 0 ≡ 0

kept_by_write : (x : List ℕ) (rd value : ℕ) → AreRegisters x → AreRegisters (with_reg x rd value)
kept_by_write x rd value r = elim (cases_Bool (rd == 0)) [
  | inl is_zero ↦ rw is_zero r
  | inr not_zero ↦
      let differs : 0 ≢ rd = λ e. eqb-false _ _ not_zero (sym e) in
      rw not_zero (record { count = length-set x rd value ∙ r.count; first = get_or-set_other x rd 0 value 0 differs ∙ r.first })
]

abbrev pub after : State → Answer → List ℕ
after s a = (moved s a).x

kept_by_jump : (s : State) (x : List ℕ) (target : ℕ) → AreRegisters s.x → AreRegisters x → AreRegisters (after s (jump s x target))
kept_by_jump s x target r k =
    elim (target % 4 == 0) as (λ u. AreRegisters (after s (if u then jumped s x target else Fault (BadTarget s.pc target)))) [ true ↦ k | false ↦ r ]

kept_at_address : (s : State) (kind : Kind) (address : ℕ) (b : Answer) → AreRegisters s.x → AreRegisters (after s b) → AreRegisters (after s (at_address s kind address b))
kept_at_address s kind address b r k =
    elim (address % width kind == 0) as (λ u. AreRegisters (after s (if u then (if nat_lt address (2 ^ 32) then b else Fault (BadAddress s.pc address)) else Fault (Misaligned s.pc address)))) [
      | true ↦ elim (nat_lt address (2 ^ 32)) as (λ u. AreRegisters (after s (if u then b else Fault (BadAddress s.pc address)))) [ true ↦ k | false ↦ r ]
      | false ↦ r
    ]

kept_by_branch : (s : State) (taken : Bool) (target : ℕ) → AreRegisters s.x → AreRegisters (after s (if taken then jump s s.x target else next s))
kept_by_branch s true target r = kept_by_jump s s.x target r r
kept_by_branch s false target r = r

kept_by_call : (s : State) → AreRegisters s.x → AreRegisters (after s (if reg s 17 == 93 then Halt else Fault (BadCall s.pc (reg s 17))))
kept_by_call s r = elim (reg s 17 == 93) as (λ u. AreRegisters (after s (if u then Halt else Fault (BadCall s.pc (reg s 17))))) [ true ↦ r | false ↦ r ]

kept : (i : Instr) (s : State) → AreRegisters s.x → AreRegisters (after s (executed i s))
unfolding load store
kept (Lui rd imm) s r = kept_by_write s.x rd _ r
kept (Auipc rd imm) s r = kept_by_write s.x rd _ r
kept (Jal rd imm) s r = kept_by_jump s _ (wrapped (s.pc + bits_of imm)) r (kept_by_write s.x rd (wrapped (s.pc + 4)) r)
kept (Jalr rd rs1 imm) s r = kept_by_jump s _ (wrapped (reg s rs1 + bits_of imm) / 2 * 2) r (kept_by_write s.x rd (wrapped (s.pc + 4)) r)
kept (Branch cond rs1 rs2 imm) s r = kept_by_branch s (is_taken cond (reg s rs1) (reg s rs2)) (wrapped (s.pc + bits_of imm)) r
kept (Load kind rd rs1 imm) s r =
    let address : ℕ = wrapped (reg s rs1 + bits_of imm) in
    let value : ℕ = aligned kind (address % 8) (s.word (address / 8)) 0 in
    kept_at_address s kind address (next_with_reg s rd value) r (kept_by_write s.x rd value r)
kept (Store kind rs1 rs2 imm) s r =
    let address : ℕ = wrapped (reg s rs1 + bits_of imm) in
    kept_at_address s kind address (next_with_store s kind address (reg s rs2)) r r
kept (OpImm op rd rs1 imm uw) s r = kept_by_write s.x rd _ r
kept (Op op rd rs1 rs2 uw) s r = kept_by_write s.x rd _ r
kept Fence s r = r
kept Ecall s r = kept_by_call s r
kept Ebreak s r = r

kept_by_fetch : (f : Option ℕ) (s : State) → AreRegisters s.x → AreRegisters (after s (executed_fetch f s))
kept_by_fetch None s r = r
kept_by_fetch (Some w) s r = elim (decoded w) as (λ o. AreRegisters (after s (executed_word o w s))) [ None ↦ r | Some i ↦ kept i s r ]

kept_by_step : (image : Img) (s : State) → AreRegisters s.x → AreRegisters (after s (step image s))
unfolding step
kept_by_step image s r = kept_by_fetch (fetch image s.pc) s r

pub registers_at : (image : Img) (j : ℕ) → AreRegisters (state_at image j).x
unfolding state_at
registers_at image zero = record { count = refl; first = refl }
registers_at image (suc j) = kept_by_step image (state_at image j) (registers_at image j)
