-- The numbers of a run are those of 64 bits.
use Rattle.std.proofs.Common.{◌≡◌, ◌==◌, ◌+◌, ◌*◌, ◌/◌, ◌%◌, ◌<◌, ◌≤◌, ◌<ℤ◌, ◌^◌, ℕ, zero, suc, ℤ, pos, negsuc, Bool, true, false, if◌then◌else◌, List, length, get_or, Option, Some, None, IfSome, unwrap_or, replicate, ◌⊎◌, refl, sym, subst, ◌∙◌, arith, inl, inr, set}
use Rattle.std.specs.Option.{option_map_or}
use Rattle.std.proofs.lemmas.Int.{ints}
use Rattle.std.proofs.lemmas.Bool.{cases_eq, cases_lt}
use Rattle.std.proofs.lemmas.List.{length-set, get_or-set_same, get_or-set_other, get_or_past}
use Rattle.rv_word.specs.declared.instr.Kind.{Kind}
use Rattle.rv_word.specs.declared.instr.OpNo.{OpNo}
use Rattle.rv_word.specs.declared.instr.OpNo.TheVariants as ops
use Rattle.rv_word.specs.declared.instr.Instr.{Instr}
use Rattle.rv_word.specs.declared.instr.Instr.TheVariants.{Lui, Auipc, Jal, Jalr, Branch, Load, Store, OpImm, Op, Fence, Ecall, Ebreak}
use Rattle.rv_word.specs.Ranges.{InRange, IsImmOf}
use Rattle.rv_model.specs.Image.{Img, initial_word}
use Rattle.rv_model.specs.Op.{value_of, bits_of}
use Rattle.rv_model.specs.Align.{aligned}
use Rattle.rv_model.specs.State.{State, Answer, Next, Halt, Fault, wrapped, operand, with_word}
use Rattle.rv_model.specs.Cpu.{cpu_of, is_store}
use Rattle.rv_model.specs.Run.{state_at, step_at, moved}
use Rattle.min_trace.specs.declared.record.MemAct.{MemAct}
use Rattle.min_trace.specs.declared.record.StepRecord.{StepRecord}
use Rattle.min_trace.specs.Operands.{rs1_of, rs2_of, rd_of, uw_of, op_of}
use Rattle.min_trace.specs.Record.{instr_at, second, record_at}
use Rattle.min_trace.specs.Chunk.{IsStep}
use Rattle.min_trace.specs.Laws.{Accesses, IsActAt, is_taken_by, leads_to, value_in}
use Rattle.min_trace.specs.After.{with_written, with_stored, after}
use Rattle.min_trace.specs.Bounds.{IsState, IsAct, IsRecord}
use Rattle.min_trace.proofs.Steps.{state_more}
use Rattle.min_trace.proofs.Completes.{AreRegisters, registers_at, in_range_at}
use Rattle.min_trace.proofs.Facts.{accesses_at, leads_at, writes_at}
use Rattle.min_trace.proofs.After.{Found, Ranged, after_at}

-- what the laws of the crates below say of decoding and of 64-bit numbers
pub record FromBelow : Type 0 where
  pub found : Found
  pub range : Ranged
  pub operations : (o : OpNo) (a b : ℕ) → a < 2 ^ 64 → b < 2 ^ 64 → value_of o a b < 2 ^ 64
  pub accesses : (k : Kind) (off old value : ℕ) → off < 8 → old < 2 ^ 64 → value < 2 ^ 64 → aligned k off old value < 2 ^ 64

-- immediates
imm_below : (z : ℤ) (m : ℕ) → z <ℤ pos m → m ≤ 2 ^ 31 → bits_of z < 2 ^ 64
imm_below (pos n) m h le = omega (arith, ints)
imm_below (negsuc n) m h le = omega arith

imm_of : (o : OpNo) (z : ℤ) → IsImmOf o z → bits_of z < 2 ^ 64
imm_of ops.Sll z h = imm_below z 64 h.1 (omega arith)
imm_of ops.Srl z h = imm_below z 64 h.1 (omega arith)
imm_of ops.Sra z h = imm_below z 64 h.1 (omega arith)
imm_of ops.Sllw z h = imm_below z 32 h.1 (omega arith)
imm_of ops.Srlw z h = imm_below z 32 h.1 (omega arith)
imm_of ops.Sraw z h = imm_below z 32 h.1 (omega arith)
imm_of _ z h = imm_below z 2048 h.1 (omega arith)

wrapped_below : (n : ℕ) → wrapped n < 2 ^ 64
wrapped_below n = omega arith

operand_below : (uw : Bool) (a : ℕ) → a < 2 ^ 64 → operand uw a < 2 ^ 64
operand_below true a h = omega arith
operand_below false a h = h

second_below : (i : Instr) (s : State) → InRange i → IsState s → second i (cpu_of s) < 2 ^ 64
second_below (Lui rd imm) s r is = imm_below imm (2 ^ 31) r.1.1 (omega arith)
second_below (Auipc rd imm) s r is = wrapped_below (s.pc + bits_of imm)
second_below (Jal rd imm) s r is = wrapped_below (s.pc + 4)
second_below (Jalr rd rs1 imm) s r is = imm_below imm 2048 r.2.1 (omega arith)
second_below (Branch cond rs1 rs2 imm) s r is = is.registers rs2
second_below (Load kind rd rs1 imm) s r is = imm_below imm 2048 r.3.1 (omega arith)
second_below (Store kind rs1 rs2 imm) s r is = imm_below imm 2048 r.3.1 (omega arith)
second_below (OpImm op rd rs1 imm uw) s r is = imm_of op imm r.3
second_below (Op op rd rs1 rs2 uw) s r is = is.registers rs2
second_below Fence s r is = omega arith
second_below Ecall s r is = omega arith
second_below Ebreak s r is = omega arith

act_below : FromBelow → (k : Kind) (value : ℕ) (r : StepRecord) (word : ℕ → ℕ) → ((j : ℕ) → word j < 2 ^ 64) → value < 2 ^ 64 → IsActAt k value r word → IfSome r.mem IsAct
act_below laws k value r word words below is =
    subst (λ (m : Option MemAct). IfSome m IsAct) (sym is.2) (record {
      index = omega (arith, is.1);
      off = omega arith;
      old = words (r.c / 8);
      result = laws.accesses k (r.c % 8) (word (r.c / 8)) value (omega arith) (words (r.c / 8)) below;
    })

none_below : (r : StepRecord) → r.mem ≡ None → IfSome r.mem IsAct
none_below r is = subst (λ (m : Option MemAct). IfSome m IsAct) (sym is) tt

mem_below : FromBelow → (i : Instr) (r : StepRecord) (word : ℕ → ℕ) → ((j : ℕ) → word j < 2 ^ 64) → r.s < 2 ^ 64 → Accesses i r word → IfSome r.mem IsAct
mem_below laws (Load kind rd rs1 imm) r word words s is = act_below laws kind 0 r word words (omega arith) is
mem_below laws (Store kind rs1 rs2 imm) r word words s is = act_below laws kind r.s r word words s is
mem_below laws (Lui rd imm) r word words s is = none_below r is
mem_below laws (Auipc rd imm) r word words s is = none_below r is
mem_below laws (Jal rd imm) r word words s is = none_below r is
mem_below laws (Jalr rd rs1 imm) r word words s is = none_below r is
mem_below laws (Branch cond rs1 rs2 imm) r word words s is = none_below r is
mem_below laws (OpImm op rd rs1 imm uw) r word words s is = none_below r is
mem_below laws (Op op rd rs1 rs2 uw) r word words s is = none_below r is
mem_below laws Fence r word words s is = none_below r is
mem_below laws Ecall r word words s is = none_below r is
mem_below laws Ebreak r word words s is = none_below r is

loaded_below : (m : Option MemAct) → IfSome m IsAct → option_map_or (λ (n : MemAct). n.result) m 0 < 2 ^ 64
loaded_below None h = omega arith
loaded_below (Some m) h = h.result

value_below : (i : Instr) (r : StepRecord) → r.c < 2 ^ 64 → IfSome r.mem IsAct → value_in i r < 2 ^ 64
value_below (Jalr rd rs1 imm) r c m = wrapped_below (r.pc + 4)
value_below (Load kind rd rs1 imm) r c m = loaded_below r.mem m
value_below _ r c m = c

abbrev Below : ℕ → Type 0
Below n = n < 2 ^ 64

written_with : (rd value : ℕ) → value < 2 ^ 64 → IfSome {T = ℕ × ℕ} (if rd == 0 then None else Some (rd, value)) (λ w. w.1 < 2 ^ 64)
written_with rd value h = elim (rd == 0) as (λ b. IfSome {T = ℕ × ℕ} (if b then None else Some (rd, value)) (λ w. w.1 < 2 ^ 64)) [ true ↦ tt | false ↦ h ]

branch_below : (taken : Bool) (a b : ℕ) → (if taken then wrapped a else wrapped b) < 2 ^ 64
branch_below true a b = wrapped_below a
branch_below false a b = wrapped_below b

leads_below : (i : Instr) (r : StepRecord) → r.c < 2 ^ 64 → IfSome (leads_to i r) Below
leads_below (Jal rd imm) r c = wrapped_below (r.pc + bits_of imm)
leads_below (Jalr rd rs1 imm) r c = let even : r.c / 2 * 2 ≤ r.c = omega arith in let below : r.c / 2 * 2 < 2 ^ 64 = omega arith in below
leads_below (Branch cond rs1 rs2 imm) r c = branch_below (is_taken_by cond r.flag) (r.pc + bits_of imm) (r.pc + 4)
leads_below Ecall r c = tt
leads_below Ebreak r c = tt
leads_below (Lui rd imm) r c = wrapped_below (r.pc + 4)
leads_below (Auipc rd imm) r c = wrapped_below (r.pc + 4)
leads_below (Load kind rd rs1 imm) r c = wrapped_below (r.pc + 4)
leads_below (Store kind rs1 rs2 imm) r c = wrapped_below (r.pc + 4)
leads_below (OpImm op rd rs1 imm uw) r c = wrapped_below (r.pc + 4)
leads_below (Op op rd rs1 rs2 uw) r c = wrapped_below (r.pc + 4)
leads_below Fence r c = wrapped_below (r.pc + 4)

-- the values that a record takes of the state and computes
record Computed (r : StepRecord) : Type 0 where
  pub pc : r.pc < 2 ^ 64
  pub a : r.a < 2 ^ 64
  pub s : r.s < 2 ^ 64
  pub b : r.b < 2 ^ 64
  pub c : r.c < 2 ^ 64

computed_at : FromBelow → (image : Img) (j : ℕ) → IsState (state_at image j) → Computed (record_at image j)
unfolding record_at
computed_at laws image j is =
    let i : Instr = instr_at image j in
    let s : State = state_at image j in
    let b : second i (cpu_of s) < 2 ^ 64 = second_below i s (in_range_at laws.found laws.range image j) is in
    record {
      pc = is.pc;
      a = is.registers (rs1_of i);
      s = is.registers (rs2_of i);
      b = b;
      c = laws.operations (op_of i) (operand (uw_of i) (get_or s.x (rs1_of i) 0)) (second i (cpu_of s)) (operand_below (uw_of i) (get_or s.x (rs1_of i) 0) (is.registers (rs1_of i))) b;
    }

pub record_below : FromBelow → (image : Img) (j : ℕ) → IsState (state_at image j) → IsStep (step_at image j) → IsRecord (record_at image j)
record_below laws image j is h =
    let r : StepRecord = record_at image j in
    let known : Computed r = computed_at laws image j is in
    let mem : IfSome r.mem IsAct = mem_below laws r.instr r (state_at image j).word is.words known.s (accesses_at image j h) in
    record {
      pc = known.pc;
      a = known.a;
      s = known.s;
      b = known.b;
      c = known.c;
      mem = mem;
      rd = let P : Option (ℕ × ℕ) → Type 0 = λ o. IfSome o (λ w. w.1 < 2 ^ 64) in subst P (sym (writes_at laws.found laws.range image j h)) (written_with (rd_of r.instr) (value_in r.instr r) (value_below r.instr r known.c mem));
      next = subst (λ o. IfSome o Below) (sym (leads_at image j h)) (leads_below r.instr r known.c);
    }

set_below : (x : List ℕ) (i v k : ℕ) → ((j : ℕ) → get_or x j 0 < 2 ^ 64) → v < 2 ^ 64 → get_or (set x i v) k 0 < 2 ^ 64
set_below x i v k h below = elim (cases_eq k i) [
  | inl same ↦ elim (cases_lt i (length x)) [
    | inl inside ↦ let e : get_or (set x i v) i 0 ≡ v = get_or-set_same x i v 0 inside in rw (same, e) below
    | inr past ↦ let e : get_or (set x i v) i 0 ≡ 0 = get_or_past (set x i v) i 0 (omega (arith, length-set x i v)) in rw (same, e) (omega arith)
  ]
  | inr other ↦ rw (get_or-set_other x i k v 0 other) (h k)
]

written_below : (x : List ℕ) (o : Option (ℕ × ℕ)) (k : ℕ) → ((j : ℕ) → get_or x j 0 < 2 ^ 64) → IfSome o (λ w. w.1 < 2 ^ 64) → get_or (with_written x o) k 0 < 2 ^ 64
written_below x None k h b = h k
written_below x (Some w) k h b = set_below x w.0 w.1 k h b

put_below : (word : ℕ → ℕ) (index v k : ℕ) → ((j : ℕ) → word j < 2 ^ 64) → v < 2 ^ 64 → with_word word index v k < 2 ^ 64
put_below word index v k h b = elim (index == k) as (λ t. (if t then v else word k) < 2 ^ 64) [ true ↦ b | false ↦ h k ]

stored_below : (word : ℕ → ℕ) (stores : Bool) (m : Option MemAct) (k : ℕ) → ((j : ℕ) → word j < 2 ^ 64) → IfSome m IsAct → with_stored word stores m k < 2 ^ 64
stored_below word stores None k h b = h k
stored_below word true (Some m) k h b = put_below word m.index m.result k h b.result
stored_below word false (Some m) k h b = h k

pc_below : (o : Option ℕ) (pc : ℕ) → pc < 2 ^ 64 → IfSome o Below → unwrap_or o pc < 2 ^ 64
pc_below None pc h b = h
pc_below (Some t) pc h b = b

-- what 64-bit numbers leave of 64-bit numbers
state_onward : (image : Img) (j : ℕ) (s : State) (r : StepRecord) → state_at image (j + 1) ≡ after r s → IsState s → IsRecord r → IsState (state_at image (j + 1))
state_onward image j s r e is b =
    let t : State = after r s in
    let registers : AreRegisters (state_at image (j + 1)).x = registers_at image (j + 1) in
    record {
      pc = subst (λ (u : State). u.pc < 2 ^ 64) (sym e) (pc_below r.next s.pc is.pc b.next);
      count = registers.count;
      zero = registers.first;
      registers = λ k. subst (λ (u : State). get_or u.x k 0 < 2 ^ 64) (sym e) (written_below s.x r.rd k is.registers b.rd);
      words = λ k. subst (λ (u : State). u.word k < 2 ^ 64) (sym e) (stored_below s.word (is_store r.instr) r.mem k is.words b.mem);
    }

leads_or_stays : (a : Answer) → IsStep a ⊎ ((s : State) → moved s a ≡ s)
leads_or_stays (Next t) = inl tt
leads_or_stays Halt = inl tt
leads_or_stays (Fault f) = inr (λ s. refl)

alike : (v n k : ℕ) → get_or (replicate n v) k v ≡ v
alike v zero k = refl
alike v (suc n) zero = refl
alike v (suc n) (suc k) = alike v n k

zeros_below : (k : ℕ) → get_or (replicate 32 0) k 0 < 2 ^ 64
zeros_below k = let o : ℕ = 0 in let e : get_or (replicate 32 o) k o ≡ o = alike o 32 k in omega arith

state_first : (image : Img) → image.entry < 2 ^ 64 → ((k : ℕ) → initial_word image k < 2 ^ 64) → IsState (state_at image 0)
unfolding state_at
state_first image entry words = record { pc = entry; count = refl; zero = refl; registers = zeros_below; words = words }

pub state_below : FromBelow → (image : Img) → image.entry < 2 ^ 64 → ((k : ℕ) → initial_word image k < 2 ^ 64) → (j : ℕ) → IsState (state_at image j)
state_below laws image entry words zero = state_first image entry words
state_below laws image entry words (suc j) =
    let is : IsState (state_at image j) = state_below laws image entry words j in
    let next : j + 1 ≡ suc j = omega arith in
    subst (λ n. IsState (state_at image n)) next (elim (leads_or_stays (step_at image j)) [
      | inl h ↦ state_onward image j (state_at image j) (record_at image j) (after_at laws.found laws.range image j h) is (record_below laws image j is h)
      | inr stays ↦ subst IsState (sym (state_more image j ∙ stays (state_at image j))) is
    ])
