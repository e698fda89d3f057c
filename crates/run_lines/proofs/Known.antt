-- What is known of the steps of a run that halts.
use Rattle.std.proofs.Common.{inl, inr, ℕ, ◌+◌, ◌-◌, ◌/◌, ◌%◌, ◌^◌, ◌<◌, ◌≤◌, ◌≡◌, Bool, true, false, List, Option, Some, None, IfSome, length, get_or, refl, sym, ap, ◌∙◌, subst, arith}
use Rattle.std.specs.Prelude.{All, slice_index}
use Rattle.std.specs.List.{range_with_len}
use Rattle.std.proofs.lemmas.Bool.{cases_lt}
use Rattle.std.proofs.lemmas.List.Elements.{All-map}
use Rattle.std.proofs.lemmas.List.FromFn.{length-range_with_len, get_or-range_with_len}
use Rattle.rv_word.specs.declared.instr.Kind.{Kind}
use Rattle.rv_word.specs.declared.instr.Kind.TheVariants.{Lb, Lh, Lw, Ld, Lbu, Lhu, Lwu, Sb, Sh, Sw, Sd}
use Rattle.rv_word.specs.declared.instr.Instr.{Instr}
use Rattle.rv_word.specs.declared.instr.Instr.TheVariants.{Lui, Auipc, Jal, Jalr, Branch, Load, Store, OpImm, Op, Fence, Ecall, Ebreak}
use Rattle.rv_model.specs.Align.{width, aligned}
use Rattle.rv_model.specs.Cpu.{is_store}
use Rattle.rv_model.specs.Image.{Img, IsLoadable}
use Rattle.rv_model.specs.Run.{state_at, step_at, IsNext, RunsTo}
use Rattle.rv_model.specs.State.{Answer, Next, Halt, Fault, operand}
use Rattle.rv_model.specs.declared.answer.Public.{Public}
use Rattle.min_trace.specs.Bounds.{IsRecord}
use Rattle.min_trace.specs.Chunk.{IsStep}
use Rattle.min_trace.specs.Laws.{Accesses, written_by}
use Rattle.min_trace.specs.Operands.{rs1_of, rs2_of}
use Rattle.min_trace.specs.Record.{record_at, records_between}
use Rattle.min_trace.specs.declared.record.MemAct.{MemAct}
use Rattle.min_trace.specs.declared.record.StepRecord.{StepRecord}
use Rattle.run_lines.proofs.Below.{StepLaws}

-- a step makes no access, or a good one: a load or a store, with the value of rs2, which is x0 for a load
pub data Moves (i : Instr) (s : ℕ) (o : Option MemAct) : Type 0 where
  none : o ≡ None → is_store i ≡ false → Moves i s o
  some : (m : MemAct) → o ≡ Some m → m.off % width m.kind ≡ 0 → m.result ≡ aligned m.kind m.off m.old s → Moves i s o

-- the record is that of a step below n
pub record IsStepOf (image : Img) (n : ℕ) (r : StepRecord) : Type 0 where
  pub number : ℕ
  pub below : number < n
  pub is : r ≡ record_at image number

pub record IsKnown (n : ℕ) (r : StepRecord) : Type 0 where
  pub step : r.step < n
  pub rs1 : r.rs1 ≡ rs1_of r.instr
  pub rs2 : r.rs2 ≡ rs2_of r.instr
  pub rs1_below : r.rs1 < 32
  pub rs2_below : r.rs2 < 32
  pub rd_below : IfSome r.rd (λ w. w.0 < 32)
  pub bounds : IsRecord r
  pub moves : Moves r.instr r.s r.mem
  pub rd : r.rd ≡ written_by r.instr r

-- ---- an access
even : (k : Kind) (v : ℕ) → v % width k ≡ 0 → v % 8 % width k ≡ 0
even Lb v h = omega arith
even Lh v h = omega arith
even Lw v h = omega arith
even Ld v h = omega arith
even Lbu v h = omega arith
even Lhu v h = omega arith
even Lwu v h = omega arith
even Sb v h = omega arith
even Sh v h = omega arith
even Sw v h = omega arith
even Sd v h = omega arith

moves_of : (i : Instr) (r : StepRecord) (word : ℕ → ℕ) (x : List ℕ) → slice_index x 0 ≡ 0 → r.s ≡ slice_index x (rs2_of i) → Accesses i r word → Moves i r.s r.mem
moves_of (Load k rd rs1 imm) r word x z e h =
    some (record { index = r.c / 8; off = r.c % 8; kind = k; old = word (r.c / 8); result = aligned k (r.c % 8) (word (r.c / 8)) 0 }) h.2 (even k r.c h.0) (ap (aligned k (r.c % 8) (word (r.c / 8))) (sym (e ∙ z)))
moves_of (Store k rs1 rs2 imm) r word x z e h =
    some (record { index = r.c / 8; off = r.c % 8; kind = k; old = word (r.c / 8); result = aligned k (r.c % 8) (word (r.c / 8)) r.s }) h.2 (even k r.c h.0) refl
moves_of (Lui rd imm) r word x z e h = none h refl
moves_of (Auipc rd imm) r word x z e h = none h refl
moves_of (Jal rd imm) r word x z e h = none h refl
moves_of (Jalr rd rs1 imm) r word x z e h = none h refl
moves_of (Branch b rs1 rs2 imm) r word x z e h = none h refl
moves_of (OpImm o rd rs1 imm uw) r word x z e h = none h refl
moves_of (Op o rd rs1 rs2 uw) r word x z e h = none h refl
moves_of Fence r word x z e h = none h refl
moves_of Ecall r word x z e h = none h refl
moves_of Ebreak r word x z e h = none h refl

-- ---- the steps of a run
next_is_step : (a : Answer) → IsNext a → IsStep a
next_is_step (Next t) h = tt
next_is_step Halt h = absurd h
next_is_step (Fault f) h = absurd h

pub first_below : (b : Bool) (v : ℕ) → v < 2 ^ 64 → operand b v < 2 ^ 64
first_below true v h = omega arith
first_below false v h = h

module _ (laws : StepLaws) (image : Img) (n : ℕ) (public : Public) (loadable : IsLoadable image) (run : RunsTo image n public) where
  is_step : (j : ℕ) → j < n → IsStep (step_at image j)
  is_step j l = elim (cases_lt (j + 1) n) [
    | inl h ↦ next_is_step (step_at image j) (run.on j h)
    | inr h ↦ subst IsStep (sym (ap (step_at image) (last j n l h) ∙ run.halt)) tt
  ]
    where
      last : (j n : ℕ) → j < n → n ≤ j + 1 → j ≡ n - 1
      last j n l h = omega arith

  fields : (j : ℕ) → ((record_at image j).step ≡ j) × ((record_at image j).rs1 ≡ rs1_of (record_at image j).instr) × ((record_at image j).rs2 ≡ rs2_of (record_at image j).instr)
  unfolding record_at
  fields j = (refl, refl, refl)

  known_at : (j : ℕ) → j < n → IsKnown n (record_at image j)
  known_at j l =
      let h = is_step j l in
      let f = fields j in
      record {
        step = subst (λ k. k < n) (sym f.0) l;
        rs1 = f.1;
        rs2 = f.2;
        rs1_below = laws.rs1 image j;
        rs2_below = laws.rs2 image j;
        rd_below = laws.rd image j;
        bounds = laws.bounds image loadable j h;
        moves = moves_of (record_at image j).instr (record_at image j) (state_at image j).word (state_at image j).x (laws.zero image j) ((laws.reads image j).2 ∙ ap (slice_index (state_at image j).x) f.2) (laws.accesses image j h);
        rd = laws.writes image j h;
      }

  pub all_steps : All (IsStepOf image n) (records_between image 0 n)
  all_steps = All-map (IsStepOf image n) (record_at image) (range_with_len 0 n) (λ k d l. at k d l)
    where
      at : (k d : ℕ) → k < length (range_with_len 0 n) → IsStepOf image n (record_at image (get_or (range_with_len 0 n) k d))
      at k d l =
          let long = length-range_with_len 0 n in
          let e = get_or-range_with_len 0 n k d (omega arith) in
          record { number = get_or (range_with_len 0 n) k d; below = omega arith; is = refl }

  pub known : (r : StepRecord) → IsStepOf image n r → IsKnown n r
  known r h = subst (IsKnown n) (sym h.is) (known_at h.number h.below)
