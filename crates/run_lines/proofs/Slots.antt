-- What the row of a step in Main sends to memory, slot by slot.
use Rattle.std.proofs.Common.{ℕ, ◌+◌, ◌*◌, ◌/◌, ◌%◌, ◌^◌, ◌<◌, ◌≡◌, Bool, true, false, not, cond, eqb, List, [], ◌∷◌, ◌++◌, Option, Some, None, map, refl, sym, ap, ◌∙◌, subst, arith, append-nil}
use Rattle.std.specs.Prelude.{slice_index, is_some, IfSome, ◌==◌, if◌then◌else◌}
use Rattle.std.specs.Option.{option_map_or}
use Rattle.std.proofs.lemmas.Bool.Decides.{nat_tests}
use Rattle.std.proofs.lemmas.Option.{none-some, same_Some}
use Rattle.gold.specs.Field.{add_mod, mul_mod}
use Rattle.gold.specs.declared.shapes.Profile.{Profile}
use Rattle.pil_ast.specs.Term.{num, ◌⊕◌, ◌⊗◌, Tuples, Namespace}
use Rattle.pil_ast.specs.Columns.{Columns}
use Rattle.pil_ast.specs.Holds.{row_sent}
use Rattle.pil_laws.proofs.Sent.{unsent, sent_one}
use Rattle.machine_text.specs.Words.{rows_with}
use Rattle.machine_text.specs.Machine.{machine}
use Rattle.machine_text.specs.Main
use Rattle.rv_word.specs.Numbers.{kind_number}
use Rattle.rv_word.specs.declared.instr.Instr.{Instr}
use Rattle.rv_word.specs.declared.instr.Instr.TheVariants.{Lui, Auipc, Jal, Jalr, Branch, Load, Store, OpImm, Op, Fence, Ecall, Ebreak}
use Rattle.rv_model.specs.Align.{aligned}
use Rattle.rv_model.specs.Cpu.{is_store}
use Rattle.min_trace.specs.Laws.{value_in}
use Rattle.min_trace.specs.Operands.{rs1_of, rs2_of, rd_of}
use Rattle.min_trace.specs.declared.record.MemAct.{MemAct}
use Rattle.min_trace.specs.declared.record.StepRecord.{StepRecord}
use Rattle.planner.specs.Rows.{has_row}
use Rattle.step_rows.specs.MainRow.{main_row}
use Rattle.step_rows.specs.Rom.{rom_row, writes}
use Rattle.step_rows.specs.Tuples.{access_tuple}
use Rattle.step_rows.specs.Words.{low, high, one_if}
use Rattle.zk_layout.specs.declared.air.Air.TheVariants as airs
use Rattle.mem_rows.specs.Accesses.{register, reads, time, stored, of_memory, of_register, of_step}
use Rattle.mem_rows.specs.declared.access.Access.{Access as Kept}
use Rattle.mem_rows.specs.declared.access.TheConstants.{REGISTERS, SLOTS, READS_RS1, READS_RS2, READS_MEMORY}
use Rattle.air_main.specs.Rows.{IsRow, Sends, SendsAccess}
use Rattle.air_mem.specs.Access.{Access, memory_tuple}
use Rattle.run_lines.proofs.Known.{IsKnown, Moves, none, some}
use Rattle.run_lines.proofs.Airs.{operation_of, access_of, one, piece}

-- an access by the limbs of its value
abbrev pub limbed : Kept → Access
limbed a = record { key = a.key; time = a.time; write = a.write; lo = low a.value; hi = high a.value }

abbrev pub tuples_of : List Kept → List (List ℕ)
tuples_of xs = map memory_tuple (map limbed xs)

-- what a step reads and writes, each by itself
abbrev pub first_read : StepRecord → List (List ℕ)
first_read x = tuples_of (reads (register x.rs1) (time x.step READS_RS1) x.a ∷ [])

abbrev pub second_read : StepRecord → List (List ℕ)
second_read x = tuples_of (reads (register x.rs2) (time x.step READS_RS2) x.s ∷ [])

abbrev pub memory_read : StepRecord → List (List ℕ)
memory_read x = tuples_of (of_memory false x.step x.mem)

abbrev stores : Bool → ℕ → Option MemAct → List Kept
stores b step None = []
stores b step (Some m) = stored b step m

abbrev pub memory_write : StepRecord → List (List ℕ)
memory_write x = tuples_of (stores (is_store x.instr) x.step x.mem)

abbrev pub register_write : StepRecord → List (List ℕ)
register_write x = tuples_of (of_register x.step x.rd)

-- they are its accesses, in order
pub in_slots : (x : StepRecord) → first_read x ++ (second_read x ++ (memory_read x ++ (memory_write x ++ (register_write x ++ [])))) ≡ tuples_of (of_step x)
in_slots x = ap (λ ts. first_read x ++ (second_read x ++ ts)) (by x.mem (is_store x.instr))
  where
    by : (o : Option MemAct) (b : Bool) → tuples_of (of_memory false x.step o) ++ (tuples_of (stores b x.step o) ++ (register_write x ++ [])) ≡ tuples_of (of_memory b x.step o ++ of_register x.step x.rd)
    by None b = append-nil (register_write x)
    by (Some m) true = ap (λ ts. tuples_of (reads m.index (time x.step READS_MEMORY) m.old ∷ stored true x.step m) ++ ts) (append-nil (register_write x))
    by (Some m) false = ap (λ ts. tuples_of (reads m.index (time x.step READS_MEMORY) m.old ∷ []) ++ ts) (append-nil (register_write x))

-- ---- what Rom's row tells of the registers and of a store
pub rom_tells : (pc : ℕ) (i : Instr) → ((rom_row pc i).rs1 ≡ rs1_of i) × ((rom_row pc i).rs2 ≡ rs2_of i) × ((rom_row pc i).rd ≡ rd_of i) × ((rom_row pc i).wr ≡ writes (rd_of i)) × ((rom_row pc i).st ≡ one_if (is_store i))
unfolding writes
rom_tells pc (Lui rd imm) = (refl, refl, refl, refl, refl)
rom_tells pc (Auipc rd imm) = (refl, refl, refl, refl, refl)
rom_tells pc (Jal rd imm) = (refl, refl, refl, refl, refl)
rom_tells pc (Jalr rd rs1 imm) = (refl, refl, refl, refl, refl)
rom_tells pc (Branch b rs1 rs2 imm) = (refl, refl, refl, refl, refl)
rom_tells pc (Load k rd rs1 imm) = (refl, refl, refl, refl, refl)
rom_tells pc (Store k rs1 rs2 imm) = (refl, refl, refl, refl, refl)
rom_tells pc (OpImm o rd rs1 imm uw) = (refl, refl, refl, refl, refl)
rom_tells pc (Op o rd rs1 rs2 uw) = (refl, refl, refl, refl, refl)
rom_tells pc Fence = (refl, refl, refl, refl, refl)
rom_tells pc Ecall = (refl, refl, refl, refl, refl)
rom_tells pc Ebreak = (refl, refl, refl, refl, refl)

-- ---- numbers
pub is_on : (v : ℕ) → v ≡ 1 → not (eqb v 0) ≡ true
is_on v e = grind (arith, nat_tests)

pub is_off : (v : ℕ) → v ≡ 0 → not (eqb v 0) ≡ false
is_off v e = grind (arith, nat_tests)

at_register : (v r : ℕ) → v ≡ r → r < 32 → add_mod 536870912 v ≡ REGISTERS + r
at_register v r e l = omega arith

at_time : (v s k : ℕ) → v ≡ s → s < 2 ^ 32 → k < 8 → add_mod (mul_mod 8 v) k ≡ SLOTS * s + k
at_time v s k e l h = omega arith

both_on : (a b : ℕ) → a ≡ 1 → b ≡ 1 → mul_mod a b ≡ 1
both_on a b h k = ap (λ z. mul_mod z b) h ∙ ap (mul_mod 1) k

pub second_off : (a b : ℕ) → b ≡ 0 → mul_mod a b ≡ 0
second_off a b k = ap (mul_mod a) k ∙ none a
  where
    none : (a : ℕ) → mul_mod a 0 ≡ 0
    none a = omega arith

pub first_off : (a b : ℕ) → a ≡ 0 → mul_mod a b ≡ 0
first_off a b h = ap (λ z. mul_mod z b) h ∙ none b
  where
    none : (b : ℕ) → mul_mod 0 b ≡ 0
    none b = omega arith

five : (a b d e f a' b' d' e' f' : ℕ) → a ≡ a' → b ≡ b' → d ≡ d' → e ≡ e' → f ≡ f' → a ∷ b ∷ d ∷ e ∷ f ∷ [] ≡ a' ∷ b' ∷ d' ∷ e' ∷ f' ∷ []
five a b d e f a' b' d' e' f' h i j k l = cc

-- ---- what Main sends of a step to memory: the lists, one for each slot
abbrev pub first_list : Tuples
first_list = rows_with 6 Main.sel ((num 536870912 ⊕ Main.rs1) ∷ (num 8 ⊗ Main.STEP ⊕ num 1) ∷ num 0 ∷ Main.alo ∷ Main.ahi ∷ [])

abbrev pub second_list : Tuples
second_list = rows_with 6 Main.sel ((num 536870912 ⊕ Main.rs2) ∷ (num 8 ⊗ Main.STEP ⊕ num 2) ∷ num 0 ∷ Main.slo ∷ Main.shi ∷ [])

abbrev pub old_list : Tuples
old_list = rows_with 6 Main.ms (Main.w ∷ (num 8 ⊗ Main.STEP ⊕ num 3) ∷ num 0 ∷ Main.olo ∷ Main.ohi ∷ [])

abbrev pub new_list : Tuples
new_list = rows_with 6 (Main.sel ⊗ Main.st) (Main.w ∷ (num 8 ⊗ Main.STEP ⊕ num 4) ∷ num 1 ∷ Main.mlo ∷ Main.mhi ∷ [])

abbrev pub put_list : Tuples
put_list = rows_with 6 (Main.sel ⊗ Main.wr) ((num 536870912 ⊕ Main.rd) ∷ (num 8 ⊗ Main.STEP ⊕ num 5) ∷ num 1 ∷ Main.vlo ∷ Main.vhi ∷ [])

-- row r of instance i is that of the step
pub record HasStep (q : Profile) (c : Columns) (i r n : ℕ) (x : StepRecord) : Type 0 where
  pub known : IsKnown n x
  pub sends : Sends (machine q) c i r x
  pub row : IsRow c i r (main_row x)
  pub numbered : c.at 6 i 0 r ≡ x.step

module _ (q : Profile) (c : Columns) (i r n : ℕ) (few : n < 2 ^ 32) (x : StepRecord) (has : HasStep q c i r n x) where
  abbrev ns : List Namespace
  ns = machine q

  selected : c.at 6 i 8 r ≡ 1
  selected = has.row 0 (omega arith)

  step_small : x.step < 2 ^ 32
  step_small = let s = has.known.step in omega arith

  stores_is : c.at 6 i 23 r ≡ one_if (is_store x.instr)
  stores_is = has.row 15 (omega arith) ∙ (rom_tells x.pc x.instr).4

  writes_is : c.at 6 i 21 r ≡ writes (rd_of x.instr)
  writes_is = has.row 13 (omega arith) ∙ (rom_tells x.pc x.instr).3

  pub first_sent : row_sent ns c first_list i r ≡ first_read x
  first_sent =
      sent_one ns c first_list i r (is_on _ selected)
      ∙ ap (λ u. u ∷ []) (five _ _ _ _ _ _ _ _ _ _ (at_register _ x.rs1 (has.row 2 (omega arith) ∙ (rom_tells x.pc x.instr).0 ∙ sym has.known.rs1) has.known.rs1_below) (at_time _ x.step 1 has.numbered step_small (omega arith)) refl (has.row 22 (omega arith)) (has.row 23 (omega arith)))

  pub second_sent : row_sent ns c second_list i r ≡ second_read x
  second_sent =
      sent_one ns c second_list i r (is_on _ selected)
      ∙ ap (λ u. u ∷ []) (five _ _ _ _ _ _ _ _ _ _ (at_register _ x.rs2 (has.row 3 (omega arith) ∙ (rom_tells x.pc x.instr).1 ∙ sym has.known.rs2) has.known.rs2_below) (at_time _ x.step 2 has.numbered step_small (omega arith)) refl (has.row 24 (omega arith)) (has.row 25 (omega arith)))

  old_by : (o : Option MemAct) → SendsAccess ns c i r x.s o → row_sent ns c old_list i r ≡ tuples_of (of_memory false x.step o)
  old_by None h = unsent ns c old_list i r (is_off _ h)
  old_by (Some m) h =
      sent_one ns c old_list i r (is_on _ h.0)
      ∙ ap (λ u. u ∷ []) (five _ _ _ _ _ _ _ _ _ _ h.1 (at_time _ x.step 3 has.numbered step_small (omega arith)) refl (ap (λ t. slice_index t 2) h.2) (ap (λ t. slice_index t 3) h.2))

  pub old_sent : row_sent ns c old_list i r ≡ memory_read x
  old_sent = old_by x.mem has.sends.access

  new_by : (o : Option MemAct) (b : Bool) → is_store x.instr ≡ b → SendsAccess ns c i r x.s o → Moves x.instr x.s o → row_sent ns c new_list i r ≡ tuples_of (stores b x.step o)
  new_by None b e h (none z f) = unsent ns c new_list i r (is_off _ (second_off _ _ (stores_is ∙ ap one_if f)))
  new_by None b e h (some m z v w) = absurd (none-some m z)
  new_by (Some m) false e h k = unsent ns c new_list i r (is_off _ (second_off _ _ (stores_is ∙ ap one_if e)))
  new_by (Some m) true e h k =
      sent_one ns c new_list i r (is_on _ (both_on _ _ selected (stores_is ∙ ap one_if e)))
      ∙ ap (λ u. u ∷ []) (five _ _ _ _ _ _ _ _ _ _ h.1 (at_time _ x.step 4 has.numbered step_small (omega arith)) refl (ap (λ t. slice_index t 6) h.2) (ap (λ t. slice_index t 7) h.2))

  pub new_sent : row_sent ns c new_list i r ≡ memory_write x
  new_sent = new_by x.mem (is_store x.instr) refl has.sends.access has.known.moves

  rd_small : (o : Option (ℕ × ℕ)) (d v : ℕ) → IfSome o (λ w. w.0 < 32) → o ≡ Some (d, v) → d < 32
  rd_small None d v h e = absurd (none-some (d, v) e)
  rd_small (Some w) d v h e = subst (λ z. z.0 < 32) (same_Some w (d, v) e) h

  put_by : (b : Bool) → (rd_of x.instr == 0) ≡ b → x.rd ≡ (if b then None else Some (rd_of x.instr, value_in x.instr x)) → c.at 6 i 21 r ≡ (if b then 0 else 1) → row_sent ns c put_list i r ≡ tuples_of (of_register x.step (if b then None else Some (rd_of x.instr, value_in x.instr x)))
  put_by true e h w = unsent ns c put_list i r (is_off _ (second_off _ _ w))
  put_by false e h w =
      sent_one ns c put_list i r (is_on _ (both_on _ _ selected w))
      ∙ ap (λ u. u ∷ []) (five _ _ _ _ _ _ _ _ _ _ (at_register _ (rd_of x.instr) (has.row 4 (omega arith) ∙ (rom_tells x.pc x.instr).2) (rd_small x.rd (rd_of x.instr) (value_in x.instr x) has.known.rd_below h)) (at_time _ x.step 5 has.numbered step_small (omega arith)) refl has.sends.v_low has.sends.v_high)

  writes_if : writes (rd_of x.instr) ≡ (if rd_of x.instr == 0 then 0 else 1)
  unfolding writes
  writes_if = refl

  pub put_sent : row_sent ns c put_list i r ≡ register_write x
  put_sent = put_by (rd_of x.instr == 0) refl has.known.rd (writes_is ∙ writes_if) ∙ ap (λ o. tuples_of (of_register x.step o)) (sym has.known.rd)

  -- and to the airs of its operation and of its access
  pub operation_sent : row_sent ns c Main.operation i r ≡ one operation_of x
  operation_sent = sent_one ns c Main.operation i r (is_on _ selected) ∙ ap (λ u. u ∷ []) has.sends.operation

  acted : (m : MemAct) → Moves x.instr x.s (Some m) → m.result ≡ aligned m.kind m.off m.old x.s
  acted m (none z f) = absurd (none-some m (sym z))
  acted m (some a z v w) = subst (λ b. b.result ≡ aligned b.kind b.off b.old x.s) (sym (same_Some m a z)) w

  access_by : (o : Option MemAct) → SendsAccess ns c i r x.s o → Moves x.instr x.s o → row_sent ns c Main.access i r ≡ cond (is_some o) (option_map_or (λ (m : MemAct). access_tuple m.kind m.off m.old x.s) o [] ∷ []) []
  unfolding low high
  access_by None h k = unsent ns c Main.access i r (is_off _ h)
  access_by (Some m) h k =
      sent_one ns c Main.access i r (is_on _ h.0)
      ∙ ap (λ u. u ∷ []) (h.2 ∙ ap (λ v. kind_number m.kind ∷ m.off ∷ m.old % 2 ^ 32 ∷ m.old / 2 ^ 32 ∷ x.s % 2 ^ 32 ∷ x.s / 2 ^ 32 ∷ v % 2 ^ 32 ∷ v / 2 ^ 32 ∷ []) (acted m k))

  pub access_sent : row_sent ns c Main.access i r ≡ piece airs.Align access_of x
  unfolding has_row
  access_sent = access_by x.mem has.sends.access has.known.moves
