-- The reads of a run have the values of its states.
use Rattle.std.proofs.Common.{◌≡◌, ◌==◌, ◌+◌, ◌-◌, ◌*◌, ◌^◌, ◌<◌, ◌≤◌, ◌⊎◌, ⊎_elim, ℕ, zero, suc, Bool, true, false, true≢false, cond, List, [], ◌∷◌, ◌++◌, Option, Some, None, map, length, get_or, slice_index, replicate, refl, ap, sym, ◌∙◌, subst, arith}
use Rattle.std.specs.Prelude.{All, IfSome, nat_lt, slice_set}
use Rattle.std.specs.List.{flat_map, range_with_len}
use Rattle.std.specs.Int.{from_le_bytes, to_le_bytes, w64}
use Rattle.std.proofs.lemmas.Bool.{cases_eq, cases_lt, ne_eqb, eq-eqb}
use Rattle.std.proofs.lemmas.Bool.Decides.{nat_tests}
use Rattle.std.proofs.lemmas.Nat.{from_le_bytes-to_le_bytes_8}
use Rattle.std.proofs.lemmas.List.{get_or-set_same, get_or-set_other, get_or_append_left, get_or-append-add}
use Rattle.rv_model.specs.Image.{Img}
use Rattle.rv_model.specs.Cpu.{is_store}
use Rattle.rv_model.specs.Run.{state_at, window, public_of}
use Rattle.rv_model.specs.State.{State, with_word}
use Rattle.rv_model.specs.declared.answer.Public.{Public}
use Rattle.rv_model.specs.declared.machine.TheConstants.{OUTPUT_INDEX, OUTPUT_WORDS, EXIT_REGISTER}
use Rattle.min_trace.specs.After.{with_stored, with_written, after}
use Rattle.min_trace.specs.Bounds.{IsAct, IsRecord, IsState}
use Rattle.min_trace.specs.Record.{record_at, records_between}
use Rattle.min_trace.specs.declared.record.MemAct.{MemAct}
use Rattle.min_trace.specs.declared.record.StepRecord.{StepRecord}
use Rattle.mem_rows.specs.declared.access.Access.{Access}
use Rattle.mem_rows.specs.declared.access.TheConstants.{REGISTERS, END, READS_MEMORY, READS_RS1, READS_RS2, WRITES_MEMORY, WRITES_RD}
use Rattle.mem_rows.specs.Accesses.{reads, writes, register, time, stored, of_memory, of_register, of_step, of_steps, output_word, output_reads, last_reads}
use Rattle.mem_rows.proofs.Values.{put, after_all, Reads, Same, same_after, same_reads, after_append, reads_append}

-- the values of a state by key: its doublewords, and behind them its registers
abbrev pub held : (ℕ → ℕ) → List ℕ → ℕ → ℕ
held word x k = cond (nat_lt k REGISTERS) (word k) (slice_index x (k - REGISTERS))

abbrev pub held_in : State → ℕ → ℕ
held_in s = held s.word s.x

below : (k : ℕ) → k < REGISTERS → nat_lt k REGISTERS ≡ true
below k lt = grind (arith, nat_tests)

past : (k : ℕ) → REGISTERS ≤ k → nat_lt k REGISTERS ≡ false
past k le = grind (arith, nat_tests)

pub held_word : (word : ℕ → ℕ) (x : List ℕ) (k : ℕ) → k < REGISTERS → held word x k ≡ word k
held_word word x k lt = rw (below k lt) refl

pub held_register : (word : ℕ → ℕ) (x : List ℕ) (i : ℕ) → held word x (REGISTERS + i) ≡ slice_index x i
held_register word x i = let e : REGISTERS + i - REGISTERS ≡ i = omega arith in rw (past (REGISTERS + i) (omega arith), e) refl

memory_after : (word : ℕ → ℕ) (x : List ℕ) (stores : Bool) (j : ℕ) (mem : Option MemAct) → IfSome mem IsAct → Same (after_all (held word x) (of_memory stores j mem)) (held (with_stored word stores mem) x)
memory_after word x stores j None h k = refl
memory_after word x false j (Some m) h k = refl
memory_after word x true j (Some m) h k =
    let low : m.index < REGISTERS = let l = h.index in omega arith in
    ⊎_elim (λ e. let yes : (m.index == k) ≡ true = eq-eqb m.index k e in let lt : nat_lt k REGISTERS ≡ true = below k (omega arith) in rw (yes, lt) refl)
    (λ ne. let no : (m.index == k) ≡ false = ne_eqb m.index k ne in rw no refl) (cases_eq m.index k)

register_after : (word : ℕ → ℕ) (x : List ℕ) (j : ℕ) (rd : Option (ℕ × ℕ)) → length x ≡ 32 → IfSome rd (λ w. w.0 < 32) → Same (after_all (held word x) (of_register j rd)) (held word (with_written x rd))
register_after word x j None many low k = refl
register_after word x j (Some w) many low k =
    let l : w.0 < 32 = low in
    ⊎_elim
    (λ e.
    let yes : (REGISTERS + w.0 == k) ≡ true = eq-eqb (REGISTERS + w.0) k e in
    let high : nat_lt k REGISTERS ≡ false = past k (omega arith) in
    let i : k - REGISTERS ≡ w.0 = omega arith in rw (yes, high, i) (sym (get_or-set_same x w.0 w.1 0 (omega arith))))
    (λ ne.
    let no : (REGISTERS + w.0 == k) ≡ false = ne_eqb (REGISTERS + w.0) k ne in
    ⊎_elim (λ lt. rw (no, below k lt) refl) (λ le. rw (no, past k le) (sym (get_or-set_other x w.0 (k - REGISTERS) w.1 0 (λ i. ne (omega arith))))) (cases_lt k REGISTERS)) (cases_eq (REGISTERS + w.0) k)

memory_reads : (word : ℕ → ℕ) (x : List ℕ) (stores : Bool) (j : ℕ) (mem : Option MemAct) → IfSome mem IsAct → IfSome mem (λ m. m.old ≡ word m.index) → Reads (held word x) (of_memory stores j mem)
memory_reads word x stores j None h old = tt
memory_reads word x false j (Some m) h old = let low = h.index in ((λ e. old ∙ sym (held_word word x m.index (omega arith))), tt)
memory_reads word x true j (Some m) h old = let low = h.index in ((λ e. old ∙ sym (held_word word x m.index (omega arith))), ((λ (e : true ≡ false). absurd (true≢false e)), tt))

register_reads : (f : ℕ → ℕ) (j : ℕ) (rd : Option (ℕ × ℕ)) → Reads f (of_register j rd)
register_reads f j None = tt
register_reads f j (Some w) = ((λ (e : true ≡ false). absurd (true≢false e)), tt)

-- what a step's record says of the state before it
pub record IsOf (r : StepRecord) (s : State) : Type 0 where
  pub one : r.a ≡ slice_index s.x r.rs1
  pub two : r.s ≡ slice_index s.x r.rs2
  pub old : IfSome r.mem (λ m. m.old ≡ s.word m.index)
  pub acts : IfSome r.mem IsAct
  pub rd : IfSome r.rd (λ w. w.0 < 32)
  pub registers : length s.x ≡ 32

step_reads : (r : StepRecord) (s : State) → IsOf r s → Reads (held_in s) (of_step r)
step_reads r s is = (
  (λ e. is.one ∙ sym (held_register s.word s.x r.rs1)),
  (
    (λ e. is.two ∙ sym (held_register s.word s.x r.rs2)),
    reads_append (held_in s) (of_memory (is_store r.instr) r.step r.mem) (of_register r.step r.rd) (memory_reads s.word s.x (is_store r.instr) r.step r.mem is.acts is.old) (register_reads (after_all (held_in s) (of_memory (is_store r.instr) r.step r.mem)) r.step r.rd),
  ),
)

step_after : (r : StepRecord) (s : State) → IsOf r s → Same (after_all (held_in s) (of_step r)) (held_in (after r s))
step_after r s is k =
    after_append (held_in s) (of_memory (is_store r.instr) r.step r.mem) (of_register r.step r.rd) k
    ∙ same_after (after_all (held_in s) (of_memory (is_store r.instr) r.step r.mem)) (held (with_stored s.word (is_store r.instr) r.mem) s.x) (of_register r.step r.rd) (memory_after s.word s.x (is_store r.instr) r.step r.mem is.acts) k
    ∙ register_after (with_stored s.word (is_store r.instr) r.mem) s.x r.step r.rd is.registers is.rd k

-- the run's first n steps
pub record AreSteps (image : Img) (n : ℕ) : Type 0 where
  pub each : (j : ℕ) → j < n → IsOf (record_at image j) (state_at image j)
  pub on : (j : ℕ) → j < n → state_at image (j + 1) ≡ after (record_at image j) (state_at image j)

pub steps_read : (image : Img) (n : ℕ) → AreSteps image n → (m first : ℕ) → first + m ≤ n → (f : ℕ → ℕ) → Same f (held_in (state_at image first))
    → Reads f (of_steps (records_between image first m)) × Same (after_all f (of_steps (records_between image first m))) (held_in (state_at image (first + m)))
steps_read image n are zero first le f same = let e : first + 0 ≡ first = omega arith in (tt, λ k. same k ∙ ap (λ j. held_in (state_at image j) k) (sym e))
steps_read image n are (suc m) first le f same =
    let is : IsOf (record_at image first) (state_at image first) = are.each first (omega arith) in
    let more : first + 1 + m ≡ first + suc m = omega arith in
    let onward : Same (after_all f (of_step (record_at image first))) (held_in (state_at image (first + 1))) =
    λ k. same_after f (held_in (state_at image first)) (of_step (record_at image first)) same k ∙ step_after (record_at image first) (state_at image first) is k ∙ ap (λ t. held_in t k) (sym (are.on first (omega arith))) in
    let rest = steps_read image n are m (first + 1) (omega arith) (after_all f (of_step (record_at image first))) onward in (
      reads_append f (of_step (record_at image first)) (of_steps (records_between image (first + 1) m)) (same_reads (held_in (state_at image first)) f (of_step (record_at image first)) (λ k. sym (same k)) (step_reads (record_at image first) (state_at image first) is)) rest.0,
      λ k. after_append f (of_step (record_at image first)) (of_steps (records_between image (first + 1) m)) k ∙ rest.1 k ∙ ap (λ j. held_in (state_at image j) k) more,
    )

-- ---- the reads after the run
window_byte : (word : ℕ → ℕ) (n a k i : ℕ) → k < n → i < 8 → slice_index (flat_map (λ j. to_le_bytes w64 (word j)) (range_with_len a n)) (8 * k + i) ≡ slice_index (to_le_bytes w64 (word (a + k))) i
window_byte word zero a k i lt small = absurd (omega arith)
window_byte word (suc n) a zero i lt small =
    let e : a + 0 ≡ a = omega arith in
    let at : 8 * 0 + i ≡ i = omega arith in
    ap (slice_index (flat_map (λ j. to_le_bytes w64 (word j)) (range_with_len a (suc n)))) at ∙ get_or_append_left (to_le_bytes w64 (word a)) (flat_map (λ j. to_le_bytes w64 (word j)) (range_with_len (a + 1) n)) 0 i small
    ∙ ap (λ j. slice_index (to_le_bytes w64 (word j)) i) (sym e)
window_byte word (suc n) a (suc k) i lt small =
    let e : a + suc k ≡ a + 1 + k = omega arith in
    let at : 8 * suc k + i ≡ 8 + (8 * k + i) = omega arith in
    ap (slice_index (flat_map (λ j. to_le_bytes w64 (word j)) (range_with_len a (suc n)))) at ∙ get_or-append-add (to_le_bytes w64 (word a)) (flat_map (λ j. to_le_bytes w64 (word j)) (range_with_len (a + 1) n)) (8 * k + i) 0
    ∙ window_byte word n (a + 1) k i (omega arith) small ∙ ap (λ j. slice_index (to_le_bytes w64 (word j)) i) (sym e)

pub output_is : (public : Public) (s : State) (k : ℕ) → public ≡ public_of s → k < 32 → s.word (OUTPUT_INDEX + k) < 2 ^ 64 → output_word public k ≡ s.word (OUTPUT_INDEX + k)
unfolding output_word window
output_is public s k told low small =
    let byte : (i : ℕ) → i < 8 → slice_index public.output (8 * k + i) ≡ slice_index (to_le_bytes w64 (s.word (OUTPUT_INDEX + k))) i =
    λ i lt. ap (λ (p : Public). slice_index p.output (8 * k + i)) told ∙ window_byte s.word 32 OUTPUT_INDEX k i low lt in
    let first : slice_index public.output (8 * k) ≡ slice_index (to_le_bytes w64 (s.word (OUTPUT_INDEX + k))) 0 = let e : 8 * k ≡ 8 * k + 0 = omega arith in ap (slice_index public.output) e ∙ byte 0 (omega arith) in
    rw (first, byte 1 (omega arith), byte 2 (omega arith), byte 3 (omega arith), byte 4 (omega arith), byte 5 (omega arith), byte 6 (omega arith), byte 7 (omega arith)) (from_le_bytes-to_le_bytes_8 (s.word (OUTPUT_INDEX + k)) small)

outputs_read : (public : Public) (f : ℕ → ℕ) (n a : ℕ) → ((k : ℕ) → a ≤ k → k < a + n → output_word public k ≡ f (OUTPUT_INDEX + k)) → Reads f (map (λ k. reads (OUTPUT_INDEX + k) END (output_word public k)) (range_with_len a n))
outputs_read public f zero a h = tt
outputs_read public f (suc n) a h = ((λ e. h a (omega arith) (omega arith)), outputs_read public f n (a + 1) (λ k le lt. h k (omega arith) (omega arith)))

pub last_read : (public : Public) (s : State) (f : ℕ → ℕ) → public ≡ public_of s → IsState s → Same f (held_in s) → Reads f (last_reads public)
unfolding output_reads
last_read public s f told is same = (
  (λ e. ap (λ (p : Public). p.exit) told ∙ sym (held_register s.word s.x EXIT_REGISTER) ∙ sym (same (register EXIT_REGISTER))),
  outputs_read public f OUTPUT_WORDS 0 (λ k le lt. output_is public s k told (omega arith) (is.words (OUTPUT_INDEX + k)) ∙ sym (held_word s.word s.x (OUTPUT_INDEX + k) (omega arith)) ∙ sym (same (OUTPUT_INDEX + k))),
)
