-- Accesses whose times rise.
use Rattle.std.proofs.Common.{◌≡◌, ◌+◌, ◌*◌, ◌^◌, ◌<◌, ◌≤◌, ℕ, zero, suc, Bool, true, false, List, [], ◌∷◌, ◌++◌, Option, Some, None, map, refl, ap, sym, ◌∙◌, subst, arith}
use Rattle.std.specs.Prelude.{All, AllPairs, IfSome}
use Rattle.std.specs.List.{range_with_len}
use Rattle.std.proofs.lemmas.List.Elements.{All-nil, All-cons, All-append, All-weaker}
use Rattle.std.proofs.lemmas.List.Kept.{AllPairs-cons}
use Rattle.rv_model.specs.Image.{Img}
use Rattle.rv_model.specs.Cpu.{is_store}
use Rattle.min_trace.specs.Bounds.{IsAct, IsRecord}
use Rattle.min_trace.specs.Record.{record_at, records_between}
use Rattle.min_trace.specs.declared.record.MemAct.{MemAct}
use Rattle.min_trace.specs.declared.record.StepRecord.{StepRecord}
use Rattle.mem_rows.specs.declared.access.Access.{Access}
use Rattle.mem_rows.specs.declared.access.TheConstants.{REGISTERS, SLOTS, READS_MEMORY, READS_RS1, READS_RS2, WRITES_MEMORY, WRITES_RD}
use Rattle.mem_rows.specs.Accesses.{reads, writes, register, time, stored, of_memory, of_register, of_step, of_steps}
use Rattle.mem_rows.proofs.Pairs.{Later}

-- each time is that of the one before or a later one, from a time up to another
abbrev pub Rising : ℕ → List Access → ℕ → Type 0
Rising low [] high = low ≤ high
Rising low (a ∷ xs) high = (low ≤ a.time) × Rising (a.time + 1) xs high

rising_from : (low below : ℕ) (xs : List Access) (high : ℕ) → below ≤ low → Rising low xs high → Rising below xs high
rising_from low below [] high le h = omega arith
rising_from low below (a ∷ xs) high le (h, rest) = (omega arith, rest)

rising_to : (low : ℕ) (xs : List Access) (high above : ℕ) → high ≤ above → Rising low xs high → Rising low xs above
rising_to low [] high above le h = omega arith
rising_to low (a ∷ xs) high above le (h, rest) = (h, rising_to (a.time + 1) xs high above le rest)

rising_append : (low : ℕ) (xs : List Access) (mid : ℕ) (ys : List Access) (high : ℕ) → Rising low xs mid → Rising mid ys high → Rising low (xs ++ ys) high
rising_append low [] mid ys high h k = rising_from mid low ys high h k
rising_append low (a ∷ xs) mid ys high (h, rest) k = (h, rising_append (a.time + 1) xs mid ys high rest k)

ends_behind : (low : ℕ) (xs : List Access) (high : ℕ) → Rising low xs high → low ≤ high
ends_behind low [] high h = h
ends_behind low (a ∷ xs) high (h, rest) = let e = ends_behind (a.time + 1) xs high rest in omega arith

abbrev Between : ℕ → ℕ → Access → Type 0
Between low high a = (low ≤ a.time) × (a.time < high)

pub times_between : (low : ℕ) (xs : List Access) (high : ℕ) → Rising low xs high → All (λ (a : Access). (low ≤ a.time) × (a.time < high)) xs
times_between low [] high h = All-nil (Between low high)
times_between low (a ∷ xs) high (h, rest) =
    let e = ends_behind (a.time + 1) xs high rest in
    All-cons (Between low high) a xs (h, (omega arith)) (All-weaker (Between (a.time + 1) high) (Between low high) (λ x (l, u). ((omega arith), u)) xs (times_between (a.time + 1) xs high rest))

pub rising_later : (low : ℕ) (xs : List Access) (high : ℕ) → Rising low xs high → AllPairs Later xs
rising_later low [] high h = λ i j d lt within. absurd (omega arith)
rising_later low (a ∷ xs) high (h, rest) =
    AllPairs-cons Later a xs (All-weaker (Between (a.time + 1) high) (Later a) (λ x (l, u) same. omega arith) xs (times_between (a.time + 1) xs high rest)) (rising_later (a.time + 1) xs high rest)

memory_rises : (stores : Bool) (j : ℕ) (mem : Option MemAct) → Rising (SLOTS * j + 3) (of_memory stores j mem) (SLOTS * j + 5)
memory_rises stores j None = omega arith
memory_rises false j (Some m) = ((omega arith), (omega arith))
memory_rises true j (Some m) = ((omega arith), ((omega arith), (omega arith)))

register_rises : (j : ℕ) (rd : Option (ℕ × ℕ)) → Rising (SLOTS * j + 5) (of_register j rd) (SLOTS * j + 8)
register_rises j None = omega arith
register_rises j (Some w) = ((omega arith), (omega arith))

step_rises : (r : StepRecord) → Rising (SLOTS * r.step + 1) (of_step r) (SLOTS * r.step + 8)
step_rises r = (
  (omega arith),
  (
    (omega arith),
    rising_append (SLOTS * r.step + 2 + 1) (of_memory (is_store r.instr) r.step r.mem) (SLOTS * r.step + 5) (of_register r.step r.rd) (SLOTS * r.step + 8)
        (rising_from (SLOTS * r.step + 3) (SLOTS * r.step + 2 + 1) (of_memory (is_store r.instr) r.step r.mem) (SLOTS * r.step + 5) (omega arith) (memory_rises (is_store r.instr) r.step r.mem)) (register_rises r.step r.rd),
  ),
)

number : (image : Img) (j : ℕ) → (record_at image j).step ≡ j
unfolding record_at
number image j = refl

pub steps_rise : (image : Img) (n first : ℕ) → Rising (SLOTS * first + 1) (of_steps (records_between image first n)) (SLOTS * (first + n) + 1)
steps_rise image zero first = omega arith
steps_rise image (suc n) first =
    let e : first + 1 + n ≡ first + suc n = omega arith in
    let one : Rising (SLOTS * first + 1) (of_step (record_at image first)) (SLOTS * (first + 1) + 1) =
    rising_to (SLOTS * first + 1) (of_step (record_at image first)) (SLOTS * first + 8) (SLOTS * (first + 1) + 1) (omega arith)
    (subst (λ k. Rising (SLOTS * k + 1) (of_step (record_at image first)) (SLOTS * k + 8)) (number image first) (step_rises (record_at image first))) in
    subst (λ k. Rising (SLOTS * first + 1) (of_steps (records_between image first (suc n))) (SLOTS * k + 1)) e
    (rising_append (SLOTS * first + 1) (of_step (record_at image first)) (SLOTS * (first + 1) + 1) (of_steps (records_between image (first + 1) n)) (SLOTS * (first + 1 + n) + 1) one (steps_rise image n (first + 1)))

-- ---- keys and values of steps
abbrev pub Fits : Access → Type 0
Fits a = (a.key < 2 ^ 30) × (a.value < 2 ^ 64)

memory_fits : (stores : Bool) (j : ℕ) (mem : Option MemAct) → IfSome mem IsAct → All Fits (of_memory stores j mem)
memory_fits stores j None h = All-nil Fits
memory_fits false j (Some m) h = let i = h.index in All-cons Fits (reads m.index (time j READS_MEMORY) m.old) [] ((omega arith), h.old) (All-nil Fits)
memory_fits true j (Some m) h =
    let i = h.index in
    All-cons Fits (reads m.index (time j READS_MEMORY) m.old) (writes m.index (time j WRITES_MEMORY) m.result ∷ []) ((omega arith), h.old) (All-cons Fits (writes m.index (time j WRITES_MEMORY) m.result) [] ((omega arith), h.result) (All-nil Fits))

register_fits : (j : ℕ) (rd : Option (ℕ × ℕ)) → IfSome rd (λ w. w.0 < 32) → IfSome rd (λ w. w.1 < 2 ^ 64) → All Fits (of_register j rd)
register_fits j None low h = All-nil Fits
register_fits j (Some w) low h = let l = low in All-cons Fits (writes (register w.0) (time j WRITES_RD) w.1) [] ((omega arith), h) (All-nil Fits)

pub step_fits : (r : StepRecord) → IsRecord r → r.rs1 < 32 → r.rs2 < 32 → IfSome r.rd (λ w. w.0 < 32) → All Fits (of_step r)
step_fits r is one two low =
    let rest = of_memory (is_store r.instr) r.step r.mem ++ of_register r.step r.rd in
    let second = reads (register r.rs2) (time r.step READS_RS2) r.s in
    All-cons Fits (reads (register r.rs1) (time r.step READS_RS1) r.a) (second ∷ rest) ((omega arith), is.a) (All-cons Fits second rest ((omega arith), is.s)
    (All-append Fits (of_memory (is_store r.instr) r.step r.mem) (of_register r.step r.rd) (memory_fits (is_store r.instr) r.step r.mem is.mem) (register_fits r.step r.rd low is.rd)))
