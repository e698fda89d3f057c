-- All accesses of a run to memory and registers, in the order in which they are made (docs/WITNESS.md, "Accesses").
use Rattle.std.specs.Prelude.{ℕ, ◌+◌, ◌*◌, Bool, true, false, List, [], ◌∷◌, ◌++◌, map, slice_index, Option, Some, None}
use Rattle.std.specs.List.{flat_map, range_with_len}
use Rattle.std.specs.Int.{from_le_bytes, w64}
use Rattle.rv_model.specs.Cpu.{is_store}
use Rattle.rv_model.specs.Image.{Img}
use Rattle.rv_model.specs.declared.answer.Public.{Public}
use Rattle.rv_model.specs.declared.machine.TheConstants.{OUTPUT_INDEX, OUTPUT_WORDS, EXIT_REGISTER}
use Rattle.min_trace.specs.Record.{records_between}
use Rattle.min_trace.specs.declared.record.MemAct.{MemAct}
use Rattle.min_trace.specs.declared.record.StepRecord.{StepRecord}
use Rattle.step_rows.specs.declared.doubleword.Doubleword.{Doubleword}
use Rattle.step_rows.specs.Initial.{initial_doublewords}
use Rattle.mem_rows.specs.declared.access.Access.{Access}
use Rattle.mem_rows.specs.declared.access.TheConstants.{REGISTERS, SLOTS, READS_RS1, READS_RS2, READS_MEMORY, WRITES_MEMORY, WRITES_RD, END}

-- the key of register r; a doubleword's key is its number
abbrev pub register : ℕ → ℕ
register r = REGISTERS + r

-- the time of a slot of a step
abbrev pub time : ℕ → ℕ → ℕ
time step slot = SLOTS * step + slot

abbrev pub reads : ℕ → ℕ → ℕ → Access
reads k at v = record { time = at; value = v; key = k; write = false }

abbrev pub writes : ℕ → ℕ → ℕ → Access
writes k at v = record { time = at; value = v; key = k; write = true }

-- a store writes memory
abbrev pub stored : Bool → ℕ → MemAct → List Access
stored true step m = writes m.index (time step WRITES_MEMORY) m.result ∷ []
stored false step m = []

-- a load and a store read it
abbrev pub of_memory : Bool → ℕ → Option MemAct → List Access
of_memory stores step None = []
of_memory stores step (Some m) = reads m.index (time step READS_MEMORY) m.old ∷ stored stores step m

-- a register other than x0 is written
abbrev pub of_register : ℕ → Option (ℕ × ℕ) → List Access
of_register step None = []
of_register step (Some w) = writes (register w.0) (time step WRITES_RD) w.1 ∷ []

-- the accesses of a step, by slot
abbrev pub of_step : StepRecord → List Access
of_step r = reads (register r.rs1) (time r.step READS_RS1) r.a ∷ reads (register r.rs2) (time r.step READS_RS2) r.s ∷ of_memory (is_store r.instr) r.step r.mem ++ of_register r.step r.rd

abbrev pub of_steps : List StepRecord → List Access
of_steps rs = flat_map of_step rs

-- before the run, at time 0, each doubleword that isn't 0 is written
abbrev pub first_write : Doubleword → Access
first_write d = writes d.number 0 d.value

abbrev pub first_writes : Img → List Access
first_writes image = map first_write (initial_doublewords image)

-- doubleword k of the output window
unfoldable pub output_word : Public → ℕ → ℕ
output_word public k = from_le_bytes w64 (slice_index public.output (8 * k) ∷ slice_index public.output (8 * k + 1) ∷ slice_index public.output (8 * k + 2) ∷ slice_index public.output (8 * k + 3)
    ∷ slice_index public.output (8 * k + 4) ∷ slice_index public.output (8 * k + 5) ∷ slice_index public.output (8 * k + 6) ∷ slice_index public.output (8 * k + 7) ∷ [])

-- after the run x10 is read, and the output window in order
unfoldable pub output_reads : Public → ℕ → List Access
output_reads public n = map (λ k. reads (OUTPUT_INDEX + k) END (output_word public k)) (range_with_len 0 n)

abbrev pub last_reads : Public → List Access
last_reads public = reads (register EXIT_REGISTER) END public.exit ∷ output_reads public OUTPUT_WORDS

-- the accesses of the image's run up to step n, and those of a run of n steps that publishes this
abbrev pub accesses_to : Img → ℕ → List Access
accesses_to image n = first_writes image ++ of_steps (records_between image 0 n)

abbrev pub accesses : Img → ℕ → Public → List Access
accesses image n public = accesses_to image n ++ last_reads public
