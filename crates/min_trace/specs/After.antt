-- The state to which a step leads, by its record.
use Rattle.std.specs.Prelude.{ℕ, Bool, true, false, List, slice_set, Option, Some, None, unwrap_or}
use Rattle.rv_model.specs.State.{State, with_word}
use Rattle.rv_model.specs.Cpu.{is_store}
use Rattle.min_trace.specs.declared.record.MemAct.{MemAct}
use Rattle.min_trace.specs.declared.record.StepRecord.{StepRecord}

-- the registers with what was written
abbrev pub with_written : List ℕ → Option (ℕ × ℕ) → List ℕ
with_written x None = x
with_written x (Some w) = slice_set x w.0 w.1

-- the memory with what was stored, if the step stores
abbrev pub with_stored : (ℕ → ℕ) → Bool → Option MemAct → ℕ → ℕ
with_stored word stores None = word
with_stored word true (Some m) = with_word word m.index m.result
with_stored word false (Some m) = word

-- the state after a step, which a halt leaves as it is
abbrev pub after : StepRecord → State → State
after r s = record { pc = unwrap_or r.next s.pc; x = with_written s.x r.rd; word = with_stored s.word (is_store r.instr) r.mem }
