-- What each step of a run did, by the step's number.
use Rattle.std.specs.Prelude.{◌==◌, ℕ, ◌+◌, ◌/◌, ◌%◌, List, [], ◌∷◌, map, Option, Some, None, unwrap_or, slice_index, if◌then◌else◌}
use Rattle.std.specs.List.{flat_map, range_with_len}
use Rattle.rv_word.specs.declared.instr.Instr.{Instr}
use Rattle.rv_word.specs.declared.instr.Instr.TheVariants.{Fence}
use Rattle.rv_model.specs.Image.{Img, fetch}
use Rattle.rv_model.specs.Code.{instr_of}
use Rattle.rv_model.specs.Op.{value_of, flag_of}
use Rattle.rv_model.specs.Align.{aligned}
use Rattle.rv_model.specs.State.{Answer, Next, Halt, Fault, operand}
use Rattle.rv_model.specs.Cpu.{cpu_of, access}
use Rattle.rv_model.specs.Run.{state_at, step_at}
use Rattle.rv_model.specs.declared.access.Access.{Access}
use Rattle.rv_model.specs.declared.cpu.Cpu.{Cpu}
use Rattle.min_trace.specs.Operands.{rs1_of, rs2_of, rd_of, op_of, uw_of, constant_of}
use Rattle.min_trace.specs.declared.record.MemAct.{MemAct}
use Rattle.min_trace.specs.declared.record.StepRecord.{StepRecord}

-- the instruction of step j; a step without one faults, and then FENCE stands for it
unfoldable pub instr_at : Img → ℕ → Instr
instr_at image j = unwrap_or (instr_of (fetch image (state_at image j).pc)) Fence

-- pc and registers before step j
abbrev pub cpu_at : Img → ℕ → Cpu
cpu_at image j = cpu_of (state_at image j)

-- what an access does to the doubleword that it touches
abbrev pub act : Option Access → (ℕ → ℕ) → Option MemAct
act None word = None
act (Some a) word = Some (record {
  index = a.address / 8;
  off = a.address % 8;
  kind = a.kind;
  old = word (a.address / 8);
  result = aligned a.kind (a.address % 8) (word (a.address / 8)) a.value;
})

abbrev pub old_of : Option MemAct → List ℕ
old_of None = []
old_of (Some m) = m.old ∷ []

-- a register other than x0, with its value
abbrev pub written_to : ℕ → Cpu → Option (ℕ × ℕ)
written_to rd after = if rd == 0 then None else Some (rd, slice_index after.x rd)

-- the pc to which an answer leads
abbrev pub onward : Answer → Option ℕ
onward (Next t) = Some t.pc
onward Halt = None
onward (Fault f) = None

-- the operation's first operand, and its second
abbrev pub first : Instr → Cpu → ℕ
first i before = operand (uw_of i) (slice_index before.x (rs1_of i))

abbrev pub second : Instr → Cpu → ℕ
second i before = unwrap_or (constant_of i before.pc) (slice_index before.x (rs2_of i))

-- the record of an instruction, by pc and registers before and after it, what it did to memory and where it led
abbrev pub record_of : ℕ → Instr → Cpu → Option MemAct → Cpu → Option ℕ → StepRecord
record_of number i before touched after target = record {
  step = number;
  pc = before.pc;
  instr = i;
  rs1 = rs1_of i;
  rs2 = rs2_of i;
  a = slice_index before.x (rs1_of i);
  s = slice_index before.x (rs2_of i);
  op = op_of i;
  b = second i before;
  c = value_of (op_of i) (first i before) (second i before);
  flag = flag_of (op_of i) (first i before) (second i before);
  mem = touched;
  rd = written_to (rd_of i) after;
  next = target;
}

-- what step j did to memory
abbrev pub mem_at : Img → ℕ → Option MemAct
mem_at image j = act (access (instr_at image j) (state_at image j)) (state_at image j).word

-- step j of the run
unfoldable pub record_at : Img → ℕ → StepRecord
record_at image j = record_of j (instr_at image j) (cpu_at image j) (mem_at image j) (cpu_at image (j + 1)) (onward (step_at image j))

-- the old doubleword of step j's load or store, none where it makes no access
unfoldable pub old_at : Img → ℕ → List ℕ
old_at image j = old_of (mem_at image j)

-- n steps of the run from the first on
abbrev pub records_between : Img → ℕ → ℕ → List StepRecord
records_between image first n = map (record_at image) (range_with_len first n)

abbrev pub olds_between : Img → ℕ → ℕ → List ℕ
olds_between image first n = flat_map (old_at image) (range_with_len first n)
