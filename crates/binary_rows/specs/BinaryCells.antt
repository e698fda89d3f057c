-- What a row of Binary is made of, and its cells.
use Rattle.std.specs.Prelude.{ℕ, ◌/◌, ◌%◌, ◌^◌, ◌==◌, bit_and}
use Rattle.std.specs.Int.{byte_at}
use Rattle.rv_word.specs.declared.instr.OpNo.{OpNo}
use Rattle.rv_word.specs.Numbers.{op_number}
use Rattle.min_trace.specs.Laws.{first_of}
use Rattle.min_trace.specs.declared.record.StepRecord.{StepRecord}
use Rattle.step_rows.specs.Words.{one_if, digit}
use Rattle.step_rows.specs.BinaryRow.{worked, k0_of, k1_of, j0_of, j1_of, tells, left_over}
use Rattle.binary_rows.specs.declared.binary.Computed.{Computed}
use Rattle.binary_rows.specs.declared.binary.BinaryCell.{BinaryCell}
use Rattle.binary_rows.specs.declared.binary.BinaryCell.TheVariants as cells

-- what an operation on two numbers comes to
abbrev pub computed : OpNo → ℕ → ℕ → Computed
computed o a b = record {
  op = op_number o;
  a = a;
  b = b;
  z = worked o a b;
  k0 = k0_of o a b;
  k1 = k1_of o a b;
  j0 = j0_of o a b;
  j1 = j1_of o a b;
  eq = tells o a b;
  excess = left_over o a b;
}

abbrev pub computed_by : StepRecord → Computed
computed_by r = computed r.op (first_of r) r.b

-- a cell of the operation's row
unfoldable pub cell_of : BinaryCell → Computed → ℕ
cell_of cells.Selector x = 1
cell_of (cells.IsOperation k) x = one_if (x.op == k)
cell_of (cells.FirstByte i) x = byte_at i x.a
cell_of (cells.SecondByte i) x = byte_at i x.b
cell_of (cells.AndByte i) x = bit_and (byte_at i x.a) (byte_at i x.b)
cell_of (cells.SumDigit i) x = digit x.z i
cell_of cells.LowCarry x = x.k0
cell_of cells.HighCarry x = x.k1
cell_of cells.LowScaled x = x.j0
cell_of cells.HighScaled x = x.j1
cell_of cells.FirstSign x = x.a / 2 ^ 63
cell_of cells.FirstRest x = x.a / 2 ^ 56 % 2 ^ 7
cell_of cells.SecondSign x = x.b / 2 ^ 63
cell_of cells.SecondRest x = x.b / 2 ^ 56 % 2 ^ 7
cell_of cells.WordSign x = x.z / 2 ^ 31 % 2
cell_of cells.WordRest x = x.z / 2 ^ 16 % 2 ^ 15
cell_of cells.Equal x = x.eq
cell_of cells.ExcessLow x = x.excess % 2 ^ 16
cell_of cells.ExcessHigh x = x.excess / 2 ^ 16
