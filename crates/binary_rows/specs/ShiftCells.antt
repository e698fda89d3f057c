-- What a row of Shift is made of, and its cells.
use Rattle.std.specs.Prelude.{ℕ, zero, suc, ◌+◌, ◌-◌, ◌*◌, ◌/◌, ◌%◌, ◌^◌, nat_lt, cond}
use Rattle.rv_word.specs.declared.instr.OpNo.{OpNo}
use Rattle.rv_word.specs.Numbers.{op_number}
use Rattle.min_trace.specs.Laws.{first_of}
use Rattle.min_trace.specs.declared.record.StepRecord.{StepRecord}
use Rattle.step_rows.specs.ShiftRow.{right, signed, wide, amount, at_place, times_of, top_digit, high_of, low_of}
use Rattle.binary_rows.specs.declared.shift.Moved.{Moved}
use Rattle.binary_rows.specs.declared.shift.ShiftCell.{ShiftCell}
use Rattle.binary_rows.specs.declared.shift.ShiftCell.TheVariants as cells

-- a shift of a by b that gives v, by the shift's number from 0 for SLL
abbrev pub numbered : ℕ → ℕ → ℕ → ℕ → Moved
numbered n a b v = record {
  number = n;
  a = a;
  b = b;
  v = v;
  amount = amount n (b % 2 ^ 6);
  times = times_of n b;
  top = top_digit n a;
}

abbrev pub moved : OpNo → ℕ → ℕ → ℕ → Moved
moved o a b v = numbered (op_number o - 11) a b v

abbrev pub moved_by : StepRecord → Moved
moved_by r = moved r.op (first_of r) r.b r.c

-- a digit of 16 bits
abbrev pub place : ℕ → ℕ → ℕ
place zero v = v % 2 ^ 16
place (suc i) v = v / 2 ^ (16 * suc i) % 2 ^ 16

-- a digit as it is shifted: on 32 bits the two upper ones are the sign's
abbrev pub shifted : ℕ → Moved → ℕ
shifted zero x = place 0 x.a
shifted (suc zero) x = place 1 x.a
shifted (suc (suc i)) x = cond (nat_lt x.number 3) (place (suc (suc i)) x.a) (signed x.number * (x.top / 2 ^ 15) * 65535)

-- a cell of the shift's row
unfoldable pub cell_of : ShiftCell → Moved → ℕ
cell_of cells.Selector x = 1
cell_of cells.Operation x = 11 + x.number
cell_of (cells.FirstDigit i) x = place i x.a
cell_of cells.SecondHigh x = x.b / 2 ^ 32
cell_of cells.Amount x = x.b % 2 ^ 6
cell_of cells.QuotientLow x = x.b / 2 ^ 6 % 2 ^ 16
cell_of cells.QuotientHigh x = x.b / 2 ^ 22 % 2 ^ 10
cell_of cells.Right x = right x.number
cell_of cells.Signed x = signed x.number
cell_of cells.Wide x = wide x.number
cell_of (cells.AtPlace j) x = at_place (x.amount / 16) j
cell_of cells.Times x = x.times
cell_of cells.Sign x = x.top / 2 ^ 15
cell_of cells.BelowSign x = x.top % 2 ^ 15
cell_of (cells.HighPart i) x = high_of (shifted i x) x.times
cell_of (cells.LowPart i) x = low_of (shifted i x) x.times
cell_of cells.WordSign x = x.v / 2 ^ 31 % 2
cell_of cells.WordRest x = x.v / 2 ^ 16 % 2 ^ 15
