-- What a row of Main is made of, and its cells.
use Rattle.std.specs.Prelude.{ℕ, ◌/◌, ◌%◌, ◌^◌, ◌==◌}
use Rattle.min_trace.specs.declared.record.StepRecord.{StepRecord}
use Rattle.step_rows.specs.Words.{low, high, one_if}
use Rattle.step_rows.specs.Rom.{rom_row}
use Rattle.step_rows.specs.MainRow.{cleared_bit, of_access}
use Rattle.main_rows.specs.declared.cells.Done.{Done}
use Rattle.main_rows.specs.declared.cells.MainCell.{MainCell}
use Rattle.main_rows.specs.declared.cells.MainCell.TheVariants as cells

abbrev pub done : StepRecord → Done
done r = record {
  pc = r.pc % 2 ^ 32;
  rom = rom_row r.pc r.instr;
  a = r.a;
  s = r.s;
  c = r.c;
  flag = r.flag;
  bit = cleared_bit r.instr r.c;
  index = of_access (λ m. m.index) r.mem;
  off = of_access (λ m. m.off) r.mem;
  old = of_access (λ m. m.old) r.mem;
  new = of_access (λ m. m.result) r.mem;
}

-- a cell of the step's row
unfoldable pub cell_of : MainCell → Done → ℕ
cell_of cells.Selector x = 1
cell_of cells.Pc x = x.pc
cell_of cells.Rs1 x = x.rom.rs1
cell_of cells.Rs2 x = x.rom.rs2
cell_of cells.Rd x = x.rom.rd
cell_of cells.Op x = x.rom.op
cell_of cells.Ilo x = x.rom.ilo
cell_of cells.Ihi x = x.rom.ihi
cell_of cells.Klo x = x.rom.klo
cell_of cells.Khi x = x.rom.khi
cell_of cells.Jt x = x.rom.jt
cell_of cells.KindNumber x = x.rom.kind
cell_of cells.Bi x = x.rom.bi
cell_of cells.Wr x = x.rom.wr
cell_of cells.Ld x = x.rom.ld
cell_of cells.St x = x.rom.st
cell_of cells.Jr x = x.rom.jr
cell_of cells.Jp x = x.rom.jp
cell_of cells.Br x = x.rom.br
cell_of cells.Inv x = x.rom.inv
cell_of cells.Halt x = x.rom.halt
cell_of cells.Uw x = x.rom.uw
cell_of cells.FirstLow x = low x.a
cell_of cells.FirstHigh x = high x.a
cell_of cells.SecondLow x = low x.s
cell_of cells.SecondHigh x = high x.s
cell_of cells.ValueLow x = low x.c
cell_of cells.ValueHigh x = high x.c
cell_of cells.Flag x = one_if x.flag
cell_of cells.Bit x = x.bit
cell_of cells.IndexLow x = x.index % 2 ^ 16
cell_of cells.IndexHigh x = x.index / 2 ^ 16
cell_of cells.Off x = x.off
cell_of cells.OldLow x = low x.old
cell_of cells.OldHigh x = high x.old
cell_of cells.NewLow x = low x.new
cell_of cells.NewHigh x = high x.new
