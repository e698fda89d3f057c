-- What a row of Align is made of, and its cells.
use Rattle.std.specs.Prelude.{ℕ, ◌/◌, ◌%◌, ◌==◌, Option, None, Some}
use Rattle.std.specs.Int.{byte_at}
use Rattle.rv_word.specs.declared.instr.Kind.TheVariants.{Lb}
use Rattle.rv_word.specs.Numbers.{kind_number}
use Rattle.min_trace.specs.declared.record.MemAct.{MemAct}
use Rattle.min_trace.specs.declared.record.StepRecord.{StepRecord}
use Rattle.step_rows.specs.Words.{one_if}
use Rattle.step_rows.specs.AlignRow.{highest}
use Rattle.align_rows.specs.declared.cells.Accessed.{Accessed}
use Rattle.align_rows.specs.declared.cells.AlignCell.{AlignCell}
use Rattle.align_rows.specs.declared.cells.AlignCell.TheVariants as cells

-- the access, with rs2's value; a step without one has no row
abbrev pub accessed_by : Option MemAct → ℕ → Accessed
accessed_by None value = record { kind = Lb; off = 0; old = 0; value = value }
accessed_by (Some m) value = record { kind = m.kind; off = m.off; old = m.old; value = value }

abbrev pub accessed : StepRecord → Accessed
accessed r = accessed_by r.mem r.s

-- a cell of the access's row
unfoldable pub cell_of : AlignCell → Accessed → ℕ
cell_of cells.Selector x = 1
cell_of (cells.IsKind k) x = one_if (kind_number x.kind == k)
cell_of (cells.IsOff k) x = one_if (x.off == k)
cell_of (cells.OldByte i) x = byte_at i x.old
cell_of (cells.ValueByte i) x = byte_at i x.value
cell_of cells.Sign x = highest x.kind x.off x.old / 128
cell_of cells.BelowSign x = highest x.kind x.off x.old % 128
