-- The row that a step has in Main (docs/WITNESS.md, "Values").
use Rattle.std.specs.Prelude.{ℕ, ◌/◌, ◌%◌, ◌^◌, ◌++◌, List, [], ◌∷◌, Option, None, Some}
use Rattle.rv_word.specs.declared.instr.Instr.{Instr}
use Rattle.rv_word.specs.declared.instr.Instr.TheVariants.{Jalr}
use Rattle.min_trace.specs.declared.record.MemAct.{MemAct}
use Rattle.min_trace.specs.declared.record.StepRecord.{StepRecord}
use Rattle.step_rows.specs.Words.{low, high, one_if}
use Rattle.step_rows.specs.Rom.{rom_row, cells}

-- the bit that JALR clears in its target
abbrev pub cleared_bit : Instr → ℕ → ℕ
cleared_bit (Jalr rd rs1 imm) c = c % 2
cleared_bit _ c = 0

-- a value of the access, or 0 where there is none
abbrev pub of_access : (MemAct → ℕ) → Option MemAct → ℕ
of_access f None = 0
of_access f (Some m) = f m

-- from `sel` to `mhi`: Rom's row, the limbs of rs1's and rs2's values and of the operation's, and the access
abbrev pub main_row : StepRecord → List ℕ
main_row r =
    1 ∷ cells (rom_row r.pc r.instr) ++ (low r.a ∷ high r.a ∷ low r.s ∷ high r.s ∷ low r.c ∷ high r.c ∷ one_if r.flag ∷ cleared_bit r.instr r.c
    ∷ of_access (λ m. m.index % 2 ^ 16) r.mem ∷ of_access (λ m. m.index / 2 ^ 16) r.mem ∷ of_access (λ m. m.off) r.mem
    ∷ of_access (λ m. low m.old) r.mem ∷ of_access (λ m. high m.old) r.mem ∷ of_access (λ m. low m.result) r.mem ∷ of_access (λ m. high m.result) r.mem ∷ [])
