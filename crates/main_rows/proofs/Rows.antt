-- The cells of a step are its row.
use Rattle.std.proofs.Common.{◌≡◌, ◌<◌, ◌%◌, ◌^◌, ℕ, true, Option, None, Some, IsSome, map, refl, sym, subst, ap, arith, ◌∷◌}
use Rattle.rv_word.specs.declared.instr.Instr.{Instr}
use Rattle.zk_layout.specs.declared.air.Air.{Air}
use Rattle.zk_layout.specs.declared.air.Air.TheVariants.{Main}
use Rattle.zk_layout.specs.Air.{columns_per}
use Rattle.rv_model.specs.Image.{Img, fetch}
use Rattle.rv_model.specs.Code.{instr_of}
use Rattle.rv_model.specs.Run.{step_at}
use Rattle.min_trace.specs.Chunk.{IsStep}
use Rattle.min_trace.specs.Record.{record_at}
use Rattle.min_trace.specs.declared.record.MemAct.{MemAct}
use Rattle.min_trace.specs.declared.record.StepRecord.{StepRecord}
use Rattle.planner.specs.Rows.{has_row}
use Rattle.run_rows.specs.Gathered.{IsRecordOf}
use Rattle.step_rows.specs.Words.{low, high}
use Rattle.rv_word.specs.declared.instr.Instr.TheVariants.{Lui, Auipc, Jal, Jalr, Branch, Load, Store, OpImm, Op, Fence, Ecall, Ebreak}
use Rattle.step_rows.specs.Rom.{rom_row}
use Rattle.step_rows.specs.MainRow.{main_row}
use Rattle.row_columns.specs.Cells.{AreRowOf}
use Rattle.main_rows.specs.declared.cells.Done.{Done}
use Rattle.main_rows.specs.declared.cells.MainCell.{MainCell}
use Rattle.main_rows.specs.declared.cells.TheConstants.{CELLS}
use Rattle.main_rows.specs.Cells.{cell_of, done}

-- what is told of a run's records and of its image
abbrev pub Here : Img → Type 0
Here image = (j : ℕ) → IsStep (step_at image j) → instr_of (fetch image (record_at image j).pc) ≡ Some (record_at image j).instr

abbrev pub Below : Img → Type 0
Below image = (pc : ℕ) → IsSome (fetch image pc) → pc < 2 ^ 32

fetched : (word : Option ℕ) (i : Instr) → instr_of word ≡ Some i → IsSome word
fetched None i e = cc
fetched (Some w) i e = refl

pc_below : (image : Img) (r : StepRecord) → Here image → Below image → IsRecordOf image r → r.pc < 2 ^ 32
pc_below image r here below is =
    subst (λ (x : StepRecord). x.pc < 2 ^ 32) (sym is.is) (below (record_at image is.number).pc (fetched (fetch image (record_at image is.number).pc) (record_at image is.number).instr (here is.number is.step)))

-- a row's pc is the instruction's
pc_is : (pc : ℕ) (i : Instr) → (rom_row pc i).pc ≡ pc
pc_is pc (Lui rd imm) = refl
pc_is pc (Auipc rd imm) = refl
pc_is pc (Jal rd imm) = refl
pc_is pc (Jalr rd rs1 imm) = refl
pc_is pc (Branch c rs1 rs2 imm) = refl
pc_is pc (Load k rd rs1 imm) = refl
pc_is pc (Store k rs1 rs2 imm) = refl
pc_is pc (OpImm o rd rs1 imm uw) = refl
pc_is pc (Op o rd rs1 rs2 uw) = refl
pc_is pc Fence = refl
pc_is pc Ecall = refl
pc_is pc Ebreak = refl

with_access : (r : StepRecord) (act : Option MemAct) → r.pc % 2 ^ 32 ≡ r.pc → map (λ (c : MainCell). cell_of c (done (record r { mem = act }))) CELLS ≡ main_row (record r { mem = act })
unfolding cell_of low high
with_access r None e = rw (e, pc_is r.pc r.instr) refl
with_access r (Some m) e = rw (e, pc_is r.pc r.instr) refl

of_main : (image : Img) → Here image → Below image → AreRowOf cell_of done CELLS Main image
of_main image here below r is has =
    let small : r.pc < 2 ^ 32 = pc_below image r here below is in
    with_access r r.mem (omega arith)

pub are_rows : (air : Air) (image : Img) → Here image → Below image → air ≡ Main → AreRowOf cell_of done CELLS air image
are_rows air image here below e = subst (λ (a : Air). AreRowOf cell_of done CELLS a image) (sym e) (of_main image here below)

pub wide : (air : Air) → air ≡ Main → 37 ≡ columns_per air
unfolding columns_per
wide air e = rw e refl
