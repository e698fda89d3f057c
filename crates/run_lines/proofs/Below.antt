-- The laws of the crates below, as their functions' clauses give them.
use Rattle.std.specs.Prelude.{◌≡◌, ℕ, ◌^◌, ◌<◌, IfSome, slice_index}
use Rattle.rv_model.specs.Image.{Img, IsLoadable}
use Rattle.rv_model.specs.Run.{state_at, step_at, RunsTo}
use Rattle.rv_model.specs.declared.answer.Public.{Public}
use Rattle.min_trace.specs.Bounds.{IsRecord}
use Rattle.min_trace.specs.Chunk.{IsStep}
use Rattle.min_trace.specs.Laws.{Accesses, Reads, written_by}
use Rattle.min_trace.specs.Record.{record_at}
use Rattle.mem_rows.specs.Accesses.{accesses}
use Rattle.mem_rows.specs.Order.{in_order}
use Rattle.mem_rows.specs.Sequence.{IsSequenceOf}
use Rattle.air_main.specs.Table.{MainFilled, RunSends}
use Rattle.air_mem.specs.Laws.{BusFilled, MemFilled, OutHolds}
use Rattle.air_ops.specs.Binary
use Rattle.air_ops.specs.Shift
use Rattle.air_arith.specs.Laws.{ArithComplete, ArithFilled}
use Rattle.air_align.specs.Laws.{AlignComplete, AlignFilled}
use Rattle.main_run.specs.Stands.{StandsLaw}

pub record StepLaws : Type 0 where
  pub reads : (image : Img) (j : ℕ) → Reads (record_at image j) (state_at image j)
  pub accesses : (image : Img) (j : ℕ) → IsStep (step_at image j) → Accesses (record_at image j).instr (record_at image j) (state_at image j).word
  pub writes : (image : Img) (j : ℕ) → IsStep (step_at image j) → (record_at image j).rd ≡ written_by (record_at image j).instr (record_at image j)
  pub rs1 : (image : Img) (j : ℕ) → (record_at image j).rs1 < 32
  pub rs2 : (image : Img) (j : ℕ) → (record_at image j).rs2 < 32
  pub rd : (image : Img) (j : ℕ) → IfSome (record_at image j).rd (λ w. w.0 < 32)
  pub zero : (image : Img) (j : ℕ) → slice_index (state_at image j).x 0 ≡ 0
  pub bounds : (image : Img) → IsLoadable image → (j : ℕ) → IsStep (step_at image j) → IsRecord (record_at image j)

pub record MainLaws : Type 0 where
  pub filled : MainFilled
  pub sends : RunSends

pub record AirLaws : Type 0 where
  pub binary : Binary.IsComplete
  pub binary_filled : Binary.HoldsFilled
  pub shift : Shift.IsComplete
  pub shift_filled : Shift.HoldsFilled
  pub arith : ArithComplete
  pub arith_filled : ArithFilled
  pub align : AlignComplete
  pub align_filled : AlignFilled

pub record MemLaws : Type 0 where
  pub filled : MemFilled
  pub bus : BusFilled
  pub out : OutHolds
  pub sequence : (image : Img) (n : ℕ) (public : Public) → IsLoadable image → n < 2 ^ 32 → RunsTo image n public → IsSequenceOf (accesses image n public) (in_order (accesses image n public))

pub record Laws : Type 0 where
  pub stands : StandsLaw
  pub steps : StepLaws
  pub main : MainLaws
  pub airs : AirLaws
  pub mem : MemLaws
