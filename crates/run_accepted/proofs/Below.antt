-- The laws of the crates below, as their functions' clauses give them.
use Rattle.std.specs.Prelude.{◌≡◌, ◌+◌, ◌^◌, ◌<◌, ℕ, Some}
use Rattle.gold.specs.declared.instances.Witness.{Witness}
use Rattle.rv_model.specs.Code.{instr_of}
use Rattle.rv_model.specs.Image.{Img, IsLoadable, fetch}
use Rattle.rv_model.specs.Run.{state_at, step_at, RunsTo}
use Rattle.rv_model.specs.State.{executed}
use Rattle.rv_model.specs.declared.answer.Public.{Public}
use Rattle.zk_layout.specs.Air.{air_number, columns_per, rows_in}
use Rattle.zk_layout.specs.Namespaces.{namespace_number, namespace_of}
use Rattle.zk_layout.specs.declared.air.Air.{Air}
use Rattle.min_trace.specs.Bounds.{IsRecord}
use Rattle.min_trace.specs.Chunk.{IsStep}
use Rattle.min_trace.specs.Record.{instr_at, record_at}
use Rattle.step_rows.specs.Rom.{rom_rows}
use Rattle.image_rows.specs.Laws.{IsRom}
use Rattle.mem_rows.specs.Accesses.{accesses}
use Rattle.mem_rows.specs.Order.{in_order}
use Rattle.mem_rows.specs.Sequence.{IsSequenceOf}
use Rattle.wit_columns.specs.Values.{instances_of, value_at}
use Rattle.air_main.specs.Table.{RunHasRows}
use Rattle.pil_ast.specs.Value.{public_value}
use Rattle.machine_text.specs.Machine.{machine}
use Rattle.main_run.specs.Headline.{told}
use Rattle.main_run.specs.Stands.{StandsLaw}
use Rattle.main_run.specs.Whole.{IsMachine}
use Rattle.machine_columns.specs.Values.{constants_per, sizes_of, values_of}
use Rattle.machine_columns.specs.Accepted.{AreAccepted, AreWellFormed, public_of}
use Rattle.run_lines.specs.Laws.{RunHolds}

-- what columns of well-formed tables are
pub record ColumnsLaws : Type 0 where
  pub is_machine : (image : Img) (tables : Witness) → IsLoadable image → AreWellFormed tables → IsMachine image (sizes_of tables) (values_of image tables)
  pub tables : (image : Img) (tables : Witness) (air : Air) (i k r : ℕ) → i < instances_of tables.tables (air_number air) → k < columns_per air → r < rows_in tables.profile air
      → (values_of image tables).at (namespace_number (namespace_of air)) i (constants_per (namespace_of air) + k) r ≡ value_at tables.tables (air_number air) i k r
  pub public : (image : Img) (tables : Witness) → IsLoadable image → AreWellFormed tables → AreAccepted image tables → public_of image tables ≡ told (public_value (machine tables.profile) (values_of image tables))

-- what steps of a run are
pub record StepLaws : Type 0 where
  pub rows : RunHasRows
  pub here : (image : Img) (j : ℕ) → IsStep (step_at image j) → instr_of (fetch image (record_at image j).pc) ≡ Some (record_at image j).instr
  pub executes : (image : Img) (j : ℕ) → IsStep (step_at image j) → step_at image j ≡ executed (instr_at image j) (state_at image j)
  pub bounds : (image : Img) → IsLoadable image → (j : ℕ) → IsStep (step_at image j) → IsRecord (record_at image j)
  pub rom : (image : Img) → IsLoadable image → IsRom image (rom_rows image)

pub record Laws : Type 0 where
  pub holds : RunHolds
  pub columns : ColumnsLaws
  pub stands : StandsLaw
  pub steps : StepLaws
  pub sequence : (image : Img) (n : ℕ) (public : Public) → IsLoadable image → n < 2 ^ 32 → RunsTo image n public → IsSequenceOf (accesses image n public) (in_order (accesses image n public))
