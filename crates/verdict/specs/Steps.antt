-- The run that accepted tables are.
use Rattle.std.specs.Prelude.{ℕ, ◌+◌, ◌^◌, ◌<◌, ◌≤◌, ◌≡◌, ◌≢◌, ◌==◌, not, [], slice_index_or, count_by, if◌then◌else◌}
use Rattle.std.specs.List.{sum_by}
use Rattle.gold.specs.declared.instances.Table.{Table}
use Rattle.gold.specs.declared.instances.Witness.{Witness}
use Rattle.zk_layout.specs.Air.{air_number}
use Rattle.zk_layout.specs.declared.air.Air.TheVariants as airs
use Rattle.rv_model.specs.Image.{Img}
use Rattle.rv_model.specs.Run.{RunsTo}
use Rattle.rv_model.specs.declared.answer.Public.{Public}
use Rattle.pil_ast.specs.Term.{item_at, space_at}
use Rattle.pil_ast.specs.Value.{around}
use Rattle.pil_exact.specs.Exact.{HoldsExactly}
use Rattle.machine_text.specs.Machine.{machine}
use Rattle.machine_text.specs.Main
use Rattle.air_main.specs.Law.{at_row}
use Rattle.main_run.specs.Bus.{accesses}
use Rattle.main_run.specs.Chain.{IsPlace}
use Rattle.main_run.specs.Run.{Halted}
use Rattle.machine_columns.specs.Values.{values_of}
use Rattle.verdict.specs.declared.judgement.Judgement.{Judgement}
use Rattle.verdict.specs.declared.judgement.Judgement.TheVariants.{Accepted, Broken}

-- how many rows of a table are selected rows of Main: its first column, `sel`, isn't 0 there
abbrev pub selected_in : Table → ℕ
selected_in t = if t.air == air_number airs.Main then count_by (λ v. not (v == 0)) (slice_index_or t.columns 0 []) else 0

-- how many rows of Main are selected in all tables
abbrev pub steps_of : Witness → ℕ
steps_of witness = sum_by selected_in witness.tables

-- The selected rows of Main are the first ones. They are the steps of the run: each has the pc, the registers and the
-- doublewords of its state, reads what they hold, and the last one is the halt.
pub record AreSteps (image : Img) (witness : Witness) : Type 0 where
  pub first : (j i r : ℕ) → IsPlace (values_of image witness) j i r → j < steps_of witness → at_row (machine witness.profile) (values_of image witness) i r Main.sel ≢ 0
  pub others : (j i r : ℕ) → IsPlace (values_of image witness) j i r → steps_of witness ≤ j → at_row (machine witness.profile) (values_of image witness) i r Main.sel ≡ 0
  pub rows : Halted (machine witness.profile) (values_of image witness) image (accesses (machine witness.profile) (values_of image witness) image)
  pub all : rows.last + 1 ≡ steps_of witness

-- Each identity of each namespace holds in whole numbers, at each row.
abbrev pub NothingWraps : Img → Witness → Type 0
NothingWraps image witness =
    (s i r : ℕ) → s < 13 → i < (values_of image witness).instances s → r < (values_of image witness).rows s
    → (k : ℕ) → HoldsExactly (space_at (machine witness.profile) s).items (around (machine witness.profile) (values_of image witness) s i r) (item_at (space_at (machine witness.profile) s).items k)

-- the run of the image halts with as many steps as rows of Main are selected, and this is what it publishes
pub record RunsBy (image : Img) (witness : Witness) (public : Public) : Type 0 where
  pub runs : RunsTo image (steps_of witness) public
  pub most : steps_of witness ≤ 2 ^ 32

-- what tables tell that are accepted with this public output
pub record TellsRun (image : Img) (witness : Witness) (public : Public) : Type 0 where
  pub runs : RunsBy image witness public
  pub steps : AreSteps image witness
  pub exact : NothingWraps image witness

-- where tables are accepted
abbrev pub IsSound : Img → Witness → Judgement → Type 0
IsSound image witness (Accepted public) = TellsRun image witness public
IsSound image witness (Broken broken) = Unit {0}
