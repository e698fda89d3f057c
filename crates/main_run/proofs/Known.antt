-- What is known of the machine's tables before the run is.
use Rattle.std.specs.Prelude.{ℕ, ◌*◌, ◌^◌, ◌<◌, ◌≤◌, ◌≢◌, List, [], ◌∷◌, slice_index}
use Rattle.pil_ast.specs.Term.{Namespace}
use Rattle.pil_ast.specs.Columns.{Columns}
use Rattle.pil_ast.specs.Holds.{AllHold, all_sent, sent, times}
use Rattle.gold.specs.declared.shapes.Profile.{Profile}
use Rattle.machine_text.specs.Machine.{machine, main_rows}
use Rattle.machine_text.specs.Main
use Rattle.machine_text.specs.Align
use Rattle.machine_text.specs.Binary
use Rattle.machine_text.specs.Shift
use Rattle.machine_text.specs.Arith
use Rattle.rv_model.specs.Image.{Img, IsLoadable}
use Rattle.step_rows.specs.Initial.{initial_doublewords}
use Rattle.step_rows.specs.Tuples.{IsOperation, IsAccess}
use Rattle.air_main.specs.Constants.{MainConstants}
use Rattle.air_main.specs.Law.{HasMain}
use Rattle.air_mem.specs.Constants.{MemConstants, InitConstants, OutConstants}

-- each tuple that the operation airs send on line 18 is an operation's, where the high limb of its second operand has 32 bits
abbrev pub OperationTuples : List Namespace → Columns → Type 0
OperationTuples ns c = (t : List ℕ) → times t (all_sent ns c (Binary.operation ∷ Shift.operation ∷ Arith.operation ∷ [])) ≢ 0 → slice_index t 4 < 2 ^ 32 → IsOperation t

-- and each tuple that Align sends on line 19 is an access's
abbrev pub AlignTuples : List Namespace → Columns → Type 0
AlignTuples ns c = (t : List ℕ) → times t (sent ns c Align.access) ≢ 0 → IsAccess t

pub record Machine (q : Profile) (c : Columns) (image : Img) : Type 0 where
  pub main : HasMain (machine q) c (main_rows q) image
  pub main_constants : MainConstants image (main_rows q) c
  pub some : 0 < c.instances Main.here
  pub few : c.instances Main.here * c.rows Main.here ≤ 2 ^ 32
  pub loadable : IsLoadable image
  pub mem_constants : MemConstants c
  pub init : InitConstants c (initial_doublewords image)
  pub out : OutConstants c
  pub holds : AllHold (machine q) c
  pub operations : OperationTuples (machine q) c
  pub aligned : AlignTuples (machine q) c
