-- The laws of the crates below, as their functions' clauses give them.
use Rattle.std.specs.Prelude.{ℕ, ◌^◌, ◌<◌}
use Rattle.rv_model.specs.Image.{Img, IsLoadable, initial_word}
use Rattle.step_rows.specs.Initial.{initial_doublewords}
use Rattle.image_rows.specs.Laws.{AreInitial}
use Rattle.air_main.specs.Constants.{RomConstantsLaw, MainConstantsLaw}
use Rattle.air_main.specs.Law.{RowLaw, FollowsLaw, EndsLaw, MainExact, ProfilesLaw}
use Rattle.air_main.specs.Selected.{SelectedLaw}
use Rattle.air_mem.specs.Constants.{MemConstantsLaw, InitConstantsLaw, OutConstantsLaw}
use Rattle.air_mem.specs.Laws.{MemDistinct, MemExact, BusLaw, BusReceives, MachineHas, OutPublics, OutExact}
use Rattle.air_ops.specs.Binary
use Rattle.air_ops.specs.Shift
use Rattle.air_arith.specs.Laws.{ArithSent, ArithExact}
use Rattle.air_align.specs.Laws.{AlignSent, AlignExact}

pub record MainLaws : Type 0 where
  pub row : RowLaw
  pub follows : FollowsLaw
  pub ends : EndsLaw
  pub selected : SelectedLaw

pub record StartLaws : Type 0 where
  pub words : (image : Img) (k : ℕ) → IsLoadable image → initial_word image k < 2 ^ 64
  pub entry : (image : Img) → IsLoadable image → image.entry < 2 ^ 32
  pub initial : (image : Img) → AreInitial image (initial_doublewords image)

pub record MemLaws : Type 0 where
  pub distinct : MemDistinct
  pub sound : BusLaw
  pub receives : BusReceives

pub record TextLaws : Type 0 where
  pub stands : MachineHas
  pub publics : OutPublics

pub record ConstantsLaws : Type 0 where
  pub rom : RomConstantsLaw
  pub main : MainConstantsLaw
  pub mem : MemConstantsLaw
  pub initial : InitConstantsLaw
  pub out : OutConstantsLaw
  pub profiles : ProfilesLaw
  pub stands : MachineHas

pub record AirLaws : Type 0 where
  pub binary : Binary.SendsOperations
  pub shift : Shift.SendsOperations
  pub arith : ArithSent
  pub align : AlignSent

pub record ExactLaws : Type 0 where
  pub main : MainExact
  pub mem : MemExact
  pub out : OutExact
  pub binary : Binary.IsExact
  pub shift : Shift.IsExact
  pub arith : ArithExact
  pub align : AlignExact
