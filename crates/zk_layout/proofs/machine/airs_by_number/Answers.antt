-- By the profile and the air.
use Rattle.std.proofs.Common.{◌≡◌, slice_get, Some, refl}
use Rattle.gold.specs.Shapes.{in_profile}
use Rattle.gold.specs.declared.shapes.Profile.{Profile}
use Rattle.gold.specs.declared.shapes.Profile.TheVariants.{Small, Wide}
use Rattle.zk_layout.specs.Air.{air_number, machine_airs, shape_in}
use Rattle.zk_layout.specs.declared.air.Air.{Air}
use Rattle.zk_layout.specs.declared.air.Air.TheVariants.{Main, Mem, Binary, Shift, Arith, Align, Out}
use Rattle.zk_layout.proofs.machine.airs_by_number.Goals as goal

at_number : (profile : Profile) (air : Air) → slice_get (in_profile profile machine_airs) (air_number air) ≡ Some (shape_in profile air)
unfolding air_number
at_number Small Main = refl
at_number Small Mem = refl
at_number Small Binary = refl
at_number Small Shift = refl
at_number Small Arith = refl
at_number Small Align = refl
at_number Small Out = refl
at_number Wide Main = refl
at_number Wide Mem = refl
at_number Wide Binary = refl
at_number Wide Shift = refl
at_number Wide Arith = refl
at_number Wide Align = refl
at_number Wide Out = refl

pub returns : goal.returns
returns c = at_number
