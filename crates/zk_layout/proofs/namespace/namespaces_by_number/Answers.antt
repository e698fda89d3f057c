-- By the namespace.
use Rattle.std.proofs.Common.{◌≡◌, refl}
use Rattle.zk_layout.specs.Namespaces.{namespace_at, namespace_number}
use Rattle.zk_layout.specs.declared.namespace.Namespace.{Namespace}
use Rattle.zk_layout.specs.declared.namespace.Namespace.TheVariants.{Bit, Range16, BinTab, ShiftTab, Rom, Init, Main, Mem, Out, Align, Binary, Shift, Arith}
use Rattle.zk_layout.proofs.namespace.namespaces_by_number.Goals as goal

at_number : (space : Namespace) → namespace_at (namespace_number space) ≡ space
unfolding namespace_number
at_number Bit = refl
at_number Range16 = refl
at_number BinTab = refl
at_number ShiftTab = refl
at_number Rom = refl
at_number Init = refl
at_number Main = refl
at_number Mem = refl
at_number Out = refl
at_number Align = refl
at_number Binary = refl
at_number Shift = refl
at_number Arith = refl

pub returns : goal.returns
returns c = at_number
