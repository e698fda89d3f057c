-- The operations of each air, one by one.
use Rattle.std.proofs.Common.{◌≡◌, List, [], ◌∷◌, get_or, refl, subst, lit<, ◌∙◌}
use Rattle.std.specs.Prelude.{Contains}
use Rattle.std.proofs.lemmas.List.{get_or_default}
use Rattle.rv_word.specs.declared.instr.OpNo.{OpNo}
use Rattle.rv_word.specs.declared.instr.OpNo.TheVariants as ops
use Rattle.rv_word.specs.Numbers.{op_number}
use Rattle.zk_layout.specs.Air.{air_of}
use Rattle.zk_layout.specs.declared.air.Air.{Air}
use Rattle.zk_layout.specs.declared.air.Air.TheVariants as airs
use Rattle.pil_exact.proofs.Flags.{Each, each}

-- in order of their flags, or of their numbers
abbrev pub operations : Air → List OpNo
operations airs.Binary = ops.Add ∷ ops.Sub ∷ ops.Ltu ∷ ops.Lt ∷ ops.Eq ∷ ops.And ∷ ops.Or ∷ ops.Xor ∷ ops.Addw ∷ ops.Subw ∷ ops.Sh1add ∷ ops.Sh2add ∷ ops.Sh3add ∷ ops.Czeqz ∷ ops.Cznez ∷ []
operations airs.Shift = ops.Sll ∷ ops.Srl ∷ ops.Sra ∷ ops.Sllw ∷ ops.Srlw ∷ ops.Sraw ∷ []
operations airs.Arith = ops.Mul ∷ ops.Mulh ∷ ops.Mulhsu ∷ ops.Mulhu ∷ ops.Div ∷ ops.Divu ∷ ops.Rem ∷ ops.Remu ∷ ops.Mulw ∷ ops.Divw ∷ ops.Divuw ∷ ops.Remw ∷ ops.Remuw ∷ []
operations _ = []

listed : (o : OpNo) → Contains (operations (air_of o)) o
unfolding air_of op_number
listed ops.Add = (0, lit< tt, refl)
listed ops.Sub = (1, lit< tt, refl)
listed ops.Ltu = (2, lit< tt, refl)
listed ops.Lt = (3, lit< tt, refl)
listed ops.Eq = (4, lit< tt, refl)
listed ops.And = (5, lit< tt, refl)
listed ops.Or = (6, lit< tt, refl)
listed ops.Xor = (7, lit< tt, refl)
listed ops.Addw = (8, lit< tt, refl)
listed ops.Subw = (9, lit< tt, refl)
listed ops.Sh1add = (10, lit< tt, refl)
listed ops.Sh2add = (11, lit< tt, refl)
listed ops.Sh3add = (12, lit< tt, refl)
listed ops.Czeqz = (13, lit< tt, refl)
listed ops.Cznez = (14, lit< tt, refl)
listed ops.Sll = (0, lit< tt, refl)
listed ops.Srl = (1, lit< tt, refl)
listed ops.Sra = (2, lit< tt, refl)
listed ops.Sllw = (3, lit< tt, refl)
listed ops.Srlw = (4, lit< tt, refl)
listed ops.Sraw = (5, lit< tt, refl)
listed ops.Mul = (0, lit< tt, refl)
listed ops.Mulh = (1, lit< tt, refl)
listed ops.Mulhsu = (2, lit< tt, refl)
listed ops.Mulhu = (3, lit< tt, refl)
listed ops.Div = (4, lit< tt, refl)
listed ops.Divu = (5, lit< tt, refl)
listed ops.Rem = (6, lit< tt, refl)
listed ops.Remu = (7, lit< tt, refl)
listed ops.Mulw = (8, lit< tt, refl)
listed ops.Divw = (9, lit< tt, refl)
listed ops.Divuw = (10, lit< tt, refl)
listed ops.Remw = (11, lit< tt, refl)
listed ops.Remuw = (12, lit< tt, refl)

-- what holds of each of Binary's operations, by the place of its flag, holds of any
pub of_binary : (P : OpNo → Type 0) → Each (λ j. P (get_or (operations airs.Binary) j ops.Add)) 15 → (o : OpNo) → air_of o ≡ airs.Binary → P o
of_binary P h o e =
    let at : Contains (operations airs.Binary) o = subst (λ air. Contains (operations air) o) e (listed o) in
    subst P (get_or_default (operations airs.Binary) at.0 ops.Add o at.1 ∙ at.2) (each (λ j. P (get_or (operations airs.Binary) j ops.Add)) 15 h at.0 at.1)

-- and of each of Shift's, by its number
pub of_shift : (P : OpNo → Type 0) → Each (λ j. P (get_or (operations airs.Shift) j ops.Sll)) 6 → (o : OpNo) → air_of o ≡ airs.Shift → P o
of_shift P h o e =
    let at : Contains (operations airs.Shift) o = subst (λ air. Contains (operations air) o) e (listed o) in
    subst P (get_or_default (operations airs.Shift) at.0 ops.Sll o at.1 ∙ at.2) (each (λ j. P (get_or (operations airs.Shift) j ops.Sll)) 6 h at.0 at.1)
