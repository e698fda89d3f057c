-- A selected row of Align with its kind and offset: what all kinds share.
use Rattle.std.proofs.Common.{ℕ, zero, suc, ◌+◌, ◌%◌, ◌<◌, ◌≡◌, List, ◌∷◌, ◌++◌, refl, sym, ap, subst, arith}
use Rattle.std.specs.Int.{cast_signed, cast_unsigned, w8, w16, w32, w64}
use Rattle.rv_word.specs.declared.instr.Kind.{Kind}
use Rattle.rv_word.specs.declared.instr.Kind.TheVariants as kinds
use Rattle.rv_word.specs.Numbers.{kind_number}
use Rattle.rv_model.specs.Align.{width, aligned, part, put}
use Rattle.pil_ast.specs.Value.{Cells, value}
use Rattle.pil_exact.proofs.Row.{Fact, is, AllMeet, Row, here, amount, meet_both}
use Rattle.pil_exact.proofs.Flags.{flags}
use Rattle.air_align.proofs.Limbs.{Limbs}
use Rattle.machine_text.specs.Align.{items, kind, off, olo, ohi, vlo, vhi, mlo, mhi}
use Rattle.air_align.proofs.Known.{Selected, told, base, bound}
use Rattle.air_align.proofs.Bytes.{whole, AreBytes, limbs_of}

-- a kind, an offset that is a multiple of its width, the old doubleword, the value and the result
pub record Accesses (number off olo ohi vlo vhi mlo mhi : ℕ) : Type 0 where
  pub k : Kind
  pub old : ℕ
  pub value : ℕ
  pub number_is : number ≡ kind_number k
  pub inside : off < 8
  pub multiple : off % width k ≡ 0
  pub old_is : Limbs olo ohi old
  pub value_is : Limbs vlo vhi value
  pub result : Limbs mlo mhi (aligned k off old value)

module _ (x : Cells) (s : Selected x) where
  abbrev f : ℕ → ℕ
  f = x.column 0 9

  pub old_bytes : AreBytes f 20
  old_bytes = record { b0 = bound x s 20; b1 = bound x s 21; b2 = bound x s 22; b3 = bound x s 23; b4 = bound x s 24; b5 = bound x s 25; b6 = bound x s 26; b7 = bound x s 27 }

  pub value_bytes : AreBytes f 28
  value_bytes = record { b0 = bound x s 28; b1 = bound x s 29; b2 = bound x s 30; b3 = bound x s 31; b4 = bound x s 32; b5 = bound x s 33; b6 = bound x s 34; b7 = bound x s 35 }

  old_limbs : Limbs (value items x olo) (value items x ohi) (whole f 20)
  old_limbs = limbs_of _ _ _ _ _ _ _ _ _ _ _ (amount (base x s) olo refl) (amount (base x s) ohi refl) refl old_bytes

  value_limbs : Limbs (value items x vlo) (value items x vhi) (whole f 28)
  value_limbs = limbs_of _ _ _ _ _ _ _ _ _ _ _ (amount (base x s) vlo refl) (amount (base x s) vhi refl) refl value_bytes

  -- the tuple is that of an access
  abbrev pub IsTuple : Type 0
  IsTuple = Accesses (value items x kind) (value items x off) (value items x olo) (value items x ohi) (value items x vlo) (value items x vhi) (value items x mlo) (value items x mhi)

  pub access_of : (k : Kind) (j : ℕ) → value items x kind ≡ kind_number k → value items x off ≡ j → j < 8 → j % width k ≡ 0 → Limbs (value items x mlo) (value items x mhi) (aligned k j (whole f 20) (whole f 28)) → IsTuple
  access_of k j e g l m r =
      record {
        k = k;
        old = whole f 20;
        value = whole f 28;
        number_is = e;
        inside = subst (λ z. z < 8) (sym g) l;
        multiple = subst (λ z. z % width k ≡ 0) (sym g) m;
        old_is = old_limbs;
        value_is = value_limbs;
        result = subst (λ z. Limbs (value items x mlo) (value items x mhi) (aligned k z (whole f 20) (whole f 28))) (sym g) r;
      }
