-- A selected row of Arith with its flag: what all operations share.
use Rattle.std.proofs.Common.{ℕ, suc, ◌+◌, ◌*◌, ◌%◌, ◌<◌, ◌≤◌, ◌≡◌, false, cond, List, [], ◌∷◌, ◌++◌, Contains, refl, sym, ap, subst, arith}
use Rattle.rv_word.specs.declared.instr.OpNo.{OpNo}
use Rattle.rv_word.specs.Numbers.{op_number}
use Rattle.rv_model.specs.Op.{value_of, flag_of, word}
use Rattle.pil_ast.specs.Term.{item_at}
use Rattle.pil_ast.specs.Value.{Cells, value}
use Rattle.pil_exact.proofs.Row.{Fact, is, AllMeet, Row, here, line, amount, fact, found, MeetsFound, meet_both}
use Rattle.pil_exact.proofs.Flags.{flags}
use Rattle.air_arith.proofs.Operation.{Limbs, IsOf}
use Rattle.air_arith.proofs.Twos.{word_limbs}
use Rattle.machine_text.specs.Arith.{items, op, alo, ahi, blo, bhi, clo, chi}
use Rattle.air_arith.proofs.Numbered.{products_and_quotients}
use Rattle.air_arith.proofs.Known.{Selected, told, base, rw_small}
use Rattle.air_arith.proofs.School.{school}
use Rattle.air_arith.proofs.Numbers.{limb, wide}

-- a selected row whose flag k alone is set
pub record Op (x : Cells) (k : ℕ) : Type 0 where
  pub selected : Selected x
  pub flag : AllMeet (flags (suc k) 1 13) (x.column 0 12)

abbrev pub hot : ℕ → List (ℕ × Fact)
hot k = (0, is 1) ∷ flags (suc k) 1 13 ++ told

pub small_limb : (a b : ℕ) → a ≤ 65535 → b ≤ 65535 → a + 65536 * b < 4294967296
small_limb a b h k = omega arith

pub small_wide : (a b : ℕ) → a < 4294967296 → b < 4294967296 → a + 4294967296 * b < 18446744073709551616
small_wide a b h k = omega arith

limbs_of : (lo hi v w z : ℕ) → lo ≡ v → hi ≡ w → z ≡ v + 4294967296 * w → v < 4294967296 → w < 4294967296 → Limbs lo hi z
limbs_of lo hi v w z e g q h k = record { low = omega arith; high = omega arith; value = omega arith }

low_limb : (v w : ℕ) → v < 4294967296 → (v + 4294967296 * w) % 4294967296 ≡ v
low_limb v w h = omega arith

pub four : (a b c d : ℕ) → a + b + c + d ≡ 0 → (a + 65536 * b) + 4294967296 * (c + 65536 * d) ≡ 0
four a b c d e = omega arith

pub some_of_four : (a b c d n : ℕ) → a + b + c + d ≡ 1 + n → 0 < (a + 65536 * b) + 4294967296 * (c + 65536 * d)
some_of_four a b c d n e = omega arith

module _ (x : Cells) (s : Selected x) where
  abbrev f : ℕ → ℕ
  f = x.column 0 12

  -- what the small tables say of a column
  pub bound : (k : ℕ) → MeetsFound (f k) (found told k)
  bound = fact told f s.within

  pub product : wide f 22 * wide f 26 + wide f 30 ≡ wide f 34 + 18446744073709551616 * wide f 38
  product =
      let row = base x s in
      school _ _ _ _ _ _ _ _ _ _ _ _ _ _ _ _ _ _ _ _ (f 42 + 65536 * f 49) (f 43 + 65536 * f 50) (f 44 + 65536 * f 51) (f 45 + 65536 * f 52) (f 46 + 65536 * f 53) (f 47 + 65536 * f 54) (f 48 + 65536 * f 55)
      (line row (item_at items 154) (s.meets 154) refl) (line row (item_at items 155) (s.meets 155) refl) (line row (item_at items 156) (s.meets 156) refl) (line row (item_at items 157) (s.meets 157) refl) (line row (item_at items 158) (s.meets 158) refl) (line row (item_at items 159) (s.meets 159) refl) (line row (item_at items 160) (s.meets 160) refl) (line row (item_at items 161) (s.meets 161) refl)

  pub result_sign : f 72 ≡ 32768 * f 77 + f 78
  result_sign = line (base x s) (item_at items 171) (s.meets 171) refl

  -- a divisor that is called 0 is 0
  pub no_divisor : f 65 ≡ 1 → wide f 26 ≡ 0
  no_divisor e = four _ _ _ _ (line (s.row ((65, is 1) ∷ (0, is 1) ∷ told) (e, (s.one, s.within))) (item_at items 164) (s.meets 164) refl)

  pub first_limbs : Limbs (value items x alo) (value items x ahi) (wide f 14)
  first_limbs = limbs_of _ _ _ _ _ (amount (base x s) alo refl) (amount (base x s) ahi refl) refl (small_limb _ _ (bound 14) (bound 15)) (small_limb _ _ (bound 16) (bound 17))

  pub second_limbs : Limbs (value items x blo) (value items x bhi) (wide f 18)
  second_limbs = limbs_of _ _ _ _ _ (amount (base x s) blo refl) (amount (base x s) bhi refl) refl (small_limb _ _ (bound 18) (bound 19)) (small_limb _ _ (bound 20) (bound 21))

  pub first_low : wide f 14 % 4294967296 ≡ limb f 14
  first_low = low_limb _ _ (small_limb _ _ (bound 14) (bound 15))

  pub second_low : wide f 18 % 4294967296 ≡ limb f 18
  second_low = low_limb _ _ (small_limb _ _ (bound 18) (bound 19))

  pub result_low : wide f 71 % 4294967296 ≡ limb f 71
  result_low = low_limb _ _ (small_limb _ _ (bound 71) (bound 72))

module _ (x : Cells) (k : ℕ) (o : Op x k) where
  abbrev g : ℕ → ℕ
  g = x.column 0 12

  -- the row, where more is known
  pub with_facts : (es : List (ℕ × Fact)) → AllMeet es g → Row items x 12 (here (es ++ hot k))
  with_facts es h = o.selected.row _ (meet_both es (hot k) g h (o.selected.one, meet_both (flags (suc k) 1 13) told g o.flag o.selected.within))

  pub plain_row : Row items x 12 (here (hot k))
  plain_row = with_facts [] tt

  -- the tuple of an operation
  abbrev pub IsResult : OpNo → Type 0
  IsResult n = IsOf products_and_quotients (value items x op) (value items x alo) (value items x ahi) (value items x blo) (value items x bhi) (value items x clo) (value items x chi) 0

  module _ (n : OpNo) (there : Contains products_and_quotients n) (number : value items x op ≡ op_number n) (flag : flag_of n (wide g 14) (wide g 18) ≡ false) where
    abbrev v : ℕ
    v = value_of n (wide g 14) (wide g 18)

    tuple_is : Limbs (value items x clo) (value items x chi) v → IsResult n
    tuple_is l = record { o = n; a = wide g 14; b = wide g 18; here = there; number_is = number; first = first_limbs x o.selected; second = second_limbs x o.selected; value = l; flag_is = sym (ap (λ t. cond t 1 0) flag) }

    low_is : value items x clo ≡ limb g 71
    low_is = amount (base x o.selected) clo refl

    pub result_64 : value items x chi ≡ limb g 73 → v ≡ wide g 71 → IsResult n
    result_64 e h = tuple_is (limbs_of _ _ _ _ _ low_is e h (small_limb _ _ (bound x o.selected 71) (bound x o.selected 72)) (small_limb _ _ (bound x o.selected 73) (bound x o.selected 74)))

    pub result_32 : value items x chi ≡ g 77 * 4294967295 → (m : ℕ) → m % 4294967296 ≡ limb g 71 → v ≡ word m → IsResult n
    result_32 e m h q = tuple_is (subst (Limbs (value items x clo) (value items x chi)) (sym q) (word_limbs m _ _ _ _ _ _ h low_is (bound x o.selected 71) (bound x o.selected 72) (result_sign x o.selected) (rw_small x o.selected) (bound x o.selected 77) e))
