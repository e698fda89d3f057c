-- A doubleword by its bytes.
use Rattle.std.proofs.Common.{ℕ, zero, suc, ◌+◌, ◌-◌, ◌*◌, ◌<◌, ◌≤◌, ◌≡◌, List, [], ◌∷◌, ◌++◌, take, drop, get_or, refl, ap, ◌∙◌, arith}
use Rattle.std.proofs.lemmas.Nat.{le_bytes_8}
use Rattle.std.specs.Int.{cast_signed, cast_unsigned, from_le_bytes, w8, w16, w32, w64}
use Rattle.rv_model.specs.Align.{bytes, part, put}
use Rattle.air_align.proofs.Limbs.{Limbs}
use Rattle.air_align.proofs.Limbs.{plus, minus}

abbrev pub four : ℕ → ℕ → ℕ → ℕ → ℕ
four a b c d = a + 256 * b + 65536 * c + 16777216 * d

-- the doubleword whose bytes are the columns from k on
abbrev pub whole : (ℕ → ℕ) → ℕ → ℕ
whole f k = four (f k) (f (k + 1)) (f (k + 2)) (f (k + 3)) + 4294967296 * four (f (k + 4)) (f (k + 5)) (f (k + 6)) (f (k + 7))

abbrev eight : ℕ → ℕ → ℕ → ℕ → ℕ → ℕ → ℕ → ℕ → ℕ
eight a b c d e f g h = four a b c d + 4294967296 * four e f g h

-- eight numbers are bytes
pub record Bytes (a b c d e f g h : ℕ) : Type 0 where
  pub b0 : a ≤ 255
  pub b1 : b ≤ 255
  pub b2 : c ≤ 255
  pub b3 : d ≤ 255
  pub b4 : e ≤ 255
  pub b5 : f ≤ 255
  pub b6 : g ≤ 255
  pub b7 : h ≤ 255

abbrev pub AreBytes : (ℕ → ℕ) → ℕ → Type 0
AreBytes f k = Bytes (f k) (f (k + 1)) (f (k + 2)) (f (k + 3)) (f (k + 4)) (f (k + 5)) (f (k + 6)) (f (k + 7))

module _ (a b c d e f g h : ℕ) (s : Bytes a b c d e f g h) where
  pub part_1 : (off : ℕ) → off < 8 → part 1 off (eight a b c d e f g h) ≡ get_or (a ∷ b ∷ c ∷ d ∷ e ∷ f ∷ g ∷ h ∷ []) off 0
  part_1 zero l = omega arith
  part_1 (suc zero) l = omega arith
  part_1 (suc (suc zero)) l = omega arith
  part_1 (suc (suc (suc zero))) l = omega arith
  part_1 (suc (suc (suc (suc zero)))) l = omega arith
  part_1 (suc (suc (suc (suc (suc zero))))) l = omega arith
  part_1 (suc (suc (suc (suc (suc (suc zero)))))) l = omega arith
  part_1 (suc (suc (suc (suc (suc (suc (suc zero))))))) l = omega arith
  part_1 (suc (suc (suc (suc (suc (suc (suc (suc off)))))))) l = absurd (omega arith)

  pub part_2 : (off : ℕ) → off < 4 → part 2 (2 * off) (eight a b c d e f g h) ≡ get_or ((a + 256 * b) ∷ (c + 256 * d) ∷ (e + 256 * f) ∷ (g + 256 * h) ∷ []) off 0
  part_2 zero l = omega arith
  part_2 (suc zero) l = omega arith
  part_2 (suc (suc zero)) l = omega arith
  part_2 (suc (suc (suc zero))) l = omega arith
  part_2 (suc (suc (suc (suc off)))) l = absurd (omega arith)

  pub part_4 : (off : ℕ) → off < 2 → part 4 (4 * off) (eight a b c d e f g h) ≡ get_or ((four a b c d) ∷ (four e f g h) ∷ []) off 0
  part_4 zero l = omega arith
  part_4 (suc zero) l = omega arith
  part_4 (suc (suc off)) l = absurd (omega arith)

  pub bytes_are : bytes (eight a b c d e f g h) ≡ a ∷ b ∷ c ∷ d ∷ e ∷ f ∷ g ∷ h ∷ []
  bytes_are = le_bytes_8 _ _ refl small (omega arith)
    where
      small : (i : ℕ) → get_or (a ∷ b ∷ c ∷ d ∷ e ∷ f ∷ g ∷ h ∷ []) i 0 < 256
      small zero = omega (arith, s.b0)
      small (suc zero) = omega (arith, s.b1)
      small (suc (suc zero)) = omega (arith, s.b2)
      small (suc (suc (suc zero))) = omega (arith, s.b3)
      small (suc (suc (suc (suc zero)))) = omega (arith, s.b4)
      small (suc (suc (suc (suc (suc zero))))) = omega (arith, s.b5)
      small (suc (suc (suc (suc (suc (suc zero)))))) = omega (arith, s.b6)
      small (suc (suc (suc (suc (suc (suc (suc zero))))))) = omega (arith, s.b7)
      small (suc (suc (suc (suc (suc (suc (suc (suc i)))))))) = omega arith

-- what is put
pub put_is : (n off old value : ℕ) (xs ys : List ℕ) → bytes old ≡ xs → bytes value ≡ ys → put n off old value ≡ from_le_bytes w64 (take off xs ++ take n ys ++ drop (off + n) xs)
put_is n off old value xs ys e g = λ i. from_le_bytes w64 (take off (e i) ++ take n (g i) ++ drop (off + n) (e i))

-- sign extension: s is the sign, and r what is left of the highest byte
pub extended_8 : (b s r lo hi : ℕ) → b ≡ 128 * s + r → r ≤ 127 → s ≤ 1 → lo ≡ b + s * 4294967040 → hi ≡ s * 4294967295 → Limbs lo hi (cast_unsigned w64 (cast_signed w8 b))
extended_8 b zero r lo hi e l k g h = record { low = omega arith; high = omega arith; value = ap (cast_unsigned w64) (plus w8 b (omega arith)) ∙ omega arith }
extended_8 b (suc zero) r lo hi e l k g h = record { low = omega arith; high = omega arith; value = ap (cast_unsigned w64) (minus w8 b (255 - b) (omega arith) (omega arith)) ∙ omega arith }
extended_8 b (suc (suc s)) r lo hi e l k g h = absurd (omega arith)

pub extended_16 : (b b0 b1 s r lo hi : ℕ) → b ≡ b0 + 256 * b1 → b1 ≡ 128 * s + r → b0 ≤ 255 → r ≤ 127 → s ≤ 1 → lo ≡ b + s * 4294901760 → hi ≡ s * 4294967295 → Limbs lo hi (cast_unsigned w64 (cast_signed w16 b))
extended_16 b b0 b1 zero r lo hi d e m l k g h = record { low = omega arith; high = omega arith; value = ap (cast_unsigned w64) (plus w16 b (omega arith)) ∙ omega arith }
extended_16 b b0 b1 (suc zero) r lo hi d e m l k g h = record { low = omega arith; high = omega arith; value = ap (cast_unsigned w64) (minus w16 b (65535 - b) (omega arith) (omega arith)) ∙ omega arith }
extended_16 b b0 b1 (suc (suc s)) r lo hi d e m l k g h = absurd (omega arith)

pub extended_32 : (b b0 b1 b2 b3 s r lo hi : ℕ) → b ≡ four b0 b1 b2 b3 → b3 ≡ 128 * s + r → b0 ≤ 255 → b1 ≤ 255 → b2 ≤ 255 → r ≤ 127 → s ≤ 1 → lo ≡ b → hi ≡ s * 4294967295 → Limbs lo hi (cast_unsigned w64 (cast_signed w32 b))
extended_32 b b0 b1 b2 b3 zero r lo hi d e m0 m1 m2 l k g h = record { low = omega arith; high = omega arith; value = ap (cast_unsigned w64) (plus w32 b (omega arith)) ∙ omega arith }
extended_32 b b0 b1 b2 b3 (suc zero) r lo hi d e m0 m1 m2 l k g h = record { low = omega arith; high = omega arith; value = ap (cast_unsigned w64) (minus w32 b (4294967295 - b) (omega arith) (omega arith)) ∙ omega arith }
extended_32 b b0 b1 b2 b3 (suc (suc s)) r lo hi d e m0 m1 m2 l k g h = absurd (omega arith)

-- limbs of four bytes each, and of a small number
pub limbs_of : (lo hi v a b c d e f g h : ℕ) → lo ≡ four a b c d → hi ≡ four e f g h → v ≡ eight a b c d e f g h → Bytes a b c d e f g h → Limbs lo hi v
limbs_of lo hi v a b c d e f g h x y z s = record { low = omega (arith, s); high = omega (arith, s); value = omega arith }

pub limbs_low : (lo hi v n : ℕ) → lo ≡ n → hi ≡ 0 → v ≡ n → n < 4294967296 → Limbs lo hi v
limbs_low lo hi v n x y z l = record { low = omega arith; high = omega arith; value = omega arith }

-- four bytes, where what was replaced was added and taken away
pub written : (lo down up t : ℕ) → lo + down ≡ up → up ≡ down + t → lo ≡ t
written lo down up t e h = omega arith
