-- Two's complement.
use Rattle.std.proofs.Common.{ℕ, zero, suc, ◌+◌, ◌-◌, ◌*◌, ◌%◌, ◌^◌, ◌<◌, ◌≤◌, ◌≡◌, false, ltb, pos, negsuc, ap, ◌∙◌, arith}
use Rattle.std.proofs.lemmas.Bool.Decides.{nat_tests}
use Rattle.std.proofs.lemmas.Int.{to_z_pos}
use Rattle.std.specs.Int.{Width, cast_signed, w32}
use mir.Val.{hbits, bits, sel}
use Rattle.rv_model.specs.Op.{bits_of, word}
use Rattle.air_ops.proofs.Limbs.{Limbs}

not_below : (a m : ℕ) → m ≤ a → ltb a m ≡ false
not_below a m h = grind (arith, nat_tests)

-- a number without its sign bit, and one with it
pub plus : (w : Width) (a : ℕ) → a < 2 ^ hbits w → cast_signed w a ≡ pos a
plus w a h = to_z_pos w a h

pub minus : (w : Width) (a b : ℕ) → 2 ^ hbits w ≤ a → a + suc b ≡ 2 ^ bits w → cast_signed w a ≡ negsuc b
minus w a b h e =
    ap (λ t. sel t (pos a) (negsuc (2 ^ bits w - suc a))) (not_below a (2 ^ hbits w) h) ∙ ap negsuc (rest (2 ^ bits w) a b e)
  where
    rest : (m a b : ℕ) → a + suc b ≡ m → m - suc a ≡ b
    rest m a b e = omega arith

-- the low 32 bits, sign-extended: s is their sign
pub word_plus : (n a : ℕ) → n % 4294967296 ≡ a → a < 2147483648 → word n ≡ a
word_plus n a e h = ap (λ z. bits_of (cast_signed w32 z)) e ∙ ap bits_of (plus w32 a h)

pub word_minus : (n a : ℕ) → n % 4294967296 ≡ a → 2147483648 ≤ a → a < 4294967296 → word n ≡ a + 4294967296 * 4294967295
word_minus n a e h l =
    ap (λ z. bits_of (cast_signed w32 z)) e ∙ ap bits_of (minus w32 a (4294967295 - a) h (omega arith)) ∙ omega arith

-- what is sign-extended, by its upper 16 bits
pub word_limbs : (n lo hi r0 r1 ws rr : ℕ) → n % 4294967296 ≡ r0 + 65536 * r1 → lo ≡ r0 + 65536 * r1 → r0 ≤ 65535 → r1 ≤ 65535 → r1 ≡ 32768 * ws + rr → rr ≤ 32767 → ws ≤ 1 → hi ≡ ws * 4294967295 → Limbs lo hi (word n)
word_limbs n lo hi r0 r1 zero rr e l a b s k m h = record { low = omega arith; high = omega arith; value = word_plus n (r0 + 65536 * r1) e (omega arith) ∙ omega arith }
word_limbs n lo hi r0 r1 (suc zero) rr e l a b s k m h = record { low = omega arith; high = omega arith; value = word_minus n (r0 + 65536 * r1) e (omega arith) (omega arith) ∙ omega arith }
word_limbs n lo hi r0 r1 (suc (suc ws)) rr e l a b s k m h = absurd (no ws m)
  where
    no : (ws : ℕ) → suc (suc ws) ≤ 1 → ⊥
    no ws m = omega arith
