-- Magnitudes and results by limbs.
use Rattle.std.proofs.Common.{ℕ, zero, suc, ◌+◌, ◌*◌, ◌<◌, ◌≤◌, ◌≡◌, refl, ap, arith}
use Rattle.std.specs.Int.{w32, w64}
use Rattle.air_arith.proofs.Signed.{IsSize, not_negative, negative, IsBits, same, turned, IsHigh, plain, whole, parted, Divides}

-- two limbs, and the columns from k on as two digits and as four
abbrev pub joined : ℕ → ℕ → ℕ
joined lo hi = lo + 4294967296 * hi

abbrev pub limb : (ℕ → ℕ) → ℕ → ℕ
limb f k = f k + 65536 * f (k + 1)

abbrev pub wide : (ℕ → ℕ) → ℕ → ℕ
wide f k = joined (limb f k) (limb f (k + 2))

-- by the sign s: mlo, mhi are lo, hi, or make 2^64 with them
abbrev pub Sized : ℕ → ℕ → ℕ → ℕ → ℕ → ℕ → Type 0
Sized zero mlo mhi lo hi k = (mlo ≡ lo) × (mhi ≡ hi)
Sized (suc s) mlo mhi lo hi k = (mlo + lo ≡ 4294967296 * k) × (mhi + hi + k ≡ 4294967296)

-- zlo, zhi are vlo, vhi, or make a multiple of 2^64 with them
abbrev pub Outcome : ℕ → ℕ → ℕ → ℕ → ℕ → ℕ → ℕ → Type 0
Outcome zero vlo vhi zlo zhi k1 k2 = (zlo ≡ vlo) × (zhi ≡ vhi)
Outcome (suc s) vlo vhi zlo zhi k1 k2 = (vlo + zlo ≡ 4294967296 * k1) × (vhi + zhi + k1 ≡ 4294967296 * k2)

-- the same with what the low half of a product gives
abbrev pub HighOutcome : ℕ → ℕ → ℕ → ℕ → ℕ → ℕ → ℕ → ℕ → Type 0
HighOutcome zero vlo vhi zlo zhi kn k1 k2 = (zlo ≡ vlo) × (zhi ≡ vhi)
HighOutcome (suc s) vlo vhi zlo zhi kn k1 k2 = (vlo + zlo + kn ≡ 4294967296 * k1) × (vhi + zhi + k1 ≡ 4294967296 * k2)

-- signs are 0 or 1
pub no_sign : (t : ℕ) → suc (suc t) ≤ 1 → ⊥
no_sign t l = omega arith

-- an operand of 64 bits, whose sign is that of its highest digit
pub size_64 : (t mlo mhi lo h2 h3 k r : ℕ) → t ≤ 1 → Sized t mlo mhi lo (h2 + 65536 * h3) k → h3 ≡ 32768 * t + r → r ≤ 32767 → h2 ≤ 65535 → lo < 4294967296 → IsSize w64 (joined lo (h2 + 65536 * h3)) (joined mlo mhi) t
size_64 zero mlo mhi lo h2 h3 k r l e s m n o = not_negative (omega arith) (omega (arith, e.0, e.1))
size_64 (suc zero) mlo mhi lo h2 h3 k r l e s m n o = negative (omega arith) (omega arith) (omega (arith, e.0, e.1))
size_64 (suc (suc t)) mlo mhi lo h2 h3 k r l e s m n o = absurd (no_sign t l)

-- an operand of 32 bits, sign-extended
pub size_32 : (t mlo mhi h0 h1 k r : ℕ) → t ≤ 1 → Sized t mlo mhi (h0 + 65536 * h1) (t * 4294967295) k → h1 ≡ 32768 * t + r → r ≤ 32767 → h0 ≤ 65535 → IsSize w32 (h0 + 65536 * h1) (joined mlo mhi) t
size_32 zero mlo mhi h0 h1 k r l e s m n = not_negative (omega arith) (omega (arith, e.0, e.1))
size_32 (suc zero) mlo mhi h0 h1 k r l e s m n = negative (omega arith) (omega arith) (omega (arith, e.0, e.1))
size_32 (suc (suc t)) mlo mhi h0 h1 k r l e s m n = absurd (no_sign t l)

-- results
pub outcome : (s vlo vhi zlo zhi k1 k2 : ℕ) → s ≤ 1 → Outcome s vlo vhi zlo zhi k1 k2 → vlo < 4294967296 → vhi < 4294967296 → zlo < 4294967296 → zhi < 4294967296 → IsBits (joined vlo vhi) (joined zlo zhi) s
outcome zero vlo vhi zlo zhi k1 k2 l e a b c d = same (omega (arith, e.0, e.1))
outcome (suc zero) vlo vhi zlo zhi k1 k2 l e a b c d = turned k2 (omega (arith, e.0, e.1)) (omega arith) (omega arith)
outcome (suc (suc s)) vlo vhi zlo zhi k1 k2 l e a b c d = absurd (no_sign s l)

-- the high half: kn is 0 where the low half is
pub high_outcome : (s low vlo vhi zlo zhi kn k1 k2 : ℕ) → s ≤ 1 → HighOutcome s vlo vhi zlo zhi kn k1 k2 → kn ≤ 1 → (kn ≡ 0 → low ≡ 0) → (kn ≡ 1 → 0 < low) → zlo < 4294967296 → zhi < 4294967296 → IsHigh low (joined vlo vhi) (joined zlo zhi) s
high_outcome zero low vlo vhi zlo zhi kn k1 k2 l e m p q c d = plain (omega (arith, e.0, e.1))
high_outcome (suc zero) low vlo vhi zlo zhi zero k1 k2 l e m p q c d = whole k2 (p refl) (omega (arith, e.0, e.1)) (omega arith)
high_outcome (suc zero) low vlo vhi zlo zhi (suc zero) k1 k2 l e m p q c d = parted k2 (q refl) (omega (arith, e.0, e.1)) (omega arith)
high_outcome (suc zero) low vlo vhi zlo zhi (suc (suc kn)) k1 k2 l e m p q c d = absurd (no_sign kn m)
high_outcome (suc (suc s)) low vlo vhi zlo zhi kn k1 k2 l e m p q c d = absurd (no_sign s l)

-- a quotient: the remainder is less than the divisor
pub divides : (n d q r w v g0 g1 g2 g3 kg rlo rhi ylo yhi : ℕ) → q * d + r ≡ w + 18446744073709551616 * v → v ≡ 0 → w ≡ n → r ≡ joined rlo rhi → d ≡ joined ylo yhi → rlo + g0 + 65536 * g1 + 1 ≡ ylo + 4294967296 * kg → rhi + g2 + 65536 * g3 + kg ≡ yhi → Divides n d q r
divides n d q r w v g0 g1 g2 g3 kg rlo rhi ylo yhi e z s er ed f g = record { is = omega arith; less = omega arith }

-- where the divisor is 0, the remainder is the dividend
pub undivided : (q d r w v : ℕ) → q * d + r ≡ w + 18446744073709551616 * v → v ≡ 0 → d ≡ 0 → w ≡ r
undivided q d r w v e z h = omega (arith, ap (λ k. q * k) h)

-- a divisor and its magnitude are 0 together
pub zero_64 : (b d t : ℕ) → IsSize w64 b d t → d ≡ 0 → b ≡ 0
zero_64 b d t (not_negative l e) z = omega arith
zero_64 b d t (negative l k e) z = absurd (omega arith)

pub some_64 : (b d t : ℕ) → IsSize w64 b d t → 0 < d → 0 < b
some_64 b d t (not_negative l e) z = omega arith
some_64 b d t (negative l k e) z = omega arith

pub zero_32 : (b d t : ℕ) → IsSize w32 b d t → d ≡ 0 → b ≡ 0
zero_32 b d t (not_negative l e) z = omega arith
zero_32 b d t (negative l k e) z = absurd (omega arith)

pub some_32 : (b d t : ℕ) → IsSize w32 b d t → 0 < d → 0 < b
some_32 b d t (not_negative l e) z = omega arith
some_32 b d t (negative l k e) z = omega arith

-- magnitudes of 32 bits
pub most_32 : (b d t : ℕ) → IsSize w32 b d t → d ≤ 2147483648
most_32 b d t (not_negative l e) = omega arith
most_32 b d t (negative l k e) = omega arith

pub same_limbs : (a b c d : ℕ) → a ≡ c → b ≡ d → joined c d ≡ joined a b
same_limbs a b c d e f = omega arith

pub all_ones : (lo hi : ℕ) → lo ≡ 4294967295 → hi ≡ 4294967295 → 18446744073709551615 ≡ joined lo hi
all_ones lo hi e f = omega arith
