-- Bytes and digits of 64 bits.
use Rattle.std.proofs.Common.{◌≡◌, ◌<◌, ◌≤◌, ◌+◌, ◌*◌, ◌/◌, ◌%◌, ◌^◌, lit<, ℕ, zero, suc, ap, ◌∙◌, sym, subst, refl, arith, bit_and}
use Rattle.std.proofs.Math.Nat.{pow-le-pow_right, div-eq_of_lt}
use Rattle.std.proofs.lemmas.Nat.{and_mask, pow-add}
use Rattle.std.specs.Int.{byte_at}
use Rattle.step_rows.specs.Words.{digit}

bytes : (i : ℕ) → 2 ^ (8 * i) ≡ 256 ^ i
bytes zero = refl
bytes (suc i) = ap (λ n. 2 ^ n) (omega arith) ∙ pow-add 2 8 (8 * i) ∙ ap (λ n. 256 * n) (bytes i) ∙ omega arith

-- a byte, by a shift
shifted : (v i : ℕ) → v / 2 ^ (8 * i) % 256 ≡ byte_at i v
shifted v zero = omega arith
shifted v (suc i) = ap (λ n. v / n % 256) (bytes (suc i))

pub byte_is : (v i : ℕ) → bit_and (v / 2 ^ (8 * i)) 255 ≡ byte_at i v
byte_is v i = and_mask (v / 2 ^ (8 * i)) 8 ∙ shifted v i

past : (v low : ℕ) → v < 2 ^ 64 → 64 ≤ low → v / 2 ^ low ≡ 0
past v low h le =
    let long : 2 ^ 64 ≤ 2 ^ low = pow-le-pow_right (lit< tt) le in
    div-eq_of_lt (omega arith)

pub byte_past : (v i : ℕ) → v < 2 ^ 64 → 8 ≤ i → 0 ≡ byte_at i v
byte_past v i h le = ap (λ n. n % 256) (sym (past v (8 * i) h (omega arith))) ∙ shifted v i

pub digit_past : (v i : ℕ) → v < 2 ^ 64 → 4 ≤ i → 0 ≡ digit v i
digit_past v i h le = ap (λ n. n % 2 ^ 16) (sym (past v (16 * i) h (omega arith)))

pub ruleset parts = (byte_is, byte_past, digit_past)
