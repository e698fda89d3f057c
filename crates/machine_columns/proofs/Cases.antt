-- Facts of the first numbers, one by one.
use Rattle.std.proofs.Common.{ℕ, zero, suc, ◌<◌, arith}

abbrev pub First : (ℕ → Type 0) → ℕ → Type 0
First P zero = Unit {0}
First P (suc n) = P zero × First (λ s. P (suc s)) n

pub first_at : (P : ℕ → Type 0) (n : ℕ) → First P n → (s : ℕ) → s < n → P s
first_at P zero f s l = absurd (omega arith)
first_at P (suc n) f zero l = f.0
first_at P (suc n) f (suc s) l = first_at (λ s. P (suc s)) n f.1 s (omega arith)
