-- The row that an operation has in Binary (docs/WITNESS.md, "Values").
use Rattle.std.specs.Prelude.{ℕ, zero, suc, ◌+◌, ◌-◌, ◌*◌, ◌/◌, ◌%◌, ◌^◌, ◌==◌, nat_lt, bit_and, Bool, true, false, cond, List, [], ◌∷◌, ◌++◌, sum}
use Rattle.std.specs.Int.{byte_at, to_le_bytes, w64}
use Rattle.rv_word.specs.declared.instr.OpNo.{OpNo}
use Rattle.rv_word.specs.declared.instr.OpNo.TheVariants as ops
use Rattle.rv_word.specs.Numbers.{op_number}
use Rattle.step_rows.specs.Words.{one_if, digits, flags}

-- the operations that subtract, and those that multiply the first operand, with the factor
abbrev pub subtracts : OpNo → Bool
subtracts ops.Sub = true
subtracts ops.Ltu = true
subtracts ops.Lt = true
subtracts ops.Eq = true
subtracts ops.Subw = true
subtracts _ = false

abbrev pub scales : OpNo → Bool
scales ops.Sh1add = true
scales ops.Sh2add = true
scales ops.Sh3add = true
scales _ = false

abbrev pub factor : OpNo → ℕ
factor ops.Sh1add = 2
factor ops.Sh2add = 4
factor ops.Sh3add = 8
factor _ = 1

-- `z`: the difference or the sum
abbrev pub worked : OpNo → ℕ → ℕ → ℕ
worked o a b = cond (subtracts o) ((a + (2 ^ 64 - b)) % 2 ^ 64) ((factor o * a + b) % 2 ^ 64)

-- what is borrowed from the low limb and from all 64 bits of a difference, and what is carried out of those of a sum
abbrev pub low_borrow : ℕ → ℕ → ℕ
low_borrow a b = one_if (nat_lt (a % 2 ^ 32) (b % 2 ^ 32))

abbrev pub high_borrow : ℕ → ℕ → ℕ
high_borrow a b = one_if (nat_lt a b)

abbrev pub low_carry : ℕ → ℕ → ℕ → ℕ
low_carry m a b = (m * (a % 2 ^ 32) + b % 2 ^ 32) / 2 ^ 32

abbrev pub high_carry : ℕ → ℕ → ℕ → ℕ
high_carry m a b = (m * (a / 2 ^ 32) + b / 2 ^ 32 + low_carry m a b) / 2 ^ 32

-- `k0` and `k1`: the borrows, or the carries of a sum without a factor
abbrev pub k0_of : OpNo → ℕ → ℕ → ℕ
k0_of o a b = cond (subtracts o) (low_borrow a b) (cond (scales o) 0 (low_carry 1 a b))

abbrev pub k1_of : OpNo → ℕ → ℕ → ℕ
k1_of o a b = cond (subtracts o) (high_borrow a b) (cond (scales o) 0 (high_carry 1 a b))

-- `j0` and `j1`: the carries of a sum with a factor
abbrev pub j0_of : OpNo → ℕ → ℕ → ℕ
j0_of o a b = cond (scales o) (low_carry (factor o) a b) 0

abbrev pub j1_of : OpNo → ℕ → ℕ → ℕ
j1_of o a b = cond (scales o) (high_carry (factor o) a b) 0

-- `eq`, and the number whose limbs are `e`: how much more than 1 the digits of the difference, or the bytes of b, come to
abbrev pub tells : OpNo → ℕ → ℕ → ℕ
tells ops.Eq a b = one_if (a == b)
tells ops.Czeqz a b = one_if (b == 0)
tells ops.Cznez a b = one_if (b == 0)
tells _ a b = 0

abbrev pub left_over : OpNo → ℕ → ℕ → ℕ
left_over ops.Eq a b = sum (digits (worked ops.Eq a b) 0 4) - 1
left_over ops.Czeqz a b = sum (to_le_bytes w64 b) - 1
left_over ops.Cznez a b = sum (to_le_bytes w64 b) - 1
left_over _ a b = 0

-- the n bytes of the bitwise and from byte k on
abbrev pub anded_from : ℕ → ℕ → ℕ → ℕ → List ℕ
anded_from k zero a b = []
anded_from k (suc n) a b = bit_and (byte_at k a) (byte_at k b) ∷ anded_from (suc k) n a b

-- from `sel` to `e`
abbrev pub binary_row : OpNo → ℕ → ℕ → List ℕ
binary_row o a b =
    1 ∷ flags (op_number o) 1 10 ++ (flags (op_number o) 30 5 ++ (to_le_bytes w64 a ++ (to_le_bytes w64 b ++ (anded_from 0 8 a b ++ (digits (worked o a b) 0 4 ++ (
    k0_of o a b ∷ k1_of o a b ∷ j0_of o a b ∷ j1_of o a b
    ∷ a / 2 ^ 63 ∷ a / 2 ^ 56 % 2 ^ 7 ∷ b / 2 ^ 63 ∷ b / 2 ^ 56 % 2 ^ 7 ∷ worked o a b / 2 ^ 31 % 2 ∷ worked o a b / 2 ^ 16 % 2 ^ 15
    ∷ tells o a b ∷ left_over o a b % 2 ^ 16 ∷ left_over o a b / 2 ^ 16 ∷ []))))))
