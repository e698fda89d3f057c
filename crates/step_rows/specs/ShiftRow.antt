-- The row that a shift has in Shift, and those of ShiftTab (docs/WITNESS.md, "Values").
-- The six shifts in order, SLL, SRL, SRA, SLLW, SRLW, SRAW, have the numbers n from 0 to 5.
use Rattle.std.specs.Prelude.{ℕ, ◌+◌, ◌-◌, ◌*◌, ◌/◌, ◌%◌, ◌^◌, ◌==◌, nat_lt, cond, List, [], ◌∷◌}
use Rattle.rv_word.specs.declared.instr.OpNo.{OpNo}
use Rattle.rv_word.specs.Numbers.{op_number}
use Rattle.rv_model.specs.Op.{value_of}

-- 1 for the right shifts, for those that copy the sign, and for those on 32 bits
abbrev pub right : ℕ → ℕ
right n = cond (n % 3 == 0) 0 1

abbrev pub signed : ℕ → ℕ
signed n = cond (n % 3 == 2) 1 0

abbrev pub wide : ℕ → ℕ
wide n = cond (nat_lt n 3) 0 1

-- by how much is shifted, where the low six bits of b are s
abbrev pub amount : ℕ → ℕ → ℕ
amount n s = cond (nat_lt n 3) s (s % 32)

-- 1 at the place j, and else 0
abbrev pub at_place : ℕ → ℕ → ℕ
at_place k j = cond (k == j) 1 0

-- by what each digit of 16 bits is multiplied, where the amount is t
abbrev pub factor : ℕ → ℕ → ℕ
factor n t = cond (n % 3 == 0) (2 ^ (t % 16)) (2 ^ (16 - t % 16))

-- ShiftTab's row of the shift n by the low six bits s of b
abbrev pub table_row : ℕ → ℕ → List ℕ
table_row n s =
    1 ∷ (11 + n) ∷ s ∷ right n ∷ signed n ∷ wide n
    ∷ at_place (amount n s / 16) 0 ∷ at_place (amount n s / 16) 1 ∷ at_place (amount n s / 16) 2 ∷ at_place (amount n s / 16) 3
    ∷ factor n (amount n s) ∷ []

-- the digit of a that has its sign, and the sign
abbrev pub top_digit : ℕ → ℕ → ℕ
top_digit n a = cond (nat_lt n 3) (a / 2 ^ 48 % 2 ^ 16) (a / 2 ^ 16 % 2 ^ 16)

abbrev pub sign : ℕ → ℕ → ℕ
sign n a = top_digit n a / 2 ^ 15

-- an upper digit as it is shifted: on 32 bits, the sign's
abbrev pub upper : ℕ → ℕ → ℕ → ℕ
upper n a digit = cond (nat_lt n 3) digit (signed n * sign n a * 65535)

-- by what the digits of a shift by b are multiplied, and what that makes of a digit
abbrev pub times_of : ℕ → ℕ → ℕ
times_of n b = factor n (amount n (b % 2 ^ 6))

abbrev pub high_of : ℕ → ℕ → ℕ
high_of digit m = digit * m / 2 ^ 16

abbrev pub low_of : ℕ → ℕ → ℕ
low_of digit m = digit * m % 2 ^ 16

-- the row of the shift n of a by b, whose value is v: from `sel` to `rr`
abbrev pub numbered_row : ℕ → ℕ → ℕ → ℕ → List ℕ
numbered_row n a b v =
    1 ∷ (11 + n) ∷ a % 2 ^ 16 ∷ a / 2 ^ 16 % 2 ^ 16 ∷ a / 2 ^ 32 % 2 ^ 16 ∷ a / 2 ^ 48 % 2 ^ 16
    ∷ b / 2 ^ 32 ∷ b % 2 ^ 6 ∷ b / 2 ^ 6 % 2 ^ 16 ∷ b / 2 ^ 22 % 2 ^ 10
    ∷ right n ∷ signed n ∷ wide n
    ∷ at_place (amount n (b % 2 ^ 6) / 16) 0 ∷ at_place (amount n (b % 2 ^ 6) / 16) 1 ∷ at_place (amount n (b % 2 ^ 6) / 16) 2 ∷ at_place (amount n (b % 2 ^ 6) / 16) 3
    ∷ times_of n b ∷ sign n a ∷ top_digit n a % 2 ^ 15
    ∷ high_of (a % 2 ^ 16) (times_of n b) ∷ high_of (a / 2 ^ 16 % 2 ^ 16) (times_of n b) ∷ high_of (upper n a (a / 2 ^ 32 % 2 ^ 16)) (times_of n b) ∷ high_of (upper n a (a / 2 ^ 48 % 2 ^ 16)) (times_of n b)
    ∷ low_of (a % 2 ^ 16) (times_of n b) ∷ low_of (a / 2 ^ 16 % 2 ^ 16) (times_of n b) ∷ low_of (upper n a (a / 2 ^ 32 % 2 ^ 16)) (times_of n b) ∷ low_of (upper n a (a / 2 ^ 48 % 2 ^ 16)) (times_of n b)
    ∷ v / 2 ^ 31 % 2 ∷ v / 2 ^ 16 % 2 ^ 15 ∷ []

-- the row of one of the six
abbrev pub shift_row : OpNo → ℕ → ℕ → List ℕ
shift_row o a b = numbered_row (op_number o - 11) a b (value_of o a b)
