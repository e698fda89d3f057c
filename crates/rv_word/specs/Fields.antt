-- The parts of a word: fields and immediates (RISC-V Unprivileged ISA, 2.2 and 2.3).
use Rattle.std.specs.Prelude.{ℕ, ◌+◌, ◌*◌, ◌/◌, ◌%◌, ◌^◌, ◌-ℤ◌, ℤ, pos, nat_lt, if◌then◌else◌}

-- len bits of the word, from bit low on
unfoldable pub bits_at : ℕ → ℕ → ℕ → ℕ
bits_at low len w = w / 2 ^ low % 2 ^ len

-- a number of len bits, read with its sign
unfoldable pub signed : ℕ → ℕ → ℤ
signed len n = if nat_lt n (2 ^ len / 2) then pos n else pos n -ℤ pos (2 ^ len)

-- the registers that the word names
abbrev pub rd_of : ℕ → ℕ
rd_of w = bits_at 7 5 w

abbrev pub rs1_of : ℕ → ℕ
rs1_of w = bits_at 15 5 w

abbrev pub rs2_of : ℕ → ℕ
rs2_of w = bits_at 20 5 w

-- the immediates, each by its bits from the highest down
abbrev pub i_imm : ℕ → ℤ
i_imm w = signed 12 (bits_at 20 12 w)

abbrev pub s_imm : ℕ → ℤ
s_imm w = signed 12 (2 ^ 5 * bits_at 25 7 w + bits_at 7 5 w)

abbrev pub b_imm : ℕ → ℤ
b_imm w = signed 13 (2 ^ 12 * bits_at 31 1 w + 2 ^ 11 * bits_at 7 1 w + 2 ^ 5 * bits_at 25 6 w + 2 * bits_at 8 4 w)

abbrev pub u_imm : ℕ → ℤ
u_imm w = signed 32 (2 ^ 12 * bits_at 12 20 w)

abbrev pub j_imm : ℕ → ℤ
j_imm w = signed 21 (2 ^ 20 * bits_at 31 1 w + 2 ^ 12 * bits_at 12 8 w + 2 ^ 11 * bits_at 20 1 w + 2 * bits_at 21 10 w)
