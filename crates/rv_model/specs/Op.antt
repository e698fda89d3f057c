-- The operations on 64-bit numbers (RISC-V Unprivileged ISA, "RV32I", "RV64I" and "M"; Zba, "Address generation
-- instructions"; Zicond, "Integer Conditional Operations").
use Rattle.std.specs.Prelude.{◌==◌, ℕ, ℤ, pos, ◌+◌, ◌-◌, ◌*◌, ◌/◌, ◌%◌, ◌^◌, ◌*ℤ◌, Bool, false, nat_lt, int_lt, bit_and, bit_or, bit_xor, int_div, int_rem, if◌then◌else◌}
use Rattle.std.specs.Int.{cast_signed, cast_unsigned, int_shr, w32, w64}
use Rattle.rv_word.specs.declared.instr.OpNo.{OpNo}
use Rattle.rv_word.specs.declared.instr.OpNo.TheVariants as ops

-- 64 bits, and the low 32 bits, read as two's complement
abbrev pub signed : ℕ → ℤ
signed a = cast_signed w64 a

abbrev pub signed_low : ℕ → ℤ
signed_low a = cast_signed w32 (a % 2 ^ 32)

-- the 64 bits of a signed number
abbrev pub bits_of : ℤ → ℕ
bits_of z = cast_unsigned w64 z

-- the low 32 bits, sign-extended
abbrev pub word : ℕ → ℕ
word n = bits_of (cast_signed w32 (n % 2 ^ 32))

-- what the comparisons tell; the other operations tell nothing
unfoldable pub flag_of : OpNo → ℕ → ℕ → Bool
flag_of ops.Ltu a b = nat_lt a b
flag_of ops.Lt a b = int_lt (signed a) (signed b)
flag_of ops.Eq a b = a == b
flag_of _ a b = false

unfoldable pub value_of : OpNo → ℕ → ℕ → ℕ
value_of ops.Add a b = (a + b) % 2 ^ 64
value_of ops.Sub a b = (a + (2 ^ 64 - b)) % 2 ^ 64
value_of ops.Ltu a b = if nat_lt a b then 1 else 0
value_of ops.Lt a b = if int_lt (signed a) (signed b) then 1 else 0
value_of ops.Eq a b = if a == b then 1 else 0
value_of ops.And a b = bit_and a b
value_of ops.Or a b = bit_or a b
value_of ops.Xor a b = bit_xor a b
value_of ops.Addw a b = word (a + b)
value_of ops.Subw a b = word (a + (2 ^ 64 - b))
value_of ops.Sll a b = a * 2 ^ (b % 64) % 2 ^ 64
value_of ops.Srl a b = a / 2 ^ (b % 64)
value_of ops.Sra a b = bits_of (int_shr (signed a) (b % 64))
value_of ops.Sllw a b = word (a % 2 ^ 32 * 2 ^ (b % 32))
value_of ops.Srlw a b = word (a % 2 ^ 32 / 2 ^ (b % 32))
value_of ops.Sraw a b = bits_of (int_shr (signed_low a) (b % 32))
value_of ops.Mul a b = a * b % 2 ^ 64
value_of ops.Mulh a b = bits_of (int_shr (signed a *ℤ signed b) 64)
value_of ops.Mulhsu a b = bits_of (int_shr (signed a *ℤ pos b) 64)
value_of ops.Mulhu a b = a * b / 2 ^ 64
value_of ops.Div a b = if b == 0 then 2 ^ 64 - 1 else bits_of (int_div (signed a) (signed b))
value_of ops.Divu a b = if b == 0 then 2 ^ 64 - 1 else a / b
value_of ops.Rem a b = if b == 0 then a else bits_of (int_rem (signed a) (signed b))
value_of ops.Remu a b = if b == 0 then a else a % b
value_of ops.Mulw a b = word (a * b)
value_of ops.Divw a b = if b % 2 ^ 32 == 0 then 2 ^ 64 - 1 else word (bits_of (int_div (signed_low a) (signed_low b)))
value_of ops.Divuw a b = if b % 2 ^ 32 == 0 then 2 ^ 64 - 1 else word (a % 2 ^ 32 / (b % 2 ^ 32))
value_of ops.Remw a b = if b % 2 ^ 32 == 0 then word a else bits_of (int_rem (signed_low a) (signed_low b))
value_of ops.Remuw a b = if b % 2 ^ 32 == 0 then word a else word (a % 2 ^ 32 % (b % 2 ^ 32))
value_of ops.Sh1add a b = (2 * a + b) % 2 ^ 64
value_of ops.Sh2add a b = (4 * a + b) % 2 ^ 64
value_of ops.Sh3add a b = (8 * a + b) % 2 ^ 64
value_of ops.Czeqz a b = if b == 0 then 0 else a
value_of ops.Cznez a b = if b == 0 then a else 0
