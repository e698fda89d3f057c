-- What a load reads of a doubleword, and what a store leaves of it (RISC-V Unprivileged ISA, "Load and Store Instructions").
use Rattle.std.specs.Prelude.{List, take, drop, ◌++◌, ℕ, ◌+◌, ◌*◌, ◌/◌, ◌%◌, ◌^◌}
use Rattle.std.specs.Int.{cast_signed, cast_unsigned, to_le_bytes, from_le_bytes, w8, w16, w32, w64}
use Rattle.rv_word.specs.declared.instr.Kind.{Kind}
use Rattle.rv_word.specs.declared.instr.Kind.TheVariants.{Lb, Lh, Lw, Ld, Lbu, Lhu, Lwu, Sb, Sh, Sw, Sd}

-- how many bytes are moved
abbrev pub width : Kind → ℕ
width Lb = 1
width Lh = 2
width Lw = 4
width Ld = 8
width Lbu = 1
width Lhu = 2
width Lwu = 4
width Sb = 1
width Sh = 2
width Sw = 4
width Sd = 8

-- a doubleword's eight bytes, the lowest first
abbrev pub bytes : ℕ → List ℕ
bytes word = to_le_bytes w64 word

-- the n bytes of a doubleword from the byte off on, as a number
abbrev pub part : ℕ → ℕ → ℕ → ℕ
part n off old = old / 2 ^ (8 * off) % 2 ^ (8 * n)

-- the doubleword with the lowest n bytes of the value in place of those from off on
abbrev pub put : ℕ → ℕ → ℕ → ℕ → ℕ
put n off old value = from_le_bytes w64 (take off (bytes old) ++ take n (bytes value) ++ drop (off + n) (bytes old))

-- for a load what comes into the register, for a store the new doubleword
unfoldable pub aligned : Kind → ℕ → ℕ → ℕ → ℕ
aligned Lb off old value = cast_unsigned w64 (cast_signed w8 (part 1 off old))
aligned Lh off old value = cast_unsigned w64 (cast_signed w16 (part 2 off old))
aligned Lw off old value = cast_unsigned w64 (cast_signed w32 (part 4 off old))
aligned Ld off old value = old
aligned Lbu off old value = part 1 off old
aligned Lhu off old value = part 2 off old
aligned Lwu off old value = part 4 off old
aligned Sb off old value = put 1 off old value
aligned Sh off old value = put 2 off old value
aligned Sw off old value = put 4 off old value
aligned Sd off old value = value
