-- The memory of doublewords as a memory of bytes, the lowest byte first (RISC-V Unprivileged ISA, "Memory").
use Rattle.std.specs.Prelude.{◌≡◌, ◌&&◌, ℕ, ◌+◌, ◌-◌, ◌/◌, ◌%◌, [], ◌∷◌, slice_index, nat_lt, nat_le, if◌then◌else◌}
use Rattle.std.specs.Int.{cast_signed, cast_unsigned, from_le_bytes, w8, w16, w32, w64}
use Rattle.rv_word.specs.declared.instr.Kind.{Kind}
use Rattle.rv_word.specs.declared.instr.Kind.TheVariants.{Lb, Lh, Lw, Ld, Lbu, Lhu, Lwu, Sb, Sh, Sw, Sd}
use Rattle.rv_model.specs.Align.{bytes}
use Rattle.rv_model.specs.State.{with_word}

-- the byte of memory at an address
abbrev pub byte_at : (ℕ → ℕ) → ℕ → ℕ
byte_at word a = slice_index (bytes (word (a / 8))) (a % 8)

-- the numbers that the two, and the four, bytes from the address on make
abbrev pub half_at : (ℕ → ℕ) → ℕ → ℕ
half_at word a = from_le_bytes w16 (byte_at word a ∷ byte_at word (a + 1) ∷ [])

abbrev pub word_at : (ℕ → ℕ) → ℕ → ℕ
word_at word a = from_le_bytes w32 (byte_at word a ∷ byte_at word (a + 1) ∷ byte_at word (a + 2) ∷ byte_at word (a + 3) ∷ [])

-- after is the memory before with the lowest n bytes of the value from the address on
abbrev pub Writes : ℕ → ℕ → ℕ → (ℕ → ℕ) → (ℕ → ℕ) → Type 0
Writes n address value before after =
    (a : ℕ) → byte_at after a ≡ (if nat_le address a && nat_lt a (address + n) then slice_index (bytes value) (a - address) else byte_at before a)

-- what the result of an access says of the bytes of memory: a load reads them, a store writes them
abbrev pub ActsOnBytes : Kind → ℕ → ℕ → (ℕ → ℕ) → ℕ → Type 0
ActsOnBytes Lb address value word result = result ≡ cast_unsigned w64 (cast_signed w8 (byte_at word address))
ActsOnBytes Lh address value word result = result ≡ cast_unsigned w64 (cast_signed w16 (half_at word address))
ActsOnBytes Lw address value word result = result ≡ cast_unsigned w64 (cast_signed w32 (word_at word address))
ActsOnBytes Ld address value word result = bytes result ≡ bytes (word (address / 8))
ActsOnBytes Lbu address value word result = result ≡ byte_at word address
ActsOnBytes Lhu address value word result = result ≡ half_at word address
ActsOnBytes Lwu address value word result = result ≡ word_at word address
ActsOnBytes Sb address value word result = Writes 1 address value word (with_word word (address / 8) result)
ActsOnBytes Sh address value word result = Writes 2 address value word (with_word word (address / 8) result)
ActsOnBytes Sw address value word result = Writes 4 address value word (with_word word (address / 8) result)
ActsOnBytes Sd address value word result = Writes 8 address value word (with_word word (address / 8) result)
