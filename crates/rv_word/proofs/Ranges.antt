-- The operands that are read from a word are in their ranges.
use Rattle.std.proofs.Common.{◌<◌, ℕ, pos, sym, subst, arith}
use Rattle.std.specs.List.{AllByRecursion}
use Rattle.std.proofs.lemmas.Int.{ints}
use Rattle.std.proofs.lemmas.List.Elements.{All-from_recursion}
use Rattle.rv_word.specs.Fields.{bits_at, signed, i_imm, s_imm, b_imm, u_imm, j_imm}
use Rattle.rv_word.specs.Table.{Row, rows}
use Rattle.rv_word.specs.Is.{Is}
use Rattle.rv_word.specs.Ranges.{IsSigned, IsAmount, InRange}
use Rattle.rv_word.specs.declared.instr.Instr.{Instr}
use Rattle.rv_word.proofs.Decoding.{by_rows}

register_below : (low w : ℕ) → bits_at low 5 w < 32
unfolding bits_at
register_below low w = omega arith

i_signed : (w : ℕ) → IsSigned 12 (i_imm w)
unfolding signed bits_at
i_signed w = grind (arith, ints)

s_signed : (w : ℕ) → IsSigned 12 (s_imm w)
unfolding signed bits_at
s_signed w = grind (arith, ints)

b_signed : (w : ℕ) → IsSigned 13 (b_imm w)
unfolding signed bits_at
b_signed w = grind (arith, ints)

u_signed : (w : ℕ) → IsSigned 32 (u_imm w)
unfolding signed bits_at
u_signed w = grind (arith, ints)

j_signed : (w : ℕ) → IsSigned 21 (j_imm w)
unfolding signed bits_at
j_signed w = grind (arith, ints)

amount_6 : (w : ℕ) → IsAmount 64 (pos (bits_at 20 6 w))
unfolding bits_at
amount_6 w = grind (arith, ints)

amount_5 : (w : ℕ) → IsAmount 32 (pos (bits_at 20 5 w))
unfolding bits_at
amount_5 w = grind (arith, ints)

rows_in_range : (w : ℕ) → AllByRecursion (λ r. InRange (r.instruction w)) rows
unfolding rows
rows_in_range w = assumption (register_below 7 w, register_below 15 w, register_below 20 w, i_signed w, s_signed w, b_signed w, u_signed w, j_signed w, amount_6 w, amount_5 w)

pub in_range : (w : ℕ) (i : Instr) → Is w i → InRange i
in_range w i h =
    let P : Row → Type 0 = λ r. InRange (r.instruction w) in
    let at = by_rows P w i (All-from_recursion P rows (rows_in_range w)) h in
    subst (λ (i : Instr). InRange i) (sym at.3) at.1
