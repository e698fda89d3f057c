-- The only word that stands for an instruction is its encoding, but for FENCE's words.
use Rattle.std.proofs.Common.{◌≡◌, ◌≢◌, ◌==◌, ◌+◌, ◌*◌, ◌^◌, ◌<◌, ℕ, pos, Bool, true, Option, Some, IfSome, List, [], ◌∷◌, refl, ap, subst, ◌∙◌, arith}
use Rattle.std.specs.List.{AllByRecursion, list_all}
use Rattle.std.proofs.lemmas.Bool.{eqb-true}
use Rattle.std.proofs.lemmas.Int.{ints}
use Rattle.std.proofs.lemmas.List.Elements.{All-from_recursion}
use Rattle.std.proofs.lemmas.List.Sums.{AllPass-from_list_all}
use Rattle.rv_word.specs.Fields.{bits_at, signed, i_imm, s_imm, b_imm, u_imm, j_imm}
use Rattle.rv_word.specs.Table.{Field, Row, rows, r_type, i_type, shift_type, shift_w_type, s_type, b_type, u_type, j_type, system_type, imm_op, reg_op}
use Rattle.rv_word.specs.Is.{Is, Has, Fits, decoded}
use Rattle.rv_word.specs.Numbers.{op_number, kind_number}
use Rattle.rv_word.specs.Encoding.{fields_sum, fixed_bits, low, s_bits, b_bits, j_bits, operand_bits, encoding}
use Rattle.rv_word.specs.declared.instr.Instr.{Instr}
use Rattle.rv_word.specs.declared.instr.Instr.TheVariants.{Lui, Jal, Jalr, Fence, Ecall}
use Rattle.rv_word.specs.declared.instr.Cond.TheVariants as conds
use Rattle.rv_word.specs.declared.instr.Kind.TheVariants as kinds
use Rattle.rv_word.specs.declared.instr.OpNo.TheVariants as ops
use Rattle.rv_word.specs.declared.instr.Instr.TheVariants as instrs
use Rattle.rv_word.proofs.Decoding.{by_rows, found}

i_low : (w : ℕ) → low 12 (i_imm w) ≡ bits_at 20 12 w
unfolding low signed bits_at
i_low w = grind (arith, ints)

s_low : (w : ℕ) → low 12 (s_imm w) ≡ 2 ^ 5 * bits_at 25 7 w + bits_at 7 5 w
unfolding low signed bits_at
s_low w = grind (arith, ints)

b_low : (w : ℕ) → low 13 (b_imm w) ≡ 2 ^ 12 * bits_at 31 1 w + 2 ^ 11 * bits_at 7 1 w + 2 ^ 5 * bits_at 25 6 w + 2 * bits_at 8 4 w
unfolding low signed bits_at
b_low w = grind (arith, ints)

u_low : (w : ℕ) → low 32 (u_imm w) ≡ 2 ^ 12 * bits_at 12 20 w
unfolding low signed bits_at
u_low w = grind (arith, ints)

j_low : (w : ℕ) → low 21 (j_imm w) ≡ 2 ^ 20 * bits_at 31 1 w + 2 ^ 12 * bits_at 12 8 w + 2 ^ 11 * bits_at 20 1 w + 2 * bits_at 21 10 w
unfolding low signed bits_at
j_low w = grind (arith, ints)

amount_6_low : (w : ℕ) → low 12 (pos (bits_at 20 6 w)) ≡ bits_at 20 6 w
unfolding low bits_at
amount_6_low w = grind (arith, ints)

amount_5_low : (w : ℕ) → low 12 (pos (bits_at 20 5 w)) ≡ bits_at 20 5 w
unfolding low bits_at
amount_5_low w = grind (arith, ints)

-- what the word has at the places of the fields, and all that a row reads from the word
abbrev fields_read : ℕ → List Field → ℕ
fields_read w [] = 0
fields_read w (f ∷ fs) = 2 ^ f.low * bits_at f.low f.len w + fields_read w fs

abbrev read_bits : ℕ → Row → ℕ
read_bits w r = fields_read w r.fields + operand_bits (r.instruction w)

fields_read-Has : (w : ℕ) (fs : List Field) → Has w fs → fields_sum fs ≡ fields_read w fs
fields_read-Has w [] h = refl
fields_read-Has w (f ∷ fs) h = rw (h.0, fields_read-Has w fs h.1) refl

-- each form reads all of the word
r_whole : (w : ℕ) → w < 2 ^ 32 → read_bits w (r_type 0 0 0 (reg_op ops.Add)) ≡ w
unfolding bits_at
r_whole w h = omega arith

i_whole : (w : ℕ) → w < 2 ^ 32 → read_bits w (i_type 0 0 Jalr) ≡ w
unfolding bits_at
i_whole w h = let n = i_low w in omega (arith, n)

shift_whole : (w : ℕ) → w < 2 ^ 32 → read_bits w (shift_type 0 0 0 (imm_op ops.Sll)) ≡ w
unfolding bits_at
shift_whole w h = let n = amount_6_low w in omega (arith, n)

shift_w_whole : (w : ℕ) → w < 2 ^ 32 → read_bits w (shift_w_type 0 0 0 (imm_op ops.Sllw)) ≡ w
unfolding bits_at
shift_w_whole w h = let n = amount_5_low w in omega (arith, n)

s_whole : (w : ℕ) → w < 2 ^ 32 → read_bits w (s_type 0 0 (instrs.Store kinds.Sb)) ≡ w
unfolding bits_at s_bits
s_whole w h = let n = s_low w in omega (arith, n)

b_whole : (w : ℕ) → w < 2 ^ 32 → read_bits w (b_type 0 0 (instrs.Branch conds.Eq)) ≡ w
unfolding bits_at b_bits
b_whole w h = let n = b_low w in omega (arith, n)

u_whole : (w : ℕ) → w < 2 ^ 32 → read_bits w (u_type 0 Lui) ≡ w
unfolding bits_at
u_whole w h = let n = u_low w in omega (arith, n)

j_whole : (w : ℕ) → w < 2 ^ 32 → read_bits w (j_type 0 Jal) ≡ w
unfolding bits_at j_bits
j_whole w h = let n = j_low w in omega (arith, n)

system_whole : (w : ℕ) → w < 2 ^ 32 → read_bits w (system_type 0 0 Ecall) ≡ w
unfolding bits_at
system_whole w h = omega arith

-- so does each row but FENCE's
abbrev IsWhole : Instr → ℕ → ℕ → Type 0
IsWhole Fence n w = Unit {0}
IsWhole _ n w = n ≡ w

rows_whole : (w : ℕ) → w < 2 ^ 32 → AllByRecursion (λ r. IsWhole (r.instruction w) (read_bits w r) w) rows
unfolding rows
rows_whole w h = assumption (r_whole w h, i_whole w h, shift_whole w h, shift_w_whole w h, s_whole w h, b_whole w h, u_whole w h, j_whole w h, system_whole w h)

-- each row is the row of the instructions that it reads
rows_fixed : (w : ℕ) → list_all (λ r. fixed_bits (r.instruction w) == fields_sum r.fields) rows ≡ true
unfolding rows fixed_bits op_number kind_number
rows_fixed w = refl

whole-not_fence : (i : Instr) (n w : ℕ) → i ≢ Fence → IsWhole i n w → n ≡ w
whole-not_fence Fence n w other h = absurd (other refl)
whole-not_fence _ n w other h = h

pub encoding-only : (w : ℕ) (i : Instr) → w < 2 ^ 32 → Is w i → i ≢ Fence → encoding i ≡ w
encoding-only w i h stands other =
    let Fixed : Row → Bool = λ r. fixed_bits (r.instruction w) == fields_sum r.fields in
    let Whole : Row → Type 0 = λ r. IsWhole (r.instruction w) (read_bits w r) w in
    let P : Row → Type 0 = λ r. (Fixed r ≡ true) × Whole r in
    let at = by_rows P w i (λ k d lt. (AllPass-from_list_all Fixed rows (rows_fixed w) k d lt, All-from_recursion Whole rows (rows_whole w h) k d lt)) stands in
    let fixed : fixed_bits i ≡ fields_read w (at.0).fields = ap fixed_bits at.3 ∙ eqb-true _ _ at.1.0 ∙ fields_read-Has w (at.0).fields at.2 in
    let operands : operand_bits i ≡ operand_bits ((at.0).instruction w) = ap (λ (i : Instr). operand_bits i) at.3 in
    let whole : read_bits w at.0 ≡ w = whole-not_fence ((at.0).instruction w) (read_bits w at.0) w (λ e. other (at.3 ∙ e)) at.1.1 in
    omega (arith, fixed, operands, whole)

fence_encoding : encoding Fence ≡ 0x0000000f
unfolding fixed_bits rows
fence_encoding = refl

fence_decoded : decoded 0x0000000f ≡ Some Fence
unfolding decoded rows bits_at
fence_decoded = refl

pub encoding-stands : (i : Instr) → Fits i → Is (encoding i) i
encoding-stands Fence fits =
    let P : Option Instr → Type 0 = λ o. IfSome o (λ i. Is 0x0000000f i) in rw fence_encoding (subst P fence_decoded (found 0x0000000f))
encoding-stands i (w, h, stands) = rw (encoding-only w i h stands (λ e. cc e)) stands

pub encoding-fence : (i : Instr) → i ≡ Fence → encoding i ≡ 0x0000000f
encoding-fence i e = ap (λ (i : Instr). encoding i) e ∙ fence_encoding
