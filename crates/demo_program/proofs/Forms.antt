-- The words of the forms that demo programs have: each encoding is the instruction's word.
use Rattle.std.proofs.Common.{◌≡◌, ◌+◌, ◌*◌, ◌/◌, ◌%◌, ◌^◌, ◌<◌, ℕ, ℤ, pos, ◌-ℤ◌, false, length, slice_index_or, refl, ap, sym, ◌∙◌, arith, lit<}
use Rattle.std.specs.List.{AllByRecursion}
use Rattle.std.proofs.lemmas.Int.{ints}
use Rattle.std.proofs.lemmas.List.Elements.{All-from_recursion}
use Rattle.rv_word.specs.Fields.{bits_at, signed}
use Rattle.rv_word.specs.Table.{rows, r_type, i_type, s_type, u_type, system_type, reg_op, imm_op}
use Rattle.rv_word.specs.Is.{Is}
use Rattle.rv_word.specs.Numbers.{op_number, kind_number}
use Rattle.rv_word.specs.Encoding.{fixed_bits, low, s_bits, operand_bits, encoding}
use Rattle.rv_word.specs.declared.instr.OpNo.{OpNo}
use Rattle.rv_word.specs.declared.instr.OpNo.TheVariants as ops
use Rattle.rv_word.specs.declared.instr.Kind.TheVariants.{Ld, Sd}
use Rattle.rv_word.specs.declared.instr.Instr.{Instr}
use Rattle.rv_word.specs.declared.instr.Instr.TheVariants.{Lui, Load, Store, OpImm, Op, Ecall}
use Rattle.demo_program.specs.Demo.{HasWord}
use Rattle.demo_program.specs.Program.{alu_operations, mul_operations}

-- the fields of a word of form R
record RFields (code f3 f7 rd rs1 rs2 w : ℕ) : Type 0 where
  code_is : w / 2 ^ 0 % 2 ^ 7 ≡ code
  f3_is : w / 2 ^ 12 % 2 ^ 3 ≡ f3
  f7_is : w / 2 ^ 25 % 2 ^ 7 ≡ f7
  rd_is : w / 2 ^ 7 % 2 ^ 5 ≡ rd
  rs1_is : w / 2 ^ 15 % 2 ^ 5 ≡ rs1
  rs2_is : w / 2 ^ 20 % 2 ^ 5 ≡ rs2

r_fields : (code f3 f7 rd rs1 rs2 w : ℕ) → code < 2 ^ 7 → f3 < 2 ^ 3 → f7 < 2 ^ 7 → rd < 32 → rs1 < 32 → rs2 < 32 → w ≡ (code + 2 ^ 12 * f3 + 2 ^ 25 * f7 + (2 ^ 7 * rd + 2 ^ 15 * rs1 + 2 ^ 20 * rs2)) % 2 ^ 32 → RFields code f3 f7 rd rs1 rs2 w
r_fields code f3 f7 rd rs1 rs2 w h0 h1 h2 h3 h4 h5 e = record {
  code_is = omega arith;
  f3_is = omega arith;
  f7_is = omega arith;
  rd_is = omega arith;
  rs1_is = omega arith;
  rs2_is = omega arith;
}

-- the word of an operation on two registers, in row k of the table
r_word : (o : OpNo) (k code f3 f7 rd rs1 rs2 : ℕ) → code < 2 ^ 7 → f3 < 2 ^ 3 → f7 < 2 ^ 7 → rd < 32 → rs1 < 32 → rs2 < 32 → fixed_bits (Op o rd rs1 rs2 false) ≡ code + 2 ^ 12 * f3 + 2 ^ 25 * f7 → k < length rows → slice_index_or rows k (r_type code f3 f7 (reg_op o)) ≡ r_type code f3 f7 (reg_op o) → HasWord (Op o rd rs1 rs2 false)
unfolding Is bits_at
r_word o k code f3 f7 rd rs1 rs2 h0 h1 h2 h3 h4 h5 fixed within at =
    let i : Instr = Op o rd rs1 rs2 false in
    let e : encoding i ≡ (code + 2 ^ 12 * f3 + 2 ^ 25 * f7 + (2 ^ 7 * rd + 2 ^ 15 * rs1 + 2 ^ 20 * rs2)) % 2 ^ 32 = ap (λ n. (n + operand_bits i) % 2 ^ 32) fixed in
    let f : RFields code f3 f7 rd rs1 rs2 (encoding i) = r_fields code f3 f7 rd rs1 rs2 (encoding i) h0 h1 h2 h3 h4 h5 e in
    ((k, r_type code f3 f7 (reg_op o), within, at, ((f.code_is, (f.f3_is, (f.f7_is, tt))), cc (f.rd_is, f.rs1_is, f.rs2_is))), λ n. cc n)

-- each operation that a draw may choose has a word, whatever its registers
abbrev pub HasWords : OpNo → Type 0
HasWords o = (rd rs1 rs2 : ℕ) → rd < 32 → rs1 < 32 → rs2 < 32 → HasWord (Op o rd rs1 rs2 false)

has_words : (o : OpNo) (k code f3 f7 : ℕ) → code < 2 ^ 7 → f3 < 2 ^ 3 → f7 < 2 ^ 7 → ((rd rs1 rs2 : ℕ) → fixed_bits (Op o rd rs1 rs2 false) ≡ code + 2 ^ 12 * f3 + 2 ^ 25 * f7) → k < length rows → slice_index_or rows k (r_type code f3 f7 (reg_op o)) ≡ r_type code f3 f7 (reg_op o) → HasWords o
has_words o k code f3 f7 h0 h1 h2 fixed within at rd rs1 rs2 h3 h4 h5 = r_word o k code f3 f7 rd rs1 rs2 h0 h1 h2 h3 h4 h5 (fixed rd rs1 rs2) within at

pub alu_words : AllByRecursion HasWords alu_operations
unfolding alu_operations rows fixed_bits op_number
alu_words = (
  has_words ops.Add 35 0x33 0 0x00 (lit< tt) (lit< tt) (lit< tt) (λ rd rs1 rs2. refl) (lit< tt) refl,
  (
    has_words ops.Sub 36 0x33 0 0x20 (lit< tt) (lit< tt) (lit< tt) (λ rd rs1 rs2. refl) (lit< tt) refl,
    (
      has_words ops.Lt 38 0x33 2 0x00 (lit< tt) (lit< tt) (lit< tt) (λ rd rs1 rs2. refl) (lit< tt) refl,
      (
        has_words ops.Ltu 39 0x33 3 0x00 (lit< tt) (lit< tt) (lit< tt) (λ rd rs1 rs2. refl) (lit< tt) refl,
        (
          has_words ops.Xor 40 0x33 4 0x00 (lit< tt) (lit< tt) (lit< tt) (λ rd rs1 rs2. refl) (lit< tt) refl,
          (
            has_words ops.Or 43 0x33 6 0x00 (lit< tt) (lit< tt) (lit< tt) (λ rd rs1 rs2. refl) (lit< tt) refl,
            (
              has_words ops.And 44 0x33 7 0x00 (lit< tt) (lit< tt) (lit< tt) (λ rd rs1 rs2. refl) (lit< tt) refl,
              (
                has_words ops.Sll 37 0x33 1 0x00 (lit< tt) (lit< tt) (lit< tt) (λ rd rs1 rs2. refl) (lit< tt) refl,
                (
                  has_words ops.Srl 41 0x33 5 0x00 (lit< tt) (lit< tt) (lit< tt) (λ rd rs1 rs2. refl) (lit< tt) refl,
                  (
                    has_words ops.Sra 42 0x33 5 0x20 (lit< tt) (lit< tt) (lit< tt) (λ rd rs1 rs2. refl) (lit< tt) refl,
                    (
                      has_words ops.Addw 45 0x3b 0 0x00 (lit< tt) (lit< tt) (lit< tt) (λ rd rs1 rs2. refl) (lit< tt) refl,
                      (
                        has_words ops.Subw 46 0x3b 0 0x20 (lit< tt) (lit< tt) (lit< tt) (λ rd rs1 rs2. refl) (lit< tt) refl,
                        (
                          has_words ops.Sllw 47 0x3b 1 0x00 (lit< tt) (lit< tt) (lit< tt) (λ rd rs1 rs2. refl) (lit< tt) refl,
                          (
                            has_words ops.Srlw 48 0x3b 5 0x00 (lit< tt) (lit< tt) (lit< tt) (λ rd rs1 rs2. refl) (lit< tt) refl,
                            (
                              has_words ops.Sraw 49 0x3b 5 0x20 (lit< tt) (lit< tt) (lit< tt) (λ rd rs1 rs2. refl) (lit< tt) refl,
                              tt,
                            ),
                          ),
                        ),
                      ),
                    ),
                  ),
                ),
              ),
            ),
          ),
        ),
      ),
    ),
  ),
)

pub mul_words : AllByRecursion HasWords mul_operations
unfolding mul_operations rows fixed_bits op_number
mul_words = (
  has_words ops.Mul 50 0x33 0 0x01 (lit< tt) (lit< tt) (lit< tt) (λ rd rs1 rs2. refl) (lit< tt) refl,
  (
    has_words ops.Mulh 51 0x33 1 0x01 (lit< tt) (lit< tt) (lit< tt) (λ rd rs1 rs2. refl) (lit< tt) refl,
    (
      has_words ops.Mulhsu 52 0x33 2 0x01 (lit< tt) (lit< tt) (lit< tt) (λ rd rs1 rs2. refl) (lit< tt) refl,
      (
        has_words ops.Mulhu 53 0x33 3 0x01 (lit< tt) (lit< tt) (lit< tt) (λ rd rs1 rs2. refl) (lit< tt) refl,
        (
          has_words ops.Div 54 0x33 4 0x01 (lit< tt) (lit< tt) (lit< tt) (λ rd rs1 rs2. refl) (lit< tt) refl,
          (
            has_words ops.Divu 55 0x33 5 0x01 (lit< tt) (lit< tt) (lit< tt) (λ rd rs1 rs2. refl) (lit< tt) refl,
            (
              has_words ops.Rem 56 0x33 6 0x01 (lit< tt) (lit< tt) (lit< tt) (λ rd rs1 rs2. refl) (lit< tt) refl,
              (
                has_words ops.Remu 57 0x33 7 0x01 (lit< tt) (lit< tt) (lit< tt) (λ rd rs1 rs2. refl) (lit< tt) refl,
                (
                  has_words ops.Mulw 58 0x3b 0 0x01 (lit< tt) (lit< tt) (lit< tt) (λ rd rs1 rs2. refl) (lit< tt) refl,
                  (
                    has_words ops.Divw 59 0x3b 4 0x01 (lit< tt) (lit< tt) (lit< tt) (λ rd rs1 rs2. refl) (lit< tt) refl,
                    (
                      has_words ops.Divuw 60 0x3b 5 0x01 (lit< tt) (lit< tt) (lit< tt) (λ rd rs1 rs2. refl) (lit< tt) refl,
                      (
                        has_words ops.Remw 61 0x3b 6 0x01 (lit< tt) (lit< tt) (lit< tt) (λ rd rs1 rs2. refl) (lit< tt) refl,
                        (
                          has_words ops.Remuw 62 0x3b 7 0x01 (lit< tt) (lit< tt) (lit< tt) (λ rd rs1 rs2. refl) (lit< tt) refl,
                          tt,
                        ),
                      ),
                    ),
                  ),
                ),
              ),
            ),
          ),
        ),
      ),
    ),
  ),
)

-- the fields of a word of form I, with an immediate's twelve bits
record IFields (code f3 rd rs1 imm w : ℕ) : Type 0 where
  code_is : w / 2 ^ 0 % 2 ^ 7 ≡ code
  f3_is : w / 2 ^ 12 % 2 ^ 3 ≡ f3
  rd_is : w / 2 ^ 7 % 2 ^ 5 ≡ rd
  rs1_is : w / 2 ^ 15 % 2 ^ 5 ≡ rs1
  imm_is : w / 2 ^ 20 % 2 ^ 12 ≡ imm

i_fields : (code f3 rd rs1 imm w : ℕ) → code < 2 ^ 7 → f3 < 2 ^ 3 → rd < 32 → rs1 < 32 → imm < 2 ^ 12 → w ≡ (code + 2 ^ 12 * f3 + (2 ^ 7 * rd + 2 ^ 15 * rs1 + 2 ^ 20 * imm)) % 2 ^ 32 → IFields code f3 rd rs1 imm w
i_fields code f3 rd rs1 imm w h0 h1 h2 h3 h4 e = record {
  code_is = omega arith;
  f3_is = omega arith;
  rd_is = omega arith;
  rs1_is = omega arith;
  imm_is = omega arith;
}

-- an immediate of twelve bits, as its bits and back
low_below : (z : ℤ) → low 12 z < 2 ^ 12
unfolding low
low_below z = omega arith

shifted_low : (m : ℕ) → m < 4096 → low 12 (pos m -ℤ pos 2048) ≡ (m + 2048) % 4096
unfolding low
shifted_low m h = grind (arith, ints)

shifted_back : (m : ℕ) → m < 4096 → signed 12 ((m + 2048) % 4096) ≡ pos m -ℤ pos 2048
unfolding signed
shifted_back m h = grind (arith, ints)

plain_low : (n : ℕ) → n < 2048 → low 12 (pos n) ≡ n
unfolding low
plain_low n h = grind (arith, ints)

plain_back : (n : ℕ) → n < 2048 → signed 12 n ≡ pos n
unfolding signed
plain_back n h = grind (arith, ints)

-- ADDI and LD, whose immediate is what its low bits are read as
addi_fixed : (rd rs1 : ℕ) (z : ℤ) → fixed_bits (OpImm ops.Add rd rs1 z false) ≡ 0x13 + 2 ^ 12 * 0
unfolding rows fixed_bits op_number
addi_fixed rd rs1 z = refl

addi_row : slice_index_or rows 21 (i_type 0x13 0 (imm_op ops.Add)) ≡ i_type 0x13 0 (imm_op ops.Add)
unfolding rows
addi_row = refl

within : (k : ℕ) → k < 75 → k < length rows
unfolding rows
within k h = h

addi_word : (rd rs1 : ℕ) (z : ℤ) → rd < 32 → rs1 < 32 → signed 12 (low 12 z) ≡ z → HasWord (OpImm ops.Add rd rs1 z false)
unfolding Is bits_at
addi_word rd rs1 z h0 h1 back =
    let i : Instr = OpImm ops.Add rd rs1 z false in
    let e : encoding i ≡ (0x13 + 2 ^ 12 * 0 + (2 ^ 7 * rd + 2 ^ 15 * rs1 + 2 ^ 20 * low 12 z)) % 2 ^ 32 = ap (λ n. (n + operand_bits i) % 2 ^ 32) (addi_fixed rd rs1 z) in
    let f : IFields 0x13 0 rd rs1 (low 12 z) (encoding i) = i_fields 0x13 0 rd rs1 (low 12 z) (encoding i) (lit< tt) (lit< tt) h0 h1 (low_below z) e in
    let imm : z ≡ signed 12 (encoding i / 2 ^ 20 % 2 ^ 12) = sym (ap (signed 12) f.imm_is ∙ back) in
    ((21, i_type 0x13 0 (imm_op ops.Add), within 21 (lit< tt), addi_row, ((f.code_is, (f.f3_is, tt)), cc (f.rd_is, f.rs1_is, imm))), λ n. cc n)

pub set_word : (rd m : ℕ) → rd < 32 → m < 4096 → HasWord (OpImm ops.Add rd 0 (pos m -ℤ pos 2048) false)
set_word rd m h less = addi_word rd 0 _ h (lit< tt) (ap (signed 12) (shifted_low m less) ∙ shifted_back m less)

pub set_plain_word : (rd n : ℕ) → rd < 32 → n < 2048 → HasWord (OpImm ops.Add rd 0 (pos n) false)
set_plain_word rd n h less = addi_word rd 0 _ h (lit< tt) (ap (signed 12) (plain_low n less) ∙ plain_back n less)

ld_fixed : (rd rs1 : ℕ) (z : ℤ) → fixed_bits (Load Ld rd rs1 z) ≡ 0x03 + 2 ^ 12 * 3
unfolding rows fixed_bits kind_number
ld_fixed rd rs1 z = refl

ld_row : slice_index_or rows 13 (i_type 0x03 3 (Load Ld)) ≡ i_type 0x03 3 (Load Ld)
unfolding rows
ld_row = refl

pub load_word : (rd rs1 n : ℕ) → rd < 32 → rs1 < 32 → n < 2048 → HasWord (Load Ld rd rs1 (pos n))
unfolding Is bits_at
load_word rd rs1 n h0 h1 less =
    let z : ℤ = pos n in
    let i : Instr = Load Ld rd rs1 z in
    let e : encoding i ≡ (0x03 + 2 ^ 12 * 3 + (2 ^ 7 * rd + 2 ^ 15 * rs1 + 2 ^ 20 * low 12 z)) % 2 ^ 32 = ap (λ n. (n + operand_bits i) % 2 ^ 32) (ld_fixed rd rs1 z) in
    let f : IFields 0x03 3 rd rs1 (low 12 z) (encoding i) = i_fields 0x03 3 rd rs1 (low 12 z) (encoding i) (lit< tt) (lit< tt) h0 h1 (low_below z) e in
    let imm : z ≡ signed 12 (encoding i / 2 ^ 20 % 2 ^ 12) = sym (ap (signed 12) (f.imm_is ∙ plain_low n less) ∙ plain_back n less) in
    ((13, i_type 0x03 3 (Load Ld), within 13 (lit< tt), ld_row, ((f.code_is, (f.f3_is, tt)), cc (f.rd_is, f.rs1_is, imm))), λ n. cc n)

-- SD
record SFields (code f3 rs1 rs2 imm w : ℕ) : Type 0 where
  code_is : w / 2 ^ 0 % 2 ^ 7 ≡ code
  f3_is : w / 2 ^ 12 % 2 ^ 3 ≡ f3
  rs1_is : w / 2 ^ 15 % 2 ^ 5 ≡ rs1
  rs2_is : w / 2 ^ 20 % 2 ^ 5 ≡ rs2
  imm_is : 2 ^ 5 * (w / 2 ^ 25 % 2 ^ 7) + w / 2 ^ 7 % 2 ^ 5 ≡ imm

s_fields : (code f3 rs1 rs2 imm w : ℕ) → code < 2 ^ 7 → f3 < 2 ^ 3 → rs1 < 32 → rs2 < 32 → imm < 2 ^ 12 → w ≡ (code + 2 ^ 12 * f3 + (2 ^ 15 * rs1 + 2 ^ 20 * rs2 + (2 ^ 25 * (imm / 2 ^ 5) + 2 ^ 7 * (imm % 2 ^ 5)))) % 2 ^ 32 → SFields code f3 rs1 rs2 imm w
s_fields code f3 rs1 rs2 imm w h0 h1 h2 h3 h4 e = record {
  code_is = omega arith;
  f3_is = omega arith;
  rs1_is = omega arith;
  rs2_is = omega arith;
  imm_is = omega arith;
}

sd_fixed : (rs1 rs2 : ℕ) (z : ℤ) → fixed_bits (Store Sd rs1 rs2 z) ≡ 0x23 + 2 ^ 12 * 3
unfolding rows fixed_bits kind_number
sd_fixed rs1 rs2 z = refl

sd_row : slice_index_or rows 20 (s_type 0x23 3 (Store Sd)) ≡ s_type 0x23 3 (Store Sd)
unfolding rows
sd_row = refl

pub store_word : (rs1 rs2 n : ℕ) → rs1 < 32 → rs2 < 32 → n < 2048 → HasWord (Store Sd rs1 rs2 (pos n))
unfolding Is bits_at s_bits
store_word rs1 rs2 n h0 h1 less =
    let z : ℤ = pos n in
    let i : Instr = Store Sd rs1 rs2 z in
    let e : encoding i ≡ (0x23 + 2 ^ 12 * 3 + (2 ^ 15 * rs1 + 2 ^ 20 * rs2 + (2 ^ 25 * (low 12 z / 2 ^ 5) + 2 ^ 7 * (low 12 z % 2 ^ 5)))) % 2 ^ 32 = ap (λ n. (n + operand_bits i) % 2 ^ 32) (sd_fixed rs1 rs2 z) in
    let f : SFields 0x23 3 rs1 rs2 (low 12 z) (encoding i) = s_fields 0x23 3 rs1 rs2 (low 12 z) (encoding i) (lit< tt) (lit< tt) h0 h1 (low_below z) e in
    let w : ℕ = encoding i in
    let imm : z ≡ signed 12 (2 ^ 5 * (w / 2 ^ 25 % 2 ^ 7) + w / 2 ^ 7 % 2 ^ 5) = sym (ap (signed 12) (f.imm_is ∙ plain_low n less) ∙ plain_back n less) in
    ((20, s_type 0x23 3 (Store Sd), within 20 (lit< tt), sd_row, ((f.code_is, (f.f3_is, tt)), cc (f.rs1_is, f.rs2_is, imm))), λ n. cc n)

-- LUI of the two pages, and ECALL
pub low_base_word : HasWord (Lui 5 (pos (0x60000 * 2 ^ 12)))
unfolding Is bits_at signed low rows fixed_bits
low_base_word = ((0, u_type 0x37 Lui, lit< tt, refl, ((refl, tt), refl)), λ n. cc n)

pub output_base_word : HasWord (Lui 5 (pos (0x50000 * 2 ^ 12)))
unfolding Is bits_at signed low rows fixed_bits
output_base_word = ((0, u_type 0x37 Lui, lit< tt, refl, ((refl, tt), refl)), λ n. cc n)

pub ecall_word : HasWord Ecall
unfolding Is bits_at rows fixed_bits
ecall_word = ((73, system_type 0x73 0x0000 Ecall, lit< tt, refl, ((refl, (refl, tt)), refl)), λ n. cc n)

pub alu_known : (k : ℕ) → k < 15 → HasWords (slice_index_or alu_operations k ops.Add)
unfolding alu_operations
alu_known k h = All-from_recursion HasWords alu_operations alu_words k ops.Add h

pub mul_known : (k : ℕ) → k < 13 → HasWords (slice_index_or mul_operations k ops.Mul)
unfolding mul_operations
mul_known k h = All-from_recursion HasWords mul_operations mul_words k ops.Mul h
