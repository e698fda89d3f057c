-- A step over doublewords is a step over bytes.
use Rattle.std.proofs.Common.{◌≡◌, ◌==◌, ◌+◌, ◌*◌, ◌/◌, ◌%◌, ◌^◌, ◌<◌, ℕ, Bool, true, false, nat_lt, if◌then◌else◌, get_or, Option, Some, None, IfSome, refl, ap, sym, ◌∙◌, arith}
use Rattle.std.proofs.Math.Path.{fun_ext}
use Rattle.std.proofs.lemmas.Bool.{eqb-true}
use Rattle.std.proofs.lemmas.Nat.{from_le_bytes-to_le_bytes_8}
use Rattle.std.specs.Int.{cast_signed, cast_unsigned, w8, w16, w32, w64}
use Rattle.rv_word.specs.declared.instr.Kind.{Kind}
use Rattle.rv_word.specs.declared.instr.Kind.TheVariants.{Lb, Lh, Lw, Ld, Lbu, Lhu, Lwu, Sb, Sh, Sw, Sd}
use Rattle.rv_word.specs.declared.instr.Instr.{Instr}
use Rattle.rv_word.specs.declared.instr.Instr.TheVariants.{Lui, Auipc, Jal, Jalr, Branch, Load, Store, OpImm, Op, Fence, Ecall, Ebreak}
use Rattle.rv_word.specs.Is.{decoded}
use Rattle.rv_word.specs.Ranges.{InRange, IsLoadKind, IsStoreKind}
use Rattle.rv_model.specs.Image.{Img, fetch}
use Rattle.rv_model.specs.Align.{width, bytes, aligned}
use Rattle.rv_model.specs.Bytes.{byte_at}
use Rattle.rv_model.specs.State.{State, Answer, Next, Halt, Fault, executed, executed_word, executed_fetch, step, with_reg, with_word, wrapped, load, store}
use Rattle.rv_model.specs.Cpu.{cpu_of, memory_after}
use Rattle.rv_model.specs.ByteMachine.{ByteState, ByteAnswer, number_at, extended, with_bytes, byte_executed, byte_executed_word, byte_executed_fetch, byte_step, beside, by_bytes, answer_by_bytes, HasDoublewords}
use Rattle.rv_model.specs.ByteMachine as machine
use Rattle.rv_model.specs.declared.machine.TheConstants.{MEMORY_END}
use Rattle.rv_model.proofs.Apart.{remembered, executed_apart}
use Rattle.rv_model.proofs.ByteMemory.{acts_on_bytes, byte_next}

-- bytes as one sum, and as a number read from the lowest byte on
one : (b : ℕ → ℕ) (a : ℕ) → b a ≡ number_at 1 b a
one b a = omega arith

two : (b : ℕ → ℕ) (a : ℕ) → b a + b (a + 1) * 256 ≡ number_at 2 b a
two b a = omega arith

four : (b : ℕ → ℕ) (a : ℕ) → b a + b (a + 1) * 256 + b (a + 2) * 65536 + b (a + 3) * 16777216 ≡ number_at 4 b a
four b a =
    let e2 : a + 1 + 1 ≡ a + 2 = omega arith in
    let e3 : a + 2 + 1 ≡ a + 3 = omega arith in
    rw (e2, e3) (omega arith)

eight : (b : ℕ → ℕ) (a : ℕ) → b a + b (a + 1) * 256 + b (a + 2) * 65536 + b (a + 3) * 16777216 + b (a + 4) * 4294967296 + b (a + 5) * 1099511627776 + b (a + 6) * 281474976710656 + b (a + 7) * 72057594037927936 ≡ number_at 8 b a
eight b a =
    let e2 : a + 1 + 1 ≡ a + 2 = omega arith in
    let e3 : a + 2 + 1 ≡ a + 3 = omega arith in
    let e4 : a + 3 + 1 ≡ a + 4 = omega arith in
    let e5 : a + 4 + 1 ≡ a + 5 = omega arith in
    let e6 : a + 5 + 1 ≡ a + 6 = omega arith in
    let e7 : a + 6 + 1 ≡ a + 7 = omega arith in
    rw (e2, e3, e4, e5, e6, e7) (omega arith)

same_sum : (x0 x1 x2 x3 x4 x5 x6 x7 y0 y1 y2 y3 y4 y5 y6 y7 : ℕ) → x0 ≡ y0 → x1 ≡ y1 → x2 ≡ y2 → x3 ≡ y3 → x4 ≡ y4 → x5 ≡ y5 → x6 ≡ y6 → x7 ≡ y7 → x0 + x1 * 256 + x2 * 65536 + x3 * 16777216 + x4 * 4294967296 + x5 * 1099511627776 + x6 * 281474976710656 + x7 * 72057594037927936 ≡ y0 + y1 * 256 + y2 * 65536 + y3 * 16777216 + y4 * 4294967296 + y5 * 1099511627776 + y6 * 281474976710656 + y7 * 72057594037927936
same_sum x0 x1 x2 x3 x4 x5 x6 x7 y0 y1 y2 y3 y4 y5 y6 y7 e0 e1 e2 e3 e4 e5 e6 e7 = rw (e0, e1, e2, e3, e4, e5, e6, e7) refl

-- the bytes of a doubleword make it
double_number : (word : ℕ → ℕ) (a : ℕ) → a % 8 ≡ 0 → word (a / 8) < 2 ^ 64 → word (a / 8) ≡ number_at 8 (byte_at word) a
double_number word a multiple fits =
    let at : (k : ℕ) → a % 8 + k < 8 → get_or (bytes (word (a / 8))) (a % 8 + k) 0 ≡ byte_at word (a + k) = byte_next word a in
    let here : (k : ℕ) → k < 8 → get_or (bytes (word (a / 8))) k 0 ≡ byte_at word (a + k) = λ k below. let place : a % 8 + k ≡ k = omega arith in rw place at (at k (omega arith)) in
    let none : a + 0 ≡ a = omega arith in
    sym (from_le_bytes-to_le_bytes_8 (word (a / 8)) fits)
    ∙ same_sum _ _ _ _ _ _ _ _ _ _ _ _ _ _ _ _ (rw none at (here 0 (omega arith))) (here 1 (omega arith)) (here 2 (omega arith)) (here 3 (omega arith)) (here 4 (omega arith)) (here 5 (omega arith)) (here 6 (omega arith)) (here 7 (omega arith))
    ∙ eight (byte_at word) a

-- what a load of the kind gives
loaded : (kind : Kind) (a : ℕ) (word : ℕ → ℕ) → IsLoadKind kind → a % width kind ≡ 0 → word (a / 8) < 2 ^ 64 → aligned kind (a % 8) (word (a / 8)) 0 ≡ extended kind (number_at (width kind) (byte_at word) a)
unfolding aligned
loaded Lb a word is multiple fits = acts_on_bytes Lb a 0 word multiple ∙ ap (λ n. cast_unsigned w64 (cast_signed w8 n)) (one (byte_at word) a)
loaded Lh a word is multiple fits = acts_on_bytes Lh a 0 word multiple ∙ ap (λ n. cast_unsigned w64 (cast_signed w16 n)) (two (byte_at word) a)
loaded Lw a word is multiple fits = acts_on_bytes Lw a 0 word multiple ∙ ap (λ n. cast_unsigned w64 (cast_signed w32 n)) (four (byte_at word) a)
loaded Ld a word is multiple fits = double_number word a multiple fits
loaded Lbu a word is multiple fits = acts_on_bytes Lbu a 0 word multiple ∙ one (byte_at word) a
loaded Lhu a word is multiple fits = acts_on_bytes Lhu a 0 word multiple ∙ two (byte_at word) a
loaded Lwu a word is multiple fits = acts_on_bytes Lwu a 0 word multiple ∙ four (byte_at word) a
loaded Sb a word is multiple fits = absurd is
loaded Sh a word is multiple fits = absurd is
loaded Sw a word is multiple fits = absurd is
loaded Sd a word is multiple fits = absurd is

-- what a store of the kind leaves
stored : (kind : Kind) (a value : ℕ) (word : ℕ → ℕ) → IsStoreKind kind → a % width kind ≡ 0 → byte_at (with_word word (a / 8) (aligned kind (a % 8) (word (a / 8)) value)) ≡ with_bytes (width kind) a value (byte_at word)
stored Sb a value word is multiple = fun_ext (acts_on_bytes Sb a value word multiple)
stored Sh a value word is multiple = fun_ext (acts_on_bytes Sh a value word multiple)
stored Sw a value word is multiple = fun_ext (acts_on_bytes Sw a value word multiple)
stored Sd a value word is multiple = fun_ext (acts_on_bytes Sd a value word multiple)
stored Lb a value word is multiple = absurd is
stored Lh a value word is multiple = absurd is
stored Lw a value word is multiple = absurd is
stored Ld a value word is multiple = absurd is
stored Lbu a value word is multiple = absurd is
stored Lhu a value word is multiple = absurd is
stored Lwu a value word is multiple = absurd is

-- two guards: what stands under both need agree only where the first holds
under_guards : (b d : Bool) (p q r : Answer) (s : ByteAnswer) → (b ≡ true → answer_by_bytes p ≡ s) → answer_by_bytes (if b then (if d then p else q) else r) ≡ (if b then (if d then s else answer_by_bytes q) else answer_by_bytes r)
under_guards true true p q r s h = h refl
under_guards true false p q r s h = refl
under_guards false d p q r s h = refl

load_by_bytes : (s : State) (kind : Kind) (rd a : ℕ) → IsLoadKind kind → s.word (a / 8) < 2 ^ 64 → answer_by_bytes (load s kind rd a) ≡ machine.load (by_bytes s) kind rd a
unfolding load
load_by_bytes s kind rd a is fits =
    under_guards (a % width kind == 0) (nat_lt a MEMORY_END) _ _ _ _ (λ p.
    ap (λ v. machine.Next (record { pc = wrapped (s.pc + 4); x = with_reg s.x rd v; byte = byte_at s.word })) (loaded kind a s.word is (eqb-true _ _ p) fits))

store_by_bytes : (s : State) (kind : Kind) (a value : ℕ) → IsStoreKind kind → answer_by_bytes (store s kind a value) ≡ machine.store (by_bytes s) kind a value
unfolding store
store_by_bytes s kind a value is =
    under_guards (a % width kind == 0) (nat_lt a MEMORY_END) _ _ _ _ (λ p.
    ap (λ m. machine.Next (record { pc = wrapped (s.pc + 4); x = s.x; byte = m })) (stored kind a value s.word is (eqb-true _ _ p)))

remembered_by_bytes : (a : Answer) (word : ℕ → ℕ) → answer_by_bytes (remembered a word) ≡ beside a (byte_at word)
remembered_by_bytes (Next t) word = refl
remembered_by_bytes Halt word = refl
remembered_by_bytes (Fault f) word = refl

-- an instruction that touches no memory
other : (i : Instr) (s : State) → memory_after i s ≡ s.word → (executed i s ≡ remembered (executed i (record { pc = s.pc; x = s.x; word = λ _. 0 })) (memory_after i s)) → answer_by_bytes (executed i s) ≡ beside (executed i (record { pc = s.pc; x = s.x; word = λ _. 0 })) (byte_at s.word)
other i s kept is = ap answer_by_bytes is ∙ remembered_by_bytes _ _ ∙ ap (λ m. beside (executed i (record { pc = s.pc; x = s.x; word = λ _. 0 })) (byte_at m)) kept

executed_by_bytes : (i : Instr) (s : State) → InRange i → HasDoublewords s → answer_by_bytes (executed i s) ≡ byte_executed i (by_bytes s)
executed_by_bytes (Load kind rd rs1 imm) s range fits = load_by_bytes s kind rd _ range.0 (fits _)
executed_by_bytes (Store kind rs1 rs2 imm) s range fits = store_by_bytes s kind _ _ range.0
executed_by_bytes (Lui rd imm) s range fits = other (Lui rd imm) s refl (executed_apart (Lui rd imm) (cpu_of s) 0 s.word tt)
executed_by_bytes (Auipc rd imm) s range fits = other (Auipc rd imm) s refl (executed_apart (Auipc rd imm) (cpu_of s) 0 s.word tt)
executed_by_bytes (Jal rd imm) s range fits = other (Jal rd imm) s refl (executed_apart (Jal rd imm) (cpu_of s) 0 s.word tt)
executed_by_bytes (Jalr rd rs1 imm) s range fits = other (Jalr rd rs1 imm) s refl (executed_apart (Jalr rd rs1 imm) (cpu_of s) 0 s.word tt)
executed_by_bytes (Branch cond rs1 rs2 imm) s range fits = other (Branch cond rs1 rs2 imm) s refl (executed_apart (Branch cond rs1 rs2 imm) (cpu_of s) 0 s.word tt)
executed_by_bytes (OpImm op rd rs1 imm uw) s range fits = other (OpImm op rd rs1 imm uw) s refl (executed_apart (OpImm op rd rs1 imm uw) (cpu_of s) 0 s.word tt)
executed_by_bytes (Op op rd rs1 rs2 uw) s range fits = other (Op op rd rs1 rs2 uw) s refl (executed_apart (Op op rd rs1 rs2 uw) (cpu_of s) 0 s.word tt)
executed_by_bytes Fence s range fits = refl
executed_by_bytes Ecall s range fits = other Ecall s refl (executed_apart Ecall (cpu_of s) 0 s.word tt)
executed_by_bytes Ebreak s range fits = refl

word_by_bytes : (o : Option Instr) (w : ℕ) (s : State) → IfSome o InRange → HasDoublewords s → answer_by_bytes (executed_word o w s) ≡ byte_executed_word o w (by_bytes s)
word_by_bytes None w s range fits = refl
word_by_bytes (Some i) w s range fits = executed_by_bytes i s range fits

fetch_by_bytes : (o : Option ℕ) (s : State) → ((w : ℕ) → IfSome (decoded w) InRange) → HasDoublewords s → answer_by_bytes (executed_fetch o s) ≡ byte_executed_fetch o (by_bytes s)
fetch_by_bytes None s range fits = refl
fetch_by_bytes (Some w) s range fits = word_by_bytes (decoded w) w s (range w) fits

pub step_by_bytes : ((w : ℕ) → IfSome (decoded w) InRange) → (image : Img) (s : State) → HasDoublewords s → byte_step image (by_bytes s) ≡ answer_by_bytes (step image s)
unfolding step byte_step
step_by_bytes range image s fits = sym (fetch_by_bytes (fetch image s.pc) s range fits)
