-- The parts of a demo program, and that each instruction has a word.
use Rattle.std.proofs.Common.{◌==◌, ◌+◌, ◌*◌, ◌/◌, ◌%◌, ◌<◌, ℕ, zero, suc, List, [], ◌∷◌, ◌++◌, map, All, sym, subst, arith, lit<}
use Rattle.std.specs.List.{range_with_len}
use Rattle.std.proofs.lemmas.Bool.{cond_both}
use Rattle.std.proofs.lemmas.List.Elements.{All-append, All-map}
use Rattle.std.proofs.lemmas.List.FromFn.{get_or-range_with_len, length-range_with_len}
use Rattle.rv_word.specs.declared.instr.Instr.{Instr}
use Rattle.rv_word.specs.declared.instr.Instr.TheVariants.{Load, Store}
use Rattle.rv_word.specs.declared.instr.Kind.TheVariants.{Ld, Sd}
use Rattle.demo_program.specs.declared.kind.DemoKind.{DemoKind}
use Rattle.demo_program.specs.declared.kind.DemoKind.TheVariants as kinds
use Rattle.demo_program.specs.Draws.{draw}
use Rattle.demo_program.specs.Program.{rd, rs1, rs2, rest, offset, drawn, set_base, set_value, put_out, leave, instructions}
use Rattle.demo_program.specs.Demo.{HasWord}
use Rattle.demo_program.proofs.Forms.{alu_known, mul_known, set_word, set_plain_word, load_word, store_word, low_base_word, output_base_word, ecall_word}

abbrev pub values : ℕ → List Instr
values number = map (set_value number) (range_with_len 0 8)

abbrev pub body : ℕ → DemoKind → ℕ → List Instr
body number kind size = map (λ k. drawn kind (draw number k)) (range_with_len 8 size)

abbrev pub outputs : List Instr
outputs = map put_out (range_with_len 0 8)

-- what holds of each number of a range, and of one element
pub in_range : (P : ℕ → Type 0) (a n : ℕ) → ((j : ℕ) → j < n → P (a + j)) → All P (range_with_len a n)
in_range P a n each k d below =
    let less : k < n = subst (λ m. k < m) (length-range_with_len a n) below in
    subst P (sym (get_or-range_with_len a n k d less)) (each k less)

pub all_one : (P : Instr → Type 0) (i : Instr) → P i → All P (i ∷ [])
all_one P i h zero d below = h
all_one P i h (suc k) d below = absurd (omega arith)

pub drawn_word : (kind : DemoKind) (d : ℕ) → HasWord (drawn kind d)
unfolding drawn
drawn_word kinds.Alu d = alu_known (rest d % 15) (omega arith) (rd d) (rs1 d) (rs2 d) (omega arith) (omega arith) (omega arith)
drawn_word kinds.Mul d = mul_known (rest d % 13) (omega arith) (rd d) (rs1 d) (rs2 d) (omega arith) (omega arith) (omega arith)
drawn_word kinds.Mem d =
    let P : Instr → Type 0 = HasWord in
    cond_both (rest d % 2 == 0) (Store Sd 5 (rs2 d) (offset d)) (Load Ld (rd d) 5 (offset d)) P
    (λ e. store_word 5 (rs2 d) (8 * (rest d / 2 % 256)) (lit< tt) (omega arith) (omega arith))
    (λ e. load_word (rd d) 5 (8 * (rest d / 2 % 256)) (omega arith) (lit< tt) (omega arith))

value_word : (number j : ℕ) → j < 8 → HasWord (set_value number (0 + j))
unfolding set_value
value_word number j h = set_word (6 + (0 + j)) (draw number (0 + j) % 4096) (omega arith) (omega arith)

output_word : (j : ℕ) → j < 8 → HasWord (put_out (0 + j))
unfolding put_out
output_word j h = store_word 5 (6 + (0 + j)) (8 * (0 + j)) (lit< tt) (omega arith) (omega arith)

leave_words : All HasWord leave
unfolding leave
leave_words zero d below = set_plain_word 17 93 (lit< tt) (lit< tt)
leave_words (suc zero) d below = set_plain_word 10 0 (lit< tt) (lit< tt)
leave_words (suc (suc zero)) d below = ecall_word
leave_words (suc (suc (suc k))) d below = absurd (omega arith)

pub instructions_words : (number : ℕ) (kind : DemoKind) (size : ℕ) → All HasWord (instructions number kind size)
unfolding instructions
instructions_words number kind size =
    let P : Instr → Type 0 = HasWord in
    let low : List Instr = set_base 0x60000 ∷ [] in
    let output : List Instr = set_base 0x50000 ∷ [] in
    let first : All P (low ++ values number) = All-append P low (values number) (all_one P (set_base 0x60000) low_base_word) (All-map P (set_value number) (range_with_len 0 8) (in_range (λ j. P (set_value number j)) 0 8 (value_word number))) in
    let drew : All P (body number kind size) = All-map P (λ k. drawn kind (draw number k)) (range_with_len 8 size) (in_range (λ k. P (drawn kind (draw number k))) 8 size (λ j h. drawn_word kind (draw number (8 + j)))) in
    let put : All P outputs = All-map P put_out (range_with_len 0 8) (in_range (λ j. P (put_out j)) 0 8 output_word) in
    All-append P (low ++ values number ++ body number kind size ++ output ++ outputs) leave
    (All-append P (low ++ values number ++ body number kind size ++ output) outputs
    (All-append P (low ++ values number ++ body number kind size) output
    (All-append P (low ++ values number) (body number kind size) first drew)
    (all_one P (set_base 0x50000) output_base_word)) put) leave_words
