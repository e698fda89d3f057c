-- A demo program's run.
use Rattle.std.proofs.Common.{◌≡◌, ◌==◌, Some, ◌/◌, ◌+◌, ◌-◌, ◌%◌, ◌^◌, ◌<◌, ◌≤◌, ℕ, suc, pos, ◌-ℤ◌, false, List, [], ◌∷◌, ◌++◌, length, All, slice_index, slice_set, refl, ap, sym, subst, ◌∙◌, arith, lit<}
use Rattle.std.specs.List.{range_with_len}
use Rattle.std.proofs.lemmas.Bool.{cond_both, eq-eqb}
use Rattle.std.proofs.lemmas.List.{length-append, length-map, get_or-set_same, get_or-set_other}
use Rattle.std.proofs.lemmas.List.Elements.{All-map}
use Rattle.std.proofs.lemmas.List.FromFn.{length-map-range_with_len}
use Rattle.rv_word.specs.Is.{Is, decoded}
use Rattle.rv_word.specs.declared.instr.OpNo.TheVariants as ops
use Rattle.rv_word.specs.declared.instr.Kind.TheVariants.{Ld, Sd}
use Rattle.rv_word.specs.declared.instr.Instr.{Instr}
use Rattle.rv_word.specs.declared.instr.Instr.TheVariants.{OpImm, Ecall, Load, Store}
use Rattle.rv_model.specs.Image.{Img}
use Rattle.rv_model.specs.Op.{bits_of, value_of}
use Rattle.rv_model.specs.State.{State, Halt, wrapped, operand, reg, executed}
use Rattle.rv_model.specs.Run.{state_at, step_at, MeetsLimit, RunsTo, public_of}
use Rattle.rv_model.specs.declared.answer.Public.{Public}
use Rattle.elf_load.specs.Loads.{Loads}
use Rattle.demo_program.specs.declared.kind.DemoKind.{DemoKind}
use Rattle.demo_program.specs.declared.kind.DemoKind.TheVariants as kinds
use Rattle.demo_program.specs.Draws.{draw}
use Rattle.demo_program.specs.Program.{rd, rs1, rs2, rest, offset, drawn, set_base, set_value, put_out, leave, instructions}
use Rattle.demo_program.specs.Demo.{words_of, demo_file, IsSize}
use Rattle.demo_program.proofs.Parts.{values, body, outputs, in_range, instructions_words}
use Rattle.demo_program.proofs.Steps.{Leads, LeadsOn, IsBase, leads_with_base, leads_with_reg, operation_leads, set_leads, load_leads, store_leads}
use Rattle.demo_program.proofs.Walk.{Laid, At, one, one_state, step_is, along, laid_first, laid_second}
use Rattle.demo_program.proofs.Fetch.{image_of, laid_from}
use Rattle.demo_program.proofs.Loaded.{loads}

-- how many instructions there are
pub length_instructions : (number : ℕ) (kind : DemoKind) (size : ℕ) → length (instructions number kind size) ≡ size + 21
unfolding instructions leave
length_instructions number kind size =
    let few : length (body number kind size) ≡ size = length-map-range_with_len (λ k. drawn kind (draw number k)) 8 size in
    let low : List Instr = set_base 0x60000 ∷ [] ++ values number in
    let all = length-append (low ++ body number kind size ++ set_base 0x50000 ∷ []) outputs in
    let front = length-append (low ++ body number kind size) (set_base 0x50000 ∷ []) in
    let first = length-append low (body number kind size) in
    length-append (low ++ body number kind size ++ set_base 0x50000 ∷ [] ++ outputs) leave ∙ omega (arith, few, all, front, first)

-- each instruction of a part leads on
drawn_leads : (b : ℕ) (kind : DemoKind) (d : ℕ) → IsBase b → LeadsOn b (drawn kind d)
unfolding drawn
drawn_leads b kinds.Alu d is = operation_leads b _ (rd d) (rs1 d) (rs2 d) (omega arith)
drawn_leads b kinds.Mul d is = operation_leads b _ (rd d) (rs1 d) (rs2 d) (omega arith)
drawn_leads b kinds.Mem d is =
    let P : Instr → Type 0 = LeadsOn b in
    cond_both (rest d % 2 == 0) (Store Sd 5 (rs2 d) (offset d)) (Load Ld (rd d) 5 (offset d)) P
    (λ e. store_leads b (rs2 d) (rest d / 2 % 256) is (omega arith))
    (λ e. load_leads b (rd d) (rest d / 2 % 256) is (omega arith) (omega arith))

value_leads : (b number j : ℕ) → LeadsOn b (set_value number j)
unfolding set_value
value_leads b number j = set_leads b ops.Add (6 + j) 0 (pos (draw number j % 4096) -ℤ pos 2048) (omega arith)

output_leads : (b j : ℕ) → IsBase b → j < 8 → LeadsOn b (put_out (0 + j))
unfolding put_out
output_leads b j is less = store_leads b (6 + (0 + j)) (0 + j) is (omega arith)

-- the first state
at_start : (words : List ℕ) → At (image_of words) 0 0
unfolding state_at
at_start words = record {
  led = λ j below. absurd (omega arith);
  pc = refl;
  holds = record { all = refl; zero = refl; base = refl };
}

-- to the first instruction of the end
come_to_leave : (image : Img) (number : ℕ) (kind : DemoKind) (size : ℕ) → size ≤ 100000 → At image 0 0 → Laid image 0 (instructions number kind size) → At image (18 + size) 0x50000000 × Laid image (18 + size) leave
unfolding instructions
come_to_leave image number kind size few at laid =
    let low : List Instr = set_base 0x60000 ∷ [] in
    let output : List Instr = set_base 0x50000 ∷ [] in
    let drew : length (body number kind size) ≡ size = length-map-range_with_len (λ k. drawn kind (draw number k)) 8 size in
    let p1 : List Instr = low ++ values number in
    let p2 : List Instr = p1 ++ body number kind size in
    let p3 : List Instr = p2 ++ output in
    let p4 : List Instr = p3 ++ outputs in
    let n1 : length p1 ≡ 9 = refl in
    let n2 : length p2 ≡ 9 + size = length-append p1 (body number kind size) ∙ omega (arith, drew, n1) in
    let n3 : length p3 ≡ 10 + size = length-append p2 output ∙ omega (arith, n2) in
    let n4 : length p4 ≡ 18 + size = length-append p3 outputs ∙ omega (arith, n3) in
    let l4 : Laid image 0 p4 = laid_first image p4 leave 0 laid in
    let l3 : Laid image 0 p3 = laid_first image p3 outputs 0 l4 in
    let l2 : Laid image 0 p2 = laid_first image p2 output 0 l3 in
    let l1 : Laid image 0 p1 = laid_first image p1 (body number kind size) 0 l2 in
    let at1 : At image 1 0x60000000 = one image 0 0 0x60000000 (set_base 0x60000) (lit< tt) at l1.0 (leads_with_base 0 0x60000000 (state_at image 0) at.holds) in
    let low_base : IsBase 0x60000000 = (refl, lit< tt) in
    let output_base : IsBase 0x50000000 = (refl, lit< tt) in
    let each1 : All (LeadsOn 0x60000000) (values number) = All-map (LeadsOn 0x60000000) (set_value number) (range_with_len 0 8) (in_range (λ j. LeadsOn 0x60000000 (set_value number j)) 0 8 (λ j h. value_leads 0x60000000 number (0 + j))) in
    let at9 : At image 9 0x60000000 = along image (values number) 1 0x60000000 (omega arith) at1 l1.1 each1 in
    let each2 : All (LeadsOn 0x60000000) (body number kind size) = All-map (LeadsOn 0x60000000) (λ k. drawn kind (draw number k)) (range_with_len 8 size) (in_range (λ k. LeadsOn 0x60000000 (drawn kind (draw number k))) 8 size (λ j h. drawn_leads 0x60000000 kind (draw number (8 + j)) low_base)) in
    let there2 : Laid image 9 (body number kind size) = laid_second image p1 (body number kind size) 0 9 refl l2 in
    let drew_at : At image (9 + length (body number kind size)) 0x60000000 = along image (body number kind size) 9 0x60000000 (omega (arith, drew)) at9 there2 each2 in
    let at_output : At image (9 + size) 0x60000000 = subst (λ (n : ℕ). At image (9 + n) 0x60000000) drew drew_at in
    let there3 : Laid image (9 + size) output = laid_second image p2 output 0 (9 + size) (omega (arith, n2)) l3 in
    let at_next : At image (suc (9 + size)) 0x50000000 = one image (9 + size) 0x60000000 0x50000000 (set_base 0x50000) (omega arith) at_output there3.0 (leads_with_base 0x60000000 0x50000000 (state_at image (9 + size)) at_output.holds) in
    let at10 : At image (10 + size) 0x50000000 = subst (λ (n : ℕ). At image n 0x50000000) (omega arith) at_next in
    let each4 : All (LeadsOn 0x50000000) outputs = All-map (LeadsOn 0x50000000) put_out (range_with_len 0 8) (in_range (λ j. LeadsOn 0x50000000 (put_out j)) 0 8 (λ j h. output_leads 0x50000000 j output_base h)) in
    let there4 : Laid image (10 + size) outputs = laid_second image p3 outputs 0 (10 + size) (omega (arith, n3)) l4 in
    let put_at : At image (10 + size + 8) 0x50000000 = along image outputs (10 + size) 0x50000000 (omega arith) at10 there4 each4 in
    (subst (λ (n : ℕ). At image n 0x50000000) (omega arith) put_at, laid_second image p4 leave 0 (18 + size) (omega (arith, n4)) laid)

-- a number added to x0
added : (x n : ℕ) → x ≡ 0 → n < 2048 → value_of ops.Add (operand false x) (bits_of (pos n)) ≡ n
unfolding value_of
added x n e less = omega (arith, e)

-- the run at its last instruction, after m steps
pub record Ready (image : Img) (m : ℕ) : Type 0 where
  pub led : MeetsLimit image m
  pub halts : step_at image m ≡ Halt
  pub exit : reg (state_at image m) 10 ≡ 0

ecall_halts : (s : State) → reg s 17 ≡ 93 → executed Ecall s ≡ Halt
ecall_halts s e = rw (eq-eqb _ _ e) refl

leaves : (image : Img) (m b : ℕ) → m < 2 ^ 31 → At image m b → Laid image m leave → Ready image (suc (suc m))
unfolding leave
leaves image m b few at laid =
    let s : State = state_at image m in
    let v : ℕ = value_of ops.Add (operand false (reg s 0)) (bits_of (pos 93)) in
    let call : Leads b s (executed (OpImm ops.Add 17 0 (pos 93) false) s) = leads_with_reg b s 17 v (omega arith) at.holds in
    let at1 : At image (suc m) b = one image m b b _ (omega arith) at laid.0 call in
    let x1 : (state_at image (suc m)).x ≡ slice_set s.x 17 v = ap (λ (r : State). r.x) (one_state image m b (OpImm ops.Add 17 0 (pos 93) false) (record { pc = wrapped (s.pc + 4); x = slice_set s.x 17 v; word = s.word }) at laid.0 refl) in
    let call_is : slice_index (slice_set s.x 17 v) 17 ≡ 93 = get_or-set_same s.x 17 v 0 (omega (arith, at.holds.all)) ∙ added (reg s 0) 93 at.holds.zero (lit< tt) in
    let t : State = state_at image (suc m) in
    let u : ℕ = value_of ops.Add (operand false (reg t 0)) (bits_of (pos 0)) in
    let code : Leads b t (executed (OpImm ops.Add 10 0 (pos 0) false) t) = leads_with_reg b t 10 u (omega arith) at1.holds in
    let at2 : At image (suc (suc m)) b = one image (suc m) b b _ (omega arith) at1 laid.1.0 code in
    let x2 : (state_at image (suc (suc m))).x ≡ slice_set t.x 10 u = ap (λ (r : State). r.x) (one_state image (suc m) b (OpImm ops.Add 10 0 (pos 0) false) (record { pc = wrapped (t.pc + 4); x = slice_set t.x 10 u; word = t.word }) at1 laid.1.0 refl) in
    let code_is : slice_index (slice_set t.x 10 u) 10 ≡ 0 = get_or-set_same t.x 10 u 0 (omega (arith, at1.holds.all)) ∙ added (reg t 0) 0 at1.holds.zero (lit< tt) in
    let call_stays : slice_index (slice_set t.x 10 u) 17 ≡ 93 = get_or-set_other t.x 10 17 u 0 (omega arith) ∙ ap (λ (x : List ℕ). slice_index x 17) x1 ∙ call_is in
    record {
      led = at2.led;
      halts = step_is image (suc (suc m)) b Ecall at2 laid.1.1.0 ∙ ecall_halts (state_at image (suc (suc m))) (ap (λ (x : List ℕ). slice_index x 17) x2 ∙ call_stays);
      exit = ap (λ (x : List ℕ). slice_index x 10) x2 ∙ code_is;
    }

runs_to : (image : Img) (n m : ℕ) → n ≡ suc m → Ready image m → (public : Public) × RunsTo image n public × (public.exit ≡ 0)
runs_to image n m e ready =
    let back : m ≡ n - 1 = omega arith in (
      public_of (state_at image (n - 1)),
      record {
        some = omega arith;
        on = λ j below. ready.led j (omega arith);
        halt = subst (λ (k : ℕ). step_at image k ≡ Halt) back ready.halts;
        told = refl;
      },
      subst (λ (k : ℕ). reg (state_at image k) 10 ≡ 0) back ready.exit,
    )

abbrev pub words : ℕ → DemoKind → ℕ → List ℕ
words number kind size = words_of (instructions number kind size)

length_words_of : (number : ℕ) (kind : DemoKind) (size : ℕ) → length (words number kind size) ≡ size + 21
length_words_of number kind size = length-map (instructions number kind size) _ ∙ length_instructions number kind size

pub file_loads : (number : ℕ) (kind : DemoKind) (size : ℕ) → IsSize size → Loads (demo_file number kind size) [] (image_of (words number kind size))
unfolding demo_file
file_loads number kind size is = loads (words number kind size) (omega (arith, length_words_of number kind size))

pub halts : (number : ℕ) (kind : DemoKind) (size : ℕ) → ((w : ℕ) (i : Instr) → Is w i → decoded w ≡ Some i) → IsSize size → (public : Public) × RunsTo (image_of (words number kind size)) (size + 21) public × (public.exit ≡ 0)
halts number kind size only is =
    let ws : List ℕ = words number kind size in
    let all : length (instructions number kind size) ≡ length ws = sym (length-map (instructions number kind size) _) in
    let laid : Laid (image_of ws) 0 (instructions number kind size) = laid_from ws [] (instructions number kind size) 0 only (instructions_words number kind size) refl (omega (arith, all)) refl in
    let last = come_to_leave (image_of ws) number kind size is.1 (at_start ws) laid in
    runs_to (image_of ws) (size + 21) (suc (suc (18 + size))) (omega arith) (leaves (image_of ws) (18 + size) 0x50000000 (omega arith) last.0 last.1)
