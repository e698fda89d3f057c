-- How the list of instructions grows.
use Rattle.std.proofs.Common.{◌≡◌, ◌+◌, ◌*◌, ◌/◌, ◌%◌, ◌^◌, ◌<◌, ℕ, ℤ, pos, ◌-ℤ◌, ◌*ℤ◌, to_z, of_z, w64, false, zero, suc, List, [], ◌∷◌, ◌++◌, map, refl, ap, sym, ◌∙◌, arith, add-one}
use Rattle.std.specs.List.{range_with_len}
use Rattle.std.proofs.lemmas.List.{append_assoc}
use Rattle.std.proofs.lemmas.List.FromFn.{map-range_with_len_more}
use Rattle.std.proofs.lemmas.Int.{ints}
use Rattle.rv_word.specs.declared.instr.OpNo.TheVariants as ops
use Rattle.rv_word.specs.declared.instr.Kind.TheVariants.{Sd}
use Rattle.rv_word.specs.declared.instr.Instr.{Instr}
use Rattle.rv_word.specs.declared.instr.Instr.TheVariants.{OpImm, Store}
use Rattle.demo_program.specs.declared.kind.DemoKind.{DemoKind}
use Rattle.demo_program.specs.Draws.{after, state, draw}
use Rattle.demo_program.specs.Program.{drawn, put_out, set_value}

-- the j-th instruction of a part is pushed
pub pushed : (f : ℕ → Instr) (old now next : List Instr) (i : Instr) (j : ℕ) → now ≡ old ++ map f (range_with_len 0 j) → next ≡ now ++ i ∷ [] → i ≡ f j → next ≡ old ++ map f (range_with_len 0 (j + 1))
pushed f old now next i j before push is =
    push ∙ ap (λ (xs : List Instr). xs ++ i ∷ []) before ∙ append_assoc old (map f (range_with_len 0 j)) (i ∷ [])
    ∙ ap (λ (x : Instr). old ++ (map f (range_with_len 0 j) ++ x ∷ [])) is
    ∙ ap (λ (xs : List Instr). old ++ xs) (sym (map-range_with_len_more f 0 j j (omega arith)))

-- the states one after the other
pub state_none : (s : ℕ) → s ≡ state s 0
unfolding state
state_none s = refl

pub state_more : (s t j : ℕ) → t ≡ state s j → after t ≡ state s (j + 1)
unfolding state
state_more s t j is = rw add-one (ap after is)

pub draw_is : (s t j : ℕ) → t ≡ state s j → after t / 2 ^ 33 ≡ draw s j
unfolding draw
draw_is s t j is = ap (λ (n : ℕ). n / 2 ^ 33) (state_more s t j is)

-- draws go on where others ended
state_later : (s m k : ℕ) → state (state s m) k ≡ state s (m + k)
unfolding state
state_later s m zero = ap (state s) (omega arith)
state_later s m (suc k) = let e : suc (m + k) ≡ m + suc k = omega arith in ap after (state_later s m k) ∙ ap (state s) e

draw_later : (s m k : ℕ) → draw (state s m) k ≡ draw s (m + k)
unfolding draw
draw_later s m k = ap (λ (n : ℕ). n / 2 ^ 33) (state_later s m (k + 1) ∙ ap (state s) (omega arith))

pub drawn_later : (kind : DemoKind) (s m a n : ℕ) → map (λ k. drawn kind (draw (state s m) k)) (range_with_len a n) ≡ map (λ k. drawn kind (draw s k)) (range_with_len (m + a) n)
drawn_later kind s m a zero = refl
drawn_later kind s m a (suc n) =
    let first : drawn kind (draw (state s m) a) ≡ drawn kind (draw s (m + a)) = ap (drawn kind) (draw_later s m a) in
    let rest : map (λ k. drawn kind (draw (state s m) k)) (range_with_len (a + 1) n) ≡ map (λ k. drawn kind (draw s k)) (range_with_len (m + a + 1) n) = drawn_later kind s m (a + 1) n ∙ ap (λ (b : ℕ). map (λ k. drawn kind (draw s k)) (range_with_len b n)) (omega arith) in
    cc

-- the instructions that are pushed, as the code's numbers make them
small_is : (n : ℕ) → to_z w64 (of_z w64 (to_z w64 (n % 4096) -ℤ pos 2048)) ≡ pos (n % 4096) -ℤ pos 2048
small_is n = omega (arith, ints)

pub set_value_is : (s t j r n : ℕ) → t ≡ state s j → r ≡ 6 + j → n ≡ after t / 2 ^ 33 → OpImm ops.Add r 0 (to_z w64 (of_z w64 (to_z w64 (n % 4096) -ℤ pos 2048))) false ≡ set_value s j
unfolding set_value
set_value_is s t j r n state_is reg_is is =
    let drew : n ≡ draw s j = is ∙ draw_is s t j state_is in
    ap (λ (q : ℕ). OpImm ops.Add q 0 (to_z w64 (of_z w64 (to_z w64 (n % 4096) -ℤ pos 2048))) false) reg_is
    ∙ ap (λ (z : ℤ). OpImm ops.Add (6 + j) 0 z false) (small_is n ∙ ap (λ (m : ℕ). pos (m % 4096) -ℤ pos 2048) drew)

place_is : (j : ℕ) → j < 8 → to_z w64 (of_z w64 (pos 8 *ℤ to_z w64 (of_z w64 (pos j)))) ≡ pos (8 * j)
place_is j h = omega (arith, ints)

pub put_out_is : (j b r : ℕ) (z : ℤ) → j < 8 → b ≡ 5 → r ≡ 6 + j → z ≡ pos j → Store Sd b r (to_z w64 (of_z w64 (pos 8 *ℤ to_z w64 (of_z w64 z)))) ≡ put_out j
unfolding put_out
put_out_is j b r z h base_is reg_is is =
    ap (λ (q : ℕ). Store Sd q r (to_z w64 (of_z w64 (pos 8 *ℤ to_z w64 (of_z w64 z))))) base_is
    ∙ ap (λ (q : ℕ). Store Sd 5 q (to_z w64 (of_z w64 (pos 8 *ℤ to_z w64 (of_z w64 z))))) reg_is
    ∙ ap (λ (y : ℤ). Store Sd 5 (6 + j) y) (ap (λ (y : ℤ). to_z w64 (of_z w64 (pos 8 *ℤ to_z w64 (of_z w64 y)))) is ∙ place_is j h)
