-- A run along a list of instructions that lead on.
use Rattle.std.proofs.Common.{◌≡◌, ◌+◌, ◌*◌, ◌^◌, ◌<◌, ◌≤◌, inl, inr, ℕ, suc, Option, Some, List, [], ◌∷◌, ◌++◌, length, All, ap, sym, subst, ◌∙◌, arith}
use Rattle.std.proofs.lemmas.Bool.{cases_lt}
use Rattle.rv_word.specs.declared.instr.Instr.{Instr}
use Rattle.rv_word.specs.Is.{decoded}
use Rattle.rv_model.specs.Image.{Img, fetch}
use Rattle.rv_model.specs.State.{State, Answer, Next, step, executed, executed_fetch, executed_word, wrapped}
use Rattle.rv_model.specs.Run.{state_at, step_at, moved, IsNext, MeetsLimit}
use Rattle.demo_program.specs.Tiny as tiny
use Rattle.demo_program.proofs.Steps.{Holds, Leads, LeadsOn}

-- the instruction stands at the j-th place of the image's words
pub record Placed (image : Img) (j : ℕ) (i : Instr) : Type 0 where
  pub word : ℕ
  pub fetched : fetch image (tiny.start + 4 * j) ≡ Some word
  pub decodes : decoded word ≡ Some i

-- the instructions stand there one after the other from the j-th place on
abbrev pub Laid : Img → ℕ → List Instr → Type 0
Laid image j [] = Unit {0}
Laid image j (i ∷ is) = Placed image j i × Laid image (suc j) is

-- the run has come to the j-th instruction
pub record At (image : Img) (j b : ℕ) : Type 0 where
  pub led : MeetsLimit image j
  pub pc : (state_at image j).pc ≡ tiny.start + 4 * j
  pub holds : Holds b (state_at image j).x

-- where a step leads
pub step_is : (image : Img) (j b : ℕ) (i : Instr) → At image j b → Placed image j i → step_at image j ≡ executed i (state_at image j)
unfolding step
step_is image j b i at placed =
    let s : State = state_at image j in
    let fetched : fetch image s.pc ≡ Some placed.word = ap (fetch image) at.pc ∙ placed.fetched in
    ap (λ (o : Option ℕ). executed_fetch o s) fetched ∙ ap (λ (o : Option Instr). executed_word o placed.word s) placed.decodes

state_next : (image : Img) (j : ℕ) (t : State) → step_at image j ≡ Next t → state_at image (suc j) ≡ t
unfolding state_at
state_next image j t is = ap (moved (state_at image j)) is

meets_more : (image : Img) (j : ℕ) (t : State) → step_at image j ≡ Next t → MeetsLimit image j → MeetsLimit image (suc j)
meets_more image j t is led k below = elim (cases_lt k j) [
  | inl earlier ↦ led k earlier
  | inr later ↦
      let same : j ≡ k = omega arith in
      let P : Answer → Type 0 = IsNext in
      subst (λ (m : ℕ). IsNext (step_at image m)) same (subst P (sym is) tt)
]

next_pc : (p j : ℕ) → p ≡ tiny.start + 4 * j → j < 2 ^ 32 → wrapped (p + 4) ≡ tiny.start + 4 * suc j
next_pc p j e below = omega arith

-- one step from base a to base b
pub one : (image : Img) (j a b : ℕ) (i : Instr) → j < 2 ^ 32 → At image j a → Placed image j i → Leads b (state_at image j) (executed i (state_at image j)) → At image (suc j) b
one image j a b i below at placed leads =
    let is : step_at image j ≡ Next leads.state = step_is image j a i at placed ∙ leads.is in
    let next : state_at image (suc j) ≡ leads.state = state_next image j leads.state is in
    record {
      led = meets_more image j leads.state is at.led;
      pc = ap (λ (s : State). s.pc) next ∙ leads.pc ∙ next_pc (state_at image j).pc j at.pc below;
      holds = subst (Holds b) (sym (ap (λ (s : State). s.x) next)) leads.holds;
    }

-- the state after it
pub one_state : (image : Img) (j a : ℕ) (i : Instr) (t : State) → At image j a → Placed image j i → executed i (state_at image j) ≡ Next t → state_at image (suc j) ≡ t
one_state image j a i t at placed is = state_next image j t (step_is image j a i at placed ∙ is)

-- the first instruction of a list whose every instruction leads on, and the rest
pub all_first : (P : Instr → Type 0) (i : Instr) (is : List Instr) → All P (i ∷ is) → P i
all_first P i is all = all 0 i (omega arith)

pub all_rest : (P : Instr → Type 0) (i : Instr) (is : List Instr) → All P (i ∷ is) → All P is
all_rest P i is all k d below = all (suc k) d (omega arith)

pub along : (image : Img) (is : List Instr) (j b : ℕ) → j + length is ≤ 2 ^ 32 → At image j b → Laid image j is → All (LeadsOn b) is → At image (j + length is) b
along image [] j b few at laid all = let e : j + length {A = Instr} [] ≡ j = omega arith in subst (λ (m : ℕ). At image m b) (sym e) at
along image (i ∷ is) j b few at laid all =
    let leads : LeadsOn b i = all_first (LeadsOn b) i is all in
    let next : At image (suc j) b = one image j b b i (omega arith) at laid.0 (leads (state_at image j) at.holds) in
    let e : suc j + length is ≡ j + length (i ∷ is) = omega arith in
    subst (λ (m : ℕ). At image m b) e (along image is (suc j) b (omega arith) next laid.1 (all_rest (LeadsOn b) i is all))

-- a list in two parts
pub laid_first : (image : Img) (xs ys : List Instr) (j : ℕ) → Laid image j (xs ++ ys) → Laid image j xs
laid_first image [] ys j laid = tt
laid_first image (i ∷ xs) ys j laid = (laid.0, laid_first image xs ys (suc j) laid.1)

pub laid_second : (image : Img) (xs ys : List Instr) (j k : ℕ) → j + length xs ≡ k → Laid image j (xs ++ ys) → Laid image k ys
laid_second image [] ys j k e laid = let same : j ≡ k = omega arith in subst (λ (m : ℕ). Laid image m ys) same laid
laid_second image (i ∷ xs) ys j k e laid = laid_second image xs ys (suc j) k (omega arith) laid.1
