-- One step along a chunk.
use Rattle.std.proofs.Common.{◌≡◌, ◌+◌, ◌<◌, ◌≤◌, inl, inr, ℕ, zero, suc, List, [], ◌∷◌, ◌++◌, refl, ap, sym, subst, ◌∙◌, arith, add-one}
use Rattle.std.proofs.lemmas.Bool.{cases_lt}
use Rattle.std.proofs.lemmas.Grind.{flat_map-append}
use Rattle.std.proofs.lemmas.List.{append-nil}
use Rattle.std.specs.List.{flat_map, range_with_len}
use Rattle.rv_model.specs.Image.{Img}
use Rattle.rv_model.specs.State.{State, Next, step}
use Rattle.rv_model.specs.Run.{state_at, step_at, IsNext, MeetsLimit}
use Rattle.rv_model.specs.declared.answer.StepAnswer.{StepAnswer}
use Rattle.rv_model.specs.declared.answer.StepAnswer.TheVariants as answers
use Rattle.min_trace.specs.Record.{instr_at, old_at, olds_between}
use Rattle.rv_emu.specs.Emulator.{old_here, Leads, IsAfter, Stopped}

old_here_is : (image : Img) (j : ℕ) → old_here image (state_at image j) ≡ old_at image j
unfolding old_here old_at instr_at
old_here_is image j = refl

shifted : (a n : ℕ) → range_with_len a (suc n) ≡ range_with_len a n ++ (a + n) ∷ []
shifted a zero = let e : a ≡ a + 0 = omega arith in ap (λ k. k ∷ []) e
shifted a (suc n) =
    let e : a + 1 + n ≡ a + suc n = omega arith in
    ap (λ xs. a ∷ xs) (shifted (a + 1) n ∙ ap (λ k. range_with_len (a + 1) n ++ k ∷ []) e)

pub range_more : (a n : ℕ) → range_with_len a (n + 1) ≡ range_with_len a n ++ (a + n) ∷ []
range_more a n = rw add-one (shifted a n)

pub olds_more : (image : Img) (from steps : ℕ) → olds_between image from (steps + 1) ≡ olds_between image from steps ++ old_at image (from + steps)
olds_more image from steps = ap (flat_map (old_at image)) (range_more from steps) ∙ flat_map-append (old_at image) (range_with_len from steps) ((from + steps) ∷ [])
    ∙ ap (λ xs. olds_between image from steps ++ xs) (append-nil (old_at image (from + steps)))

state_next : (image : Img) (j : ℕ) (s t : State) → s ≡ state_at image j → step image s ≡ Next t → t ≡ state_at image (j + 1)
unfolding state_at
state_next image j s t here is =
    let led : step_at image j ≡ Next t = subst (λ u. step image u ≡ Next t) here is in rw (add-one, led) refl

meets_next : (image : Img) (n : ℕ) (s t : State) → s ≡ state_at image n → step image s ≡ Next t → MeetsLimit image n → MeetsLimit image (n + 1)
meets_next image n s t here is meets j below = elim (cases_lt j n) [
  | inl before ↦ meets j before
  | inr last ↦
      let at : n ≡ j = omega arith in
      let led : step_at image n ≡ Next t = subst (λ u. step image u ≡ Next t) here is in
      subst (λ k. IsNext (step_at image k)) at (subst IsNext (sym led) tt)
]

pub after_more : (image : Img) (from steps : ℕ) (s t : State) (old new : List ℕ) → IsAfter image from steps s old → Leads (step image s) (old_here image s) answers.Next s t old new → IsAfter image from (steps + 1) t new
after_more image from steps s t old new a leads =
    let more : from + steps + 1 ≡ from + (steps + 1) = omega arith in
    let touched : old_here image s ≡ old_at image (from + steps) = ap (old_here image) a.state ∙ old_here_is image (from + steps) in
    record {
      on = subst (MeetsLimit image) more (meets_next image (from + steps) s t a.state leads.0 a.on);
      state = state_next image (from + steps) s t a.state leads.0 ∙ ap (state_at image) more;
      olds = leads.1 ∙ ap (λ xs. xs ++ old_here image s) a.olds ∙ ap (λ xs. olds_between image from steps ++ xs) touched ∙ sym (olds_more image from steps);
    }

pub after_same : (image : Img) (from steps : ℕ) (s t : State) (old new : List ℕ) → IsAfter image from steps s old → t ≡ s → new ≡ old → IsAfter image from steps t new
after_same image from steps s t old new a same kept = record { on = a.on; state = same ∙ a.state; olds = kept ∙ a.olds }

pub answer_here : (image : Img) (j : ℕ) (s : State) → s ≡ state_at image j → step_at image j ≡ step image s
answer_here image j s is = ap (step image) (sym is)

-- a step that doesn't lead on leaves all as it was, and stops there
pub stops : (image : Img) (from steps most : ℕ) (s t : State) (answer : StepAnswer) (old new : List ℕ) → (answer ≡ answers.Next → ⊥) → steps < most → IsAfter image from steps s old → Leads (step image s) (old_here image s) answer s t old new
    → IsAfter image from steps t new × Stopped answer image from steps most
stops image from steps most s t answers.Next old new other below a leads = absurd (other refl)
stops image from steps most s t answers.Halt old new other below a leads = (after_same image from steps s t old new a leads.1 leads.2, (answer_here image (from + steps) s a.state ∙ leads.0, below))
stops image from steps most s t (answers.Fault f) old new other below a leads = (after_same image from steps s t old new a leads.1 leads.2, (answer_here image (from + steps) s a.state ∙ leads.0, below))
