-- Each step of a run that halts has a row.
use Rattle.std.proofs.Common.{ℕ, suc, ◌≡◌, ◌==◌, ◌<◌, ◌≤◌, ◌+◌, ◌-◌, ◌%◌, ◌^◌, ◌⊎◌, inl, inr, Bool, true, false, if◌then◌else◌, List, [], ◌∷◌, Option, Some, None, IsSome, refl, sym, ap, subst, ◌∙◌, arith}
use Rattle.std.specs.Prelude.{All, find}
use Rattle.std.specs.Option.{option_map}
use Rattle.std.proofs.lemmas.Bool.{cases_lt}
use Rattle.std.proofs.lemmas.Bool.Decides.{nat_tests}
use Rattle.std.proofs.lemmas.List.Elements.{All-head, All-tail}
use Rattle.rv_model.specs.Image.{Img, Seg, IsSegment, IsLoadable, fetch, runs_at, covers, word_in}
use Rattle.rv_model.specs.State.{State, Answer, Next, Halt, Fault, step, executed_fetch}
use Rattle.rv_model.specs.Run.{state_at, step_at, moved, IsNext, RunsTo}
use Rattle.rv_model.specs.declared.answer.Public.{Public}
use Rattle.min_trace.specs.Bounds.{IsRecord}
use Rattle.min_trace.specs.Chunk.{IsStep}
use Rattle.min_trace.specs.Record.{record_at, onward}
use Rattle.air_main.specs.Rows.{HasRow}
use Rattle.air_main.specs.Table.{RunHasRows}
use Rattle.air_main.proofs.Recorded.{Ends}

-- what min_trace's law says of the numbers of a run
abbrev pub Bounds : Type 0
Bounds = (image : Img) → IsLoadable image → (j : ℕ) → IsStep (step_at image j) → IsRecord (record_at image j)

-- a word that is fetched lies in memory

runs_below : (s : Seg) (pc : ℕ) → IsSegment s → runs_at pc s ≡ true → pc < 2 ^ 32
runs_below s pc is e = grind (arith, nat_tests, is.below)

found_below : (ss : List Seg) (pc : ℕ) → All IsSegment ss → IsSome (find (runs_at pc) ss) → pc < 2 ^ 32
found_below [] pc all h = cc
found_below (s ∷ ss) pc all h =
    elim (runs_at pc s) as (λ t. runs_at pc s ≡ t → IsSome (if t then Some s else find (runs_at pc) ss) → pc < 2 ^ 32) [
      | true ↦ λ e g. runs_below s pc (All-head IsSegment s ss all) e
      | false ↦ λ e g. found_below ss pc (All-tail IsSegment s ss all) g
    ] refl h

mapped_from : (f : Seg → ℕ) (o : Option Seg) → IsSome (option_map f o) → IsSome o
mapped_from f None h = cc
mapped_from f (Some s) h = refl

fetched_below : (image : Img) (pc : ℕ) → All IsSegment image.segments → IsSome (fetch image pc) → pc < 2 ^ 32
unfolding fetch
fetched_below image pc all h =
    elim (pc % 4 == 0) as (λ t. IsSome (if t then option_map (λ s. word_in s pc) (find (runs_at pc) image.segments) else None) → pc < 2 ^ 32) [
      | true ↦ λ g. found_below image.segments pc all (mapped_from (λ s. word_in s pc) (find (runs_at pc) image.segments) g)
      | false ↦ λ g. cc
    ] h

pub entry_below : (image : Img) → IsLoadable image → image.entry < 2 ^ 32
entry_below image is = fetched_below image image.entry is.segments is.entry

-- what doesn't fault fetches
steps_fetch : (image : Img) (s : State) → IsStep (step image s) → IsSome (fetch image s.pc)
unfolding step
steps_fetch image s h = by (fetch image s.pc) h
  where
    by : (o : Option ℕ) → IsStep (executed_fetch o s) → IsSome o
    by None h = absurd h
    by (Some w) h = refl

next_step : (a : Answer) → IsNext a → (t : State) × (a ≡ Next t)
next_step (Next t) h = (t, refl)
next_step Halt h = absurd h
next_step (Fault f) h = absurd h

module _ (image : Img) (n : ℕ) (public : Public) (loadable : IsLoadable image) (run : RunsTo image n public) where
  pub halts_last : (j : ℕ) → j + 1 ≡ n → step_at image j ≡ Halt
  halts_last j e = ap (step_at image) (last j n e) ∙ run.halt
    where
      last : (j n : ℕ) → j + 1 ≡ n → j ≡ n - 1
      last j n e = omega arith

  pub is_step : (j : ℕ) → j < n → IsStep (step_at image j)
  is_step j l = elim (cases_lt (j + 1) n) [
    | inl h ↦ let t = next_step (step_at image j) (run.on j h) in subst IsStep (sym t.1) tt
    | inr h ↦ subst IsStep (sym (halts_last j (omega arith))) tt
  ]

  pub pc_below : (j : ℕ) → j < n → (state_at image j).pc < 2 ^ 32
  pc_below j l = fetched_below image (state_at image j).pc loadable.segments (steps_fetch image (state_at image j) (is_step j l))

  -- a step before the last goes on to the next state
  pub goes_on : (j : ℕ) → j + 1 < n → step_at image j ≡ Next (state_at image (j + 1))
  unfolding state_at
  goes_on j h =
      let t = next_step (step_at image j) (run.on j h) in
      let e : state_at image (j + 1) ≡ moved (state_at image j) (step_at image j) = ap (state_at image) (after_one j) in
      t.1 ∙ ap Next (sym (e ∙ ap (moved (state_at image j)) t.1))
    where
      after_one : (j : ℕ) → j + 1 ≡ suc j
      after_one j = omega arith

  ends : (j : ℕ) → j < n → Ends (step_at image j)
  ends j l = elim (cases_lt (j + 1) n) [
    | inl h ↦ inl (state_at image (j + 1), goes_on j h, pc_below (j + 1) h)
    | inr h ↦ inr (halts_last j (omega arith))
  ]

  pub next_on : (j : ℕ) → j + 1 < n → (record_at image j).next ≡ Some (state_at image (j + 1)).pc
  unfolding record_at
  next_on j h = ap onward (goes_on j h)

  pub next_off : (j : ℕ) → j + 1 ≡ n → (record_at image j).next ≡ None
  unfolding record_at
  next_off j h = ap onward (halts_last j h)

  pub has_row : Bounds → (j : ℕ) → j < n → HasRow image j
  has_row bounds j l =
      let b = bounds image loadable j (is_step j l) in
      record { below = pc_below j l; ends = ends j l; a_fits = b.a; s_fits = b.s; c_fits = b.c }

pub run_has_rows : Bounds → RunHasRows
run_has_rows bounds image n public loadable run j l = has_row image n public loadable run bounds j l
