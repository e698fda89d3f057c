-- What is known of the jobs that are handed out.
use Rattle.std.proofs.Common.{◌≡◌, ◌-◌, ◌%◌, ◌<◌, ◌≤◌, inl, inr, ℕ, List, refl, ap, sym, ◌∙◌, subst, arith}
use Rattle.std.specs.Prelude.{All}
use Rattle.std.proofs.lemmas.Bool.{cases_lt}
use Rattle.std.proofs.lemmas.List.Elements.{All-weaker}
use Rattle.std.specs.declared.sync.Arc.{Arc}
use Rattle.std.specs.declared.alloc.Global.{Global}
use Rattle.rv_model.specs.Image.{Img}
use Rattle.rv_model.specs.State.{Halt}
use Rattle.rv_model.specs.Run.{RunsTo, MeetsLimit, IsNext, step_at}
use Rattle.rv_model.specs.declared.answer.Public.{Public}
use Rattle.min_trace.specs.Chunk.{Piece, IsChunk}
use Rattle.min_trace.specs.declared.chunk.TheConstants.{STEPS_PER_CHUNK}
use Rattle.planner.specs.declared.job.Job.{Job}
use Rattle.planner.specs.Jobs.{IsJobIn, IsWholeIn}
use Rattle.run_rows.specs.Runs.{chunks_to, counts_to, named_by, values_of, Halts, Later, IsJobOf}
use Rattle.run_tables.specs.Sequential.{IsPlanned}
use Rattle.job_queue.specs.Truth.{IsTrueOf}
use Rattle.job_queue.specs.declared.ticket.Ticket.TheVariants.{Work}
use Rattle.wit_pool.specs.Progress.{HasChunks, IsBorder, IsReady}

-- the step that halts doesn't lead on
no_next : (image : Img) (j : ℕ) → step_at image j ≡ Halt → IsNext (step_at image j) → ⊥
no_next image j h next = subst IsNext h next

-- a run that is known to lead on from n steps has more
longer : (image : Img) (n m : ℕ) (public : Public) → MeetsLimit image n → RunsTo image m public → n < m
longer image n m public on runs = elim (cases_lt n m) [
  | inl b ↦ b
  | inr b ↦ let some = runs.some in absurd (no_next image (m - 1) runs.halt (on (m - 1) (omega arith)))
]

-- a run has one number of steps
one_end : (image : Img) (n m : ℕ) (p q : Public) → RunsTo image n p → RunsTo image m q → n ≤ m
one_end image n m p q a b = elim (cases_lt m n) [
  | inl lt ↦ let some = b.some in absurd (no_next image (m - 1) b.halt (a.on (m - 1) (omega arith)))
  | inr le ↦ le
]

pub border_within : (image : Img) (n : ℕ) → MeetsLimit image n → n % STEPS_PER_CHUNK ≡ 0 → IsBorder image n
border_within image n on whole = λ m halts. let more = longer image n m halts.0 on halts.1 in inr (whole, omega arith)

pub border_last : (image : Img) (n : ℕ) → Halts image n → IsBorder image n
border_last image n here = λ m halts.
    let a = one_end image n m here.0 halts.0 here.1 halts.1 in
    let b = one_end image m n halts.0 here.0 halts.1 here.1 in
    inl (omega arith)

-- what run_rows' laws say
abbrev pub WholeJobs : Type 0
WholeJobs = (image : Img) (n m : ℕ) (j : Job) → Later n m → All (IsChunk image) (chunks_to image n) → IsWholeIn (counts_to image n) j → IsJobOf image m j (named_by image m j)

abbrev pub LastJobs : Type 0
LastJobs = (image : Img) (n : ℕ) (j : Job) → Halts image n → All (IsChunk image) (chunks_to image n) → IsJobIn (counts_to image n) j → IsJobOf image n j (named_by image n j)

-- a job that the first steps make whole, at a border
pub ready_whole : WholeJobs → (image : Img) (n : ℕ) (j : Job) → IsBorder image n → All (IsChunk image) (chunks_to image n) → IsWholeIn (counts_to image n) j → IsReady image n j
ready_whole law image n j border each whole = record {
  named = whole.named;
  border = border;
  here = law image n n j (inl refl) each whole;
  there = λ m halts. law image n m j (border m halts) each whole;
}

-- a job of a run that halted
pub ready_last : LastJobs → (image : Img) (n : ℕ) (j : Job) → Halts image n → All (IsChunk image) (chunks_to image n) → IsJobIn (counts_to image n) j → IsReady image n j
ready_last law image n j halts each some =
    let here = law image n j halts each some in
    record {
      named = some.named;
      border = border_last image n halts;
      here = here;
      there = λ m other.
          let a = one_end image n m halts.0 other.0 halts.1 other.1 in
          let b = one_end image m n other.0 halts.0 other.1 halts.1 in
          let same : n ≡ m = omega arith in
          subst (λ k. IsJobOf image k j (named_by image k j)) same here;
    }

-- its chunks are those of the run so far
pub planned : (image : Img) (n : ℕ) (all chunks : List (Arc Piece Global)) (j : Job) → chunks ≡ all → HasChunks image n all → IsReady image n j → IsPlanned image n (values_of chunks) j
planned image n all chunks j e has is = record { run = ap values_of e ∙ has.all; planned = is.named }

-- so its ticket is true
pub ticket_true : (image : Img) (n : ℕ) (j : Job) (found : List (Arc Piece Global)) → IsReady image n j → ((m : ℕ) → Later n m → values_of found ≡ named_by image m j) → IsTrueOf image (Work j found)
unfolding IsTrueOf
ticket_true image n j found is named =
    record {
      some = (n, subst (λ cs. IsJobOf image n j cs) (sym (named n (inl refl))) is.here);
      whole = λ m halts. subst (λ cs. IsJobOf image m j cs) (sym (named m (is.border m halts))) (is.there m halts);
    }

-- the jobs that a chunk made whole, at a border
pub all_ready : WholeJobs → (image : Img) (n : ℕ) (all : List (Arc Piece Global)) (js : List Job) → IsBorder image n → HasChunks image n all → All (IsWholeIn (counts_to image n)) js → All (IsReady image n) js
all_ready law image n all js border has whole = All-weaker (IsWholeIn (counts_to image n)) (IsReady image n) (λ j w. ready_whole law image n j border (subst (All (IsChunk image)) has.all has.each) w) js whole

-- and those that are left at the end
pub all_last : LastJobs → (image : Img) (n : ℕ) (all : List (Arc Piece Global)) (js : List Job) → Halts image n → HasChunks image n all → All (IsJobIn (counts_to image n)) js → All (IsReady image n) js
all_last law image n all js halts has some = All-weaker (IsJobIn (counts_to image n)) (IsReady image n) (λ j w. ready_last law image n j halts (subst (All (IsChunk image)) has.all has.each) w) js some
