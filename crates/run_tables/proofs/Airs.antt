-- The airs that have jobs.
use Rattle.std.proofs.Common.{◌≡◌, ◌<◌, ◌≢◌, inl, inr, ◌⊎◌, ℕ, List, [], ◌∷◌, refl, arith}
use Rattle.std.proofs.lemmas.List.Sums.{sum_by-cons}
use Rattle.rv_model.specs.Image.{Img}
use Rattle.zk_layout.specs.Air.{rows_per}
use Rattle.zk_layout.specs.declared.air.Air.{Air}
use Rattle.zk_layout.specs.declared.air.Air.TheVariants.{Main, Mem, Binary, Shift, Arith, Align, Out}
use Rattle.min_trace.specs.Chunk.{Piece}
use Rattle.planner.specs.declared.counts.Counts.{Counts}
use Rattle.planner.specs.declared.job.Job.{Job}
use Rattle.planner.specs.Rows.{rows_in}
use Rattle.planner.specs.Jobs.{total, job_count}
use Rattle.run_rows.specs.Runs.{counts_to, IsDue, IsJobOf}

none_of_mem : (counts : List Counts) → total Mem counts ≡ 0
unfolding rows_in
none_of_mem [] = refl
none_of_mem (c ∷ cs) = let zero : rows_in Mem c ≡ 0 = refl in omega (arith, sum_by-cons (rows_in Mem) c cs, none_of_mem cs)

none_of_out : (counts : List Counts) → total Out counts ≡ 0
unfolding rows_in
none_of_out [] = refl
none_of_out (c ∷ cs) = let zero : rows_in Out c ≡ 0 = refl in omega (arith, sum_by-cons (rows_in Out) c cs, none_of_out cs)

not_mem : (image : Img) (n i : ℕ) → IsDue image n Mem i → ⊥
unfolding rows_per
not_mem image n i (inl h) = let e : total Mem (counts_to image n) ≡ 0 = none_of_mem (counts_to image n) in omega arith
not_mem image n i (inr h) = let e : total Mem (counts_to image n) ≡ 0 = none_of_mem (counts_to image n) in let lt : i < job_count Mem (counts_to image n) = h.1 in omega arith

not_out : (image : Img) (n i : ℕ) → IsDue image n Out i → ⊥
unfolding rows_per
not_out image n i (inl h) = let e : total Out (counts_to image n) ≡ 0 = none_of_out (counts_to image n) in omega arith
not_out image n i (inr h) = let e : total Out (counts_to image n) ≡ 0 = none_of_out (counts_to image n) in let lt : i < job_count Out (counts_to image n) = h.1 in omega arith

-- a job that is of none of the other airs is Binary's or Shift's
left_over : (image : Img) (n i : ℕ) (air : Air) → IsDue image n air i → air ≢ Main → air ≢ Arith → air ≢ Align → (air ≡ Binary) ⊎ (air ≡ Shift)
left_over image n i Main due a b c = absurd (a refl)
left_over image n i Mem due a b c = absurd (not_mem image n i due)
left_over image n i Binary due a b c = inl refl
left_over image n i Shift due a b c = inr refl
left_over image n i Arith due a b c = absurd (b refl)
left_over image n i Align due a b c = absurd (c refl)
left_over image n i Out due a b c = absurd (not_out image n i due)

pub binary_or_shift : (image : Img) (n : ℕ) (job : Job) (chunks : List Piece) → IsJobOf image n job chunks → job.air ≢ Main → job.air ≢ Arith → job.air ≢ Align → (job.air ≡ Binary) ⊎ (job.air ≡ Shift)
binary_or_shift image n job chunks is = left_over image n job.instance job.air is.due
