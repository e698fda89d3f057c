-- What is handed out are jobs, and what their parts name was counted.
use Rattle.std.proofs.Common.{◌≡◌, ◌+◌, ◌-◌, ◌*◌, ◌/◌, ◌%◌, ◌==◌, ◌<◌, ◌≤◌, ℕ, zero, suc, min, max, eqb, ltb, Bool, true, false, cond, List, [], ◌∷◌, ◌++◌, length, refl, ap, sym, ◌∙◌, arith, append_assoc, eqb-true, ltb-true}
use Rattle.std.specs.Prelude.{All}
use Rattle.std.specs.List.{flat_map, filter, range_with_len}
use Rattle.std.proofs.lemmas.Bool.{eqb-false}
use Rattle.std.proofs.lemmas.List.{append-nil}
use Rattle.std.proofs.lemmas.List.Elements.{All-nil, All-cons, All-append, All-same}
use Rattle.zk_layout.specs.Air.{rows_per}
use Rattle.zk_layout.specs.declared.air.Air.{Air}
use Rattle.zk_layout.specs.declared.air.Air.TheVariants.{Main, Mem, Binary, Shift, Arith, Align, Out}
use Rattle.min_trace.specs.declared.record.StepRecord.{StepRecord}
use Rattle.planner.specs.declared.counts.Counts.{Counts}
use Rattle.planner.specs.declared.job.Job.{Job}
use Rattle.planner.specs.declared.job.Part.{Part}
use Rattle.planner.specs.Rows.{has_row, with_row, counted, rows_in}
use Rattle.planner.specs.Jobs.{part, part_of, parts, first_row, job_of, jobs, total, whole, job_count, became_whole, added, rest, finished, airs, handed, IsPartIn, IsJobIn, IsWholeIn}
use Rattle.planner.proofs.Whole.{job_more, whole_up, positive}
use Rattle.planner.proofs.Once.{round_up_more}

-- no step has a row of Mem or of Out
none_of : {X : Type 0} (xs : List X) → 0 ≡ length (filter (λ _. false) xs)
none_of [] = refl
none_of (x ∷ xs) = none_of xs

pub rows_counted : (air : Air) (rs : List StepRecord) → rows_in air (counted rs) ≡ length (with_row air rs)
unfolding rows_in counted has_row
rows_counted Main rs = refl
rows_counted Mem rs = none_of rs
rows_counted Binary rs = refl
rows_counted Shift rs = refl
rows_counted Arith rs = refl
rows_counted Align rs = refl
rows_counted Out rs = none_of rs

one_part : (counts : List Counts) (k first low high : ℕ) → k < length counts → All (IsPartIn counts) (part k first low high)
one_part counts k first low high there =
    elim (ltb low high) as (λ b. ltb low high ≡ b → All (IsPartIn counts) (cond b (record { chunk = k; skip = low - first; take = high - low } ∷ []) [])) [
      | true ↦ λ e. let lt : low < high = ltb-true _ _ e in All-cons (IsPartIn counts) _ [] (record { there = there; some = omega arith }) (All-nil (IsPartIn counts))
      | false ↦ λ e. All-nil (IsPartIn counts)
    ] refl

parts_along : (air : Air) (counts : List Counts) (i k n : ℕ) → k + n ≤ length counts → All (IsPartIn counts) (flat_map (part_of air counts i) (range_with_len k n))
parts_along air counts i k zero le = All-nil (IsPartIn counts)
parts_along air counts i k (suc n) le =
    All-append (IsPartIn counts) (part_of air counts i k) (flat_map (part_of air counts i) (range_with_len (k + 1) n)) (one_part counts k _ _ _ (omega arith)) (parts_along air counts i (k + 1) n (omega arith))

pub parts_in : (air : Air) (counts : List Counts) (i : ℕ) → All (IsPartIn counts) (parts air counts i)
parts_in air counts i = parts_along air counts i 0 (length counts) (omega arith)

-- whole jobs are whole jobs of later counts too
jobs_whole : (air : Air) (cs ds : List Counts) (first n : ℕ) → first + n ≤ whole air cs → All (IsWholeIn (cs ++ ds)) (jobs air cs first n)
jobs_whole air cs ds first zero le = All-nil (IsWholeIn (cs ++ ds))
jobs_whole air cs ds first (suc n) le =
    All-cons (IsWholeIn (cs ++ ds)) (job_of air cs first) (jobs air cs (first + 1) n) (record { named = sym (job_more air cs ds first (omega arith)); whole = omega (arith, whole_up air cs ds) }) (jobs_whole air cs ds (first + 1) n (omega arith))

All-flat_map : {X Y : Type 0} (P : Y → Type 0) (f : X → List Y) → ((x : X) → All P (f x)) → (xs : List X) → All P (flat_map f xs)
All-flat_map P f h [] = All-nil P
All-flat_map P f h (x ∷ xs) = All-append P (f x) (flat_map f xs) (h x) (All-flat_map P f h xs)

pub added_whole : (before : List Counts) (c : Counts) (later : List Counts) → All (IsWholeIn ((before ++ c ∷ []) ++ later)) (added before c)
unfolding added
added_whole before c later =
    All-flat_map (IsWholeIn ((before ++ c ∷ []) ++ later)) (λ air. became_whole air before c)
    (λ air. jobs_whole air (before ++ c ∷ []) later (whole air before) (whole air (before ++ c ∷ []) - whole air before) (omega (arith, whole_up air before (c ∷ []))))
    airs

one_rest : (air : Air) (counts : List Counts) → All (IsJobIn counts) (rest air counts)
one_rest air counts =
    elim (eqb (total air counts % rows_per air) 0) as (λ b. eqb (total air counts % rows_per air) 0 ≡ b → All (IsJobIn counts) (cond b [] (job_of air counts (whole air counts) ∷ []))) [
      | true ↦ λ e. All-nil (IsJobIn counts)
      | false ↦ λ e.
          let pos : 0 < total air counts % rows_per air = omega (arith, eqb-false _ _ e) in
          All-cons (IsJobIn counts) (job_of air counts (whole air counts)) [] (record { named = refl; some = omega (arith, round_up_more (total air counts) (rows_per air) (positive air) pos) }) (All-nil (IsJobIn counts))
    ] refl

pub finished_in : (counts : List Counts) → All (IsJobIn counts) (finished counts)
unfolding finished
finished_in counts = All-flat_map (IsJobIn counts) (λ air. rest air counts) (λ air. one_rest air counts) airs

handed_from : (before cs : List Counts) (c : Counts) → handed before (cs ++ c ∷ []) ≡ handed before cs ++ added (before ++ cs) c
handed_from before [] c = append-nil (added before c) ∙ ap (λ xs. added xs c) (sym (append-nil before))
handed_from before (d ∷ cs) c =
    ap (λ xs. added before d ++ xs) (handed_from (before ++ d ∷ []) cs c) ∙ sym (append_assoc (added before d) (handed (before ++ d ∷ []) cs) (added ((before ++ d ∷ []) ++ cs) c))
    ∙ ap (λ xs. (added before d ++ handed (before ++ d ∷ []) cs) ++ added xs c) (append_assoc before (d ∷ []) cs)

pub handed_push : (cs : List Counts) (c : Counts) → handed [] (cs ++ c ∷ []) ≡ handed [] cs ++ added cs c
handed_push cs c = handed_from [] cs c
