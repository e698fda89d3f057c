-- Each job is handed out once.
use Rattle.std.proofs.Common.{◌≡◌, ◌+◌, ◌-◌, ◌*◌, ◌/◌, ◌%◌, ◌==◌, ◌<◌, ◌≤◌, ℕ, zero, suc, eqb, Bool, true, false, cond, List, [], ◌∷◌, ◌++◌, refl, ap, sym, subst, ◌∙◌, arith, append_assoc, eqb-true}
use Rattle.std.specs.List.{flat_map}
use Rattle.std.proofs.lemmas.List.{append-nil}
use Rattle.std.proofs.lemmas.List.Elements.{filter-append}
use Rattle.std.proofs.lemmas.Bool.{eqb-false}
use Rattle.std.proofs.lemmas.Nat.{div-mul-add}
use Rattle.std.proofs.Math.Nat.{mod-add-div', mod-lt}
use Rattle.zk_layout.specs.Air.{air_number, rows_per}
use Rattle.zk_layout.specs.declared.air.Air.{Air}
use Rattle.zk_layout.specs.declared.air.Air.TheVariants.{Main, Mem, Binary, Shift, Arith, Align, Out}
use Rattle.planner.specs.declared.counts.Counts.{Counts}
use Rattle.planner.specs.declared.job.Job.{Job}
use Rattle.planner.specs.Rows.{rows_in}
use Rattle.planner.specs.Jobs.{job_of, jobs, total, whole, became_whole, added, rest, finished, airs, handed, of_air, all_jobs}
use Rattle.planner.proofs.Walk.{total_cons}
use Rattle.planner.proofs.Whole.{jobs_more, jobs_join, whole_up, whole_none, positive}

-- of one air's jobs all are of that air
of_jobs : (air a : Air) (cs : List Counts) (first n : ℕ) (b : Bool) → eqb (air_number air) (air_number a) ≡ b → of_air air (jobs a cs first n) ≡ cond b (jobs a cs first n) []
of_jobs air a cs first zero true e = refl
of_jobs air a cs first zero false e = refl
of_jobs air a cs first (suc n) true e = rw e (ap (λ js. job_of a cs first ∷ js) (of_jobs air a cs (first + 1) n true e))
of_jobs air a cs first (suc n) false e = rw e (of_jobs air a cs (first + 1) n false e)

of_rest : (air a : Air) (cs : List Counts) (empty b : Bool) → eqb (air_number air) (air_number a) ≡ b → of_air air (cond empty [] (job_of a cs (whole a cs) ∷ [])) ≡ cond b (cond empty [] (job_of a cs (whole a cs) ∷ [])) []
of_rest air a cs true true e = refl
of_rest air a cs true false e = refl
of_rest air a cs false true e = rw e refl
of_rest air a cs false false e = rw e refl

of_flat_map : (air : Air) (F : Air → List Job) (xs : List Air) → of_air air (flat_map F xs) ≡ flat_map (λ a. of_air air (F a)) xs
of_flat_map air F [] = refl
of_flat_map air F (x ∷ xs) = filter-append _ (F x) (flat_map F xs) ∙ ap (λ js. of_air air (F x) ++ js) (of_flat_map air F xs)

pub flat_map_same : {X Y : Type 0} (f g : X → List Y) → ((x : X) → f x ≡ g x) → (xs : List X) → flat_map f xs ≡ flat_map g xs
flat_map_same f g h [] = refl
flat_map_same f g h (x ∷ xs) = rw (h x, flat_map_same f g h xs) refl

-- Mem and Out, which have no rows here, have no jobs either
one_air : (air : Air) (F : Air → List Job) → F Mem ≡ [] → F Out ≡ [] → flat_map (λ a. cond (eqb (air_number air) (air_number a)) (F a) []) airs ≡ F air
unfolding air_number
one_air Main F m o = append-nil (F Main)
one_air Mem F m o = sym m
one_air Binary F m o = append-nil (F Binary)
one_air Shift F m o = append-nil (F Shift)
one_air Arith F m o = append-nil (F Arith)
one_air Align F m o = append-nil (F Align)
one_air Out F m o = sym o

of_airs : (air : Air) (F : Air → List Job) → F Mem ≡ [] → F Out ≡ [] → ((a : Air) → of_air air (F a) ≡ cond (eqb (air_number air) (air_number a)) (F a) []) → of_air air (flat_map F airs) ≡ F air
of_airs air F m o h = of_flat_map air F airs ∙ flat_map_same (λ a. of_air air (F a)) (λ a. cond (eqb (air_number air) (air_number a)) (F a) []) h airs ∙ one_air air F m o

pub no_rows : (air : Air) → ((c : Counts) → rows_in air c ≡ 0) → (cs : List Counts) → total air cs ≡ 0
no_rows air h [] = refl
no_rows air h (c ∷ cs) = omega (arith, total_cons air c cs, h c, no_rows air h cs)

pub no_mem_rows : (cs : List Counts) → total Mem cs ≡ 0
unfolding rows_in
no_mem_rows = no_rows Mem (λ c. refl)

pub no_out_rows : (cs : List Counts) → total Out cs ≡ 0
unfolding rows_in
no_out_rows = no_rows Out (λ c. refl)

none_became : (air : Air) (cs : List Counts) (c : Counts) → ((xs : List Counts) → total air xs ≡ 0) → became_whole air cs c ≡ []
none_became air cs c h =
    let old : whole air cs ≡ 0 = whole_none air cs (h cs) in
    let new : whole air (cs ++ c ∷ []) ≡ 0 = whole_none air (cs ++ c ∷ []) (h (cs ++ c ∷ [])) in
    rw (old, new) refl

none_left : (air : Air) (cs : List Counts) → total air cs ≡ 0 → rest air cs ≡ []
none_left air cs e =
    let none : total air cs % rows_per air ≡ 0 = rw e (omega (arith, positive air)) in
    rw none refl

of_added : (air : Air) (before : List Counts) (c : Counts) → of_air air (added before c) ≡ became_whole air before c
unfolding added
of_added air before c = of_airs air (λ a. became_whole a before c) (none_became Mem before c no_mem_rows) (none_became Out before c no_out_rows)
    (λ a. of_jobs air a (before ++ c ∷ []) (whole a before) (whole a (before ++ c ∷ []) - whole a before) (eqb (air_number air) (air_number a)) refl)

of_finished : (air : Air) (cs : List Counts) → of_air air (finished cs) ≡ rest air cs
unfolding finished
of_finished air cs = of_airs air (λ a. rest a cs) (none_left Mem cs (no_mem_rows cs)) (none_left Out cs (no_out_rows cs))
    (λ a. of_rest air a cs (total a cs % rows_per a == 0) (eqb (air_number air) (air_number a)) refl)

joined_at : (air : Air) (cs : List Counts) (a b d : ℕ) → a ≤ b → b ≤ d → jobs air cs a (b - a) ++ jobs air cs b (d - b) ≡ jobs air cs a (d - a)
joined_at air cs a b d h k =
    let mid : a + (b - a) ≡ b = omega arith in
    let all : (b - a) + (d - b) ≡ d - a = omega arith in
    subst (λ n. jobs air cs a (b - a) ++ jobs air cs n (d - b) ≡ jobs air cs a (d - a)) mid (jobs_join air cs a (b - a) (d - b) ∙ rw all refl)

handed_from : (air : Air) (before cs : List Counts) → of_air air (handed before cs) ≡ jobs air (before ++ cs) (whole air before) (whole air (before ++ cs) - whole air before)
handed_from air before [] =
    let same : before ++ [] ≡ before = append-nil before in
    let none : whole air before - whole air before ≡ 0 = omega arith in
    rw (same, none) refl
handed_from air before (c ∷ cs) =
    let up : whole air before ≤ whole air (before ++ c ∷ []) = whole_up air before (c ∷ []) in
    let on : whole air (before ++ c ∷ []) ≤ whole air ((before ++ c ∷ []) ++ cs) = whole_up air (before ++ c ∷ []) cs in
    let keep : jobs air ((before ++ c ∷ []) ++ cs) (whole air before) (whole air (before ++ c ∷ []) - whole air before) ≡ jobs air (before ++ c ∷ []) (whole air before) (whole air (before ++ c ∷ []) - whole air before) =
    jobs_more air (before ++ c ∷ []) cs (whole air before) (whole air (before ++ c ∷ []) - whole air before) (omega arith) in
    filter-append _ (added before c) (handed (before ++ c ∷ []) cs)
    ∙ ap (λ js. js ++ of_air air (handed (before ++ c ∷ []) cs)) (of_added air before c ∙ sym keep)
    ∙ ap (λ js. jobs air ((before ++ c ∷ []) ++ cs) (whole air before) (whole air (before ++ c ∷ []) - whole air before) ++ js) (handed_from air (before ++ c ∷ []) cs)
    ∙ joined_at air ((before ++ c ∷ []) ++ cs) (whole air before) (whole air (before ++ c ∷ [])) (whole air ((before ++ c ∷ []) ++ cs)) up on
    ∙ ap (λ xs. jobs air xs (whole air before) (whole air xs - whole air before)) (append_assoc before (c ∷ []) cs)

pub handed_whole : (air : Air) (counts : List Counts) → of_air air (handed [] counts) ≡ jobs air counts 0 (whole air counts)
handed_whole air counts =
    let none : whole air [] ≡ 0 = whole_none air [] refl in
    let many : whole air counts - 0 ≡ whole air counts = omega arith in
    handed_from air [] counts ∙ rw (none, many) refl

round_up : (t r : ℕ) → 0 < r → t % r ≡ 0 → (t + (r - 1)) / r ≡ t / r
round_up t r pos e =
    let is : t + (r - 1) ≡ t / r * r + (r - 1) = omega (arith, mod-add-div' t r) in
    rw is (div-mul-add (t / r) r (r - 1) (omega arith))

pub round_up_more : (t r : ℕ) → 0 < r → 0 < t % r → (t + (r - 1)) / r ≡ t / r + 1
round_up_more t r pos e =
    let is : t + (r - 1) ≡ (t / r + 1) * r + (t % r - 1) = omega (arith, mod-add-div' t r) in
    rw is (div-mul-add (t / r + 1) r (t % r - 1) (omega (arith, mod-lt t pos)))

with_rest : (air : Air) (cs : List Counts) → jobs air cs 0 (whole air cs) ++ rest air cs ≡ all_jobs air cs
with_rest air cs =
    elim (eqb (total air cs % rows_per air) 0) as (λ b. eqb (total air cs % rows_per air) 0 ≡ b → jobs air cs 0 (whole air cs) ++ cond b [] (job_of air cs (whole air cs) ∷ []) ≡ all_jobs air cs) [
      | true ↦ λ e. append-nil _ ∙ sym (rw (round_up (total air cs) (rows_per air) (positive air) (eqb-true _ _ e)) refl)
      | false ↦ λ e.
          let pos : 0 < total air cs % rows_per air = omega (arith, eqb-false _ _ e) in
          let first : 0 + whole air cs ≡ whole air cs = omega arith in
          subst (λ n. jobs air cs 0 (whole air cs) ++ (job_of air cs n ∷ []) ≡ all_jobs air cs) first
          (jobs_join air cs 0 (whole air cs) 1 ∙ sym (rw (round_up_more (total air cs) (rows_per air) (positive air) pos) refl))
    ] refl

pub handed_all : (air : Air) (counts : List Counts) → of_air air (handed [] counts ++ finished counts) ≡ all_jobs air counts
handed_all air counts =
    filter-append _ (handed [] counts) (finished counts) ∙ ap (λ js. js ++ of_air air (finished counts)) (handed_whole air counts)
    ∙ ap (λ js. jobs air counts 0 (whole air counts) ++ js) (of_finished air counts) ∙ with_rest air counts
