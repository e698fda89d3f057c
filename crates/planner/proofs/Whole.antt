-- Whole jobs stay, and one more chunk makes at most one more of each air.
use Rattle.std.proofs.Common.{◌≡◌, ◌+◌, ◌-◌, ◌*◌, ◌/◌, ◌<◌, ◌≤◌, ℕ, zero, suc, min, max, false, ltb, List, [], ◌∷◌, ◌++◌, refl, ap, sym, ◌∙◌, arith, le-ltb, lit<}
use Rattle.std.proofs.Math.Nat.{add-div_right, div-mul-le_self}
use Rattle.std.proofs.lemmas.Nat.{le-div}
use Rattle.zk_layout.specs.Air.{rows_per}
use Rattle.zk_layout.specs.declared.air.Air.{Air}
use Rattle.zk_layout.specs.declared.air.Air.TheVariants.{Main, Mem, Binary, Shift, Arith, Align, Out}
use Rattle.planner.specs.declared.counts.Counts.{Counts}
use Rattle.planner.specs.declared.job.Job.{Job}
use Rattle.planner.specs.Rows.{rows_in}
use Rattle.planner.specs.Jobs.{part, job_of, jobs, total, whole}
use Rattle.planner.proofs.Walk.{parts_from, parts_walked, total_cons, total_more}

pub div_mono : (a b r : ℕ) → 0 < r → a ≤ b → a / r ≤ b / r
div_mono a b r pos h = le-div (a / r) b r pos (omega (arith, div-mul-le_self a r))

one_whole : (a b r : ℕ) → 0 < r → b ≤ a + r → a / r < b / r → b / r - a / r ≡ 1
one_whole a b r pos near more =
    let up : b / r ≤ (a + r) / r = div_mono b (a + r) r pos near in
    let is : (a + r) / r ≡ a / r + 1 = add-div_right a pos in
    omega arith

pub positive : (air : Air) → 0 < rows_per air
unfolding rows_per
positive Main = lit< tt
positive Mem = lit< tt
positive Binary = lit< tt
positive Shift = lit< tt
positive Arith = lit< tt
positive Align = lit< tt
positive Out = lit< tt

-- no part past the last row
none_after : (air : Air) (from to k at : ℕ) (cs : List Counts) → to ≤ at → parts_from air from to k at cs ≡ []
unfolding parts_from
none_after air from to k at [] h = refl
none_after air from to k at (c ∷ cs) h =
    let e : ltb (max from at) (min to (at + rows_in air c)) ≡ false = le-ltb _ _ (omega arith) in
    rw e (none_after air from to (k + 1) (at + rows_in air c) cs (omega arith))

parts_more : (air : Air) (from to k at : ℕ) (cs ds : List Counts) → to ≤ at + total air cs → parts_from air from to k at (cs ++ ds) ≡ parts_from air from to k at cs
unfolding parts_from
parts_more air from to k at [] ds h = none_after air from to k at ds (omega arith)
parts_more air from to k at (c ∷ cs) ds h =
    ap (λ ps. part k at (max from at) (min to (at + rows_in air c)) ++ ps) (parts_more air from to (k + 1) (at + rows_in air c) cs ds (omega (arith, total_cons air c cs)))

fits : (i t r : ℕ) → 0 < r → i < t / r → i * r + r ≤ t
fits i t r pos h = let low : t / r * r ≤ t = div-mul-le_self t r in grind arith

-- a whole job stays as it is
pub job_more : (air : Air) (cs ds : List Counts) (i : ℕ) → i < whole air cs → job_of air (cs ++ ds) i ≡ job_of air cs i
job_more a cs ds i h =
    let few : i * rows_per a + rows_per a ≤ 0 + total a cs = omega (arith, fits i (total a cs) (rows_per a) (positive a) h) in
    ap (λ ps. record { air = a; instance = i; parts = ps }) (parts_walked a (cs ++ ds) i ∙ parts_more a (i * rows_per a) (i * rows_per a + rows_per a) 0 0 cs ds few ∙ sym (parts_walked a cs i))

pub jobs_more : (air : Air) (cs ds : List Counts) (first n : ℕ) → first + n ≤ whole air cs → jobs air (cs ++ ds) first n ≡ jobs air cs first n
jobs_more air cs ds first zero h = refl
jobs_more air cs ds first (suc n) h =
    let head : job_of air (cs ++ ds) first ≡ job_of air cs first = job_more air cs ds first (omega arith) in
    let tail : jobs air (cs ++ ds) (first + 1) n ≡ jobs air cs (first + 1) n = jobs_more air cs ds (first + 1) n (omega arith) in
    ap (λ j. j ∷ jobs air (cs ++ ds) (first + 1) n) head ∙ ap (λ js. job_of air cs first ∷ js) tail

pub jobs_join : (air : Air) (cs : List Counts) (first n m : ℕ) → jobs air cs first n ++ jobs air cs (first + n) m ≡ jobs air cs first (n + m)
jobs_join air cs first zero m = let e : first + 0 ≡ first = omega arith in let f : 0 + m ≡ m = omega arith in rw (e, f) refl
jobs_join air cs first (suc n) m =
    let e : first + suc n ≡ first + 1 + n = omega arith in
    let f : suc n + m ≡ suc (n + m) = omega arith in
    rw (e, f) (ap (λ js. job_of air cs first ∷ js) (jobs_join air cs (first + 1) n m))

single : (air : Air) (counts : List Counts) (first last : ℕ) → last - first ≡ 1 → jobs air counts first (last - first) ≡ job_of air counts first ∷ []
single air counts first last e = rw e refl

-- the one job that became whole
pub whole_pushed : (air : Air) (counts : List Counts) (before after rows : ℕ) (old new : List Job) (j : Job) → rows ≡ rows_per air → after ≤ before + rows_per air
    → before / rows < after / rows → j ≡ job_of air counts (before / rows) → new ≡ old ++ j ∷ [] → new ≡ old ++ jobs air counts (before / rows_per air) (after / rows_per air - before / rows_per air)
whole_pushed air counts before after rows old new j r near more is e =
    let one : after / rows - before / rows ≡ 1 = one_whole before after rows (omega (arith, positive air)) (omega arith) more in
    e ∙ ap (λ js. old ++ js) (ap (λ x. x ∷ []) is ∙ sym (single air counts (before / rows) (after / rows) one) ∙ rw r refl)

pub whole_up : (air : Air) (cs ds : List Counts) → whole air cs ≤ whole air (cs ++ ds)
whole_up air cs ds = div_mono _ _ (rows_per air) (positive air) (omega (arith, total_more air cs ds))

pub whole_none : (air : Air) (cs : List Counts) → total air cs ≡ 0 → whole air cs ≡ 0
unfolding rows_per
whole_none Main cs e = rw e refl
whole_none Mem cs e = rw e refl
whole_none Binary cs e = rw e refl
whole_none Shift cs e = rw e refl
whole_none Arith cs e = rw e refl
whole_none Align cs e = rw e refl
whole_none Out cs e = rw e refl
