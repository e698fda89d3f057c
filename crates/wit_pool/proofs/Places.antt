-- The tables of jobs, each air's in order.
use Rattle.std.proofs.Common.{◌≡◌, ◌≢◌, ℕ, ◌+◌, ◌==◌, Bool, true, false, cond, List, [], ◌∷◌, ◌++◌, map, get_or, refl, sym, ap, ◌∙◌, subst, arith}
use Rattle.std.specs.Prelude.{All, filter}
use Rattle.std.specs.List.{sum_by, range_with_len}
use Rattle.std.specs.List.Sorted.{IsNonDecreasingBy, IsPermutation}
use Rattle.std.proofs.lemmas.List.Sums.{sum_by-cons}
use Rattle.std.proofs.lemmas.List.Sorted.{sum_by-IsPermutation, All-permutation}
use Rattle.std.proofs.lemmas.List.Kept.{IsNonDecreasingBy-filter}
use Rattle.std.proofs.lemmas.List.Elements.{All-nil, All-cons, All-head, All-tail}
use Rattle.std.proofs.lemmas.Bool.Decides.{nat_tests}
use Rattle.gold.specs.declared.instances.Table.{Table}
use Rattle.rv_model.specs.Image.{Img}
use Rattle.step_rows.specs.Rows.{row_in}
use Rattle.zk_layout.specs.Air.{air_number, columns_per}
use Rattle.zk_layout.specs.declared.air.Air.{Air}
use Rattle.zk_layout.specs.declared.air.Air.TheVariants.{Main, Mem, Binary, Shift, Arith, Align, Out}
use Rattle.mem_rows.specs.Rows.{mem_tables, out_table}
use Rattle.rv_model.specs.declared.answer.Public.{Public}
use Rattle.planner.specs.declared.job.Job.{Job}
use Rattle.planner.specs.Jobs.{job_of, job_count, all_jobs}
use Rattle.run_rows.specs.Runs.{counts_to}
use Rattle.run_rows.specs.Tables.{table_of, rows_to}
use Rattle.run_tables.specs.Sequential.{step_tables, table_for, sequential_tables}
use Rattle.job_queue.specs.declared.ticket.Ticket.{Ticket}
use Rattle.job_queue.specs.declared.ticket.Ticket.TheVariants.{Work, Stop}
use Rattle.job_queue.specs.Rule.{HaveSameTickets}
use Rattle.wit_pool.specs.Jobs.{jobs_of}
use Rattle.wit_pool.specs.Planned.{AreAllJobs}
use Rattle.wit_pool.specs.Placed.{of_number, HaveAllJobs, AreMade, AreInOrder}
use Rattle.wit_pool.proofs.Orders.{is_at, in_range, sum_kept, sum_map}

-- an air by its number
air_at : ℕ → Air
air_at n = get_or (Main ∷ Mem ∷ Binary ∷ Shift ∷ Arith ∷ Align ∷ Out ∷ []) n Main

air_at_number : (air : Air) → air_at (air_number air) ≡ air
unfolding air_number air_at
air_at_number Main = refl
air_at_number Mem = refl
air_at_number Binary = refl
air_at_number Shift = refl
air_at_number Arith = refl
air_at_number Align = refl
air_at_number Out = refl

same_air : (a b : Air) → air_number a ≡ air_number b → a ≡ b
same_air a b e = sym (air_at_number a) ∙ ap air_at e ∙ air_at_number b

-- instance i of an air
abbrev pub instance_at : Img → ℕ → Air → ℕ → Table
instance_at image n air i = table_of air (columns_per air) i (rows_to air (row_in air) image n)

-- each table is the instance that it says
abbrev pub IsItsOwn : Img → ℕ → Air → Table → Type 0
IsItsOwn image n air t = (air_number air == t.air) ≡ true → t ≡ instance_at image n air t.instance

own_table : (image : Img) (n : ℕ) (air : Air) (j : Job) → IsItsOwn image n air (table_for image n j)
own_table image n air j is =
    let number : air_number j.air ≡ air_number air = (let f = is in grind (arith, nat_tests)) in
    ap (λ a. table_of a (columns_per a) j.instance (rows_to a (row_in a) image n)) (same_air j.air air number)

own_tables : (image : Img) (n : ℕ) (air : Air) (js : List Job) → All (IsItsOwn image n air) (map (table_for image n) js)
own_tables image n air [] = All-nil (IsItsOwn image n air)
own_tables image n air (j ∷ js) = All-cons (IsItsOwn image n air) (table_for image n j) (map (table_for image n) js) (own_table image n air j) (own_tables image n air js)

-- what a filter keeps has passed it
passed_one : {X : Type 0} (p : X → Bool) (P : X → Type 0) (x : X) (xs : List X) (b : Bool) → p x ≡ b → (p x ≡ true → P x) → All P xs → All P (cond b (x ∷ xs) xs)
passed_one p P x xs true e h rest = All-cons P x xs (h e) rest
passed_one p P x xs false e h rest = rest

passed : {X : Type 0} (p : X → Bool) (P : X → Type 0) (xs : List X) → All (λ x. p x ≡ true → P x) xs → All P (filter p xs)
passed p P [] all = All-nil P
passed {X} p P (x ∷ xs) all =
    passed_one p P x (filter p xs) (p x) refl (All-head (λ (y : X). p y ≡ true → P y) x xs all) (passed p P xs (All-tail (λ (y : X). p y ≡ true → P y) x xs all))

-- how often an instance of the air is among the tables, and among the jobs
abbrev pub table_at : Air → ℕ → Table → ℕ
table_at air k t = cond (air_number air == t.air) (is_at k t.instance) 0

abbrev pub job_at : ℕ → Job → ℕ
job_at k j = is_at k j.instance

counted : (image : Img) (n : ℕ) (air : Air) (js : List Job) (made sorted : List Table) (k : ℕ) → made ≡ map (table_for image n) js → HaveAllJobs image n js → IsPermutation made sorted
    → sum_by (λ (t : Table). is_at k t.instance) (of_number (air_number air) sorted) ≡ sum_by (is_at k) (range_with_len 0 (job_count air (counts_to image n)))
unfolding HaveAllJobs
counted image n air js made sorted k is all same =
    sum_kept (λ (t : Table). is_at k t.instance) (λ (t : Table). air_number air == t.air) sorted
    ∙ sum_by-IsPermutation (table_at air k) made sorted same
    ∙ ap (sum_by (table_at air k)) is
    ∙ sum_map (table_at air k) (table_for image n) js
    ∙ sym (sum_kept (job_at k) (λ (j : Job). air_number air == air_number j.air) js)
    ∙ all air (job_at k)
    ∙ sum_map (job_at k) (job_of air (counts_to image n)) (range_with_len 0 (job_count air (counts_to image n)))

map_map : {A B C : Type 0} (g : B → C) (f : A → B) (xs : List A) → map g (map f xs) ≡ map (λ x. g (f x)) xs
map_map g f [] = refl
map_map g f (x ∷ xs) = ap (λ zs. g (f x) ∷ zs) (map_map g f xs)

-- what run_tables' law says
abbrev pub TablesOfJobs : Type 0
TablesOfJobs = (air : Air) (image : Img) (n : ℕ) → step_tables air image n ≡ map (table_for image n) (all_jobs air (counts_to image n))

-- the tables of all jobs, in order of the instance
pub in_order : TablesOfJobs → (image : Img) (n : ℕ) (made sorted : List Table) → AreMade image n made → IsPermutation made sorted → IsNonDecreasingBy (λ (t : Table). t.instance) sorted → AreInOrder image n sorted
unfolding AreInOrder
in_order law image n made sorted are same up = λ air.
    let mine : Table → Bool = λ t. air_number air == t.air in
    let own : All (IsItsOwn image n air) sorted = All-permutation (IsItsOwn image n air) made sorted same (subst (All (IsItsOwn image n air)) (sym are.1) (own_tables image n air are.0)) in
    in_range (λ (t : Table). t.instance) (instance_at image n air) (of_number (air_number air) sorted) 0 (job_count air (counts_to image n))
    (IsNonDecreasingBy-filter (λ (t : Table). t.instance) mine sorted up)
    (λ k. counted image n air are.0 made sorted k are.1 are.2 same)
    (passed mine (λ (t : Table). t ≡ instance_at image n air t.instance) sorted own)
    ∙ sym (law air image n ∙ map_map (table_for image n) (job_of air (counts_to image n)) (range_with_len 0 (job_count air (counts_to image n))))

-- the weight of a ticket by its job
abbrev pub of_ticket : (Job → ℕ) → Ticket → ℕ
of_ticket w (Work job chunks) = w job
of_ticket w Stop = 0

sum_jobs : (w : Job → ℕ) (ts : List Ticket) → sum_by w (jobs_of ts) ≡ sum_by (of_ticket w) ts
sum_jobs w [] = refl
sum_jobs w (Work job chunks ∷ ts) = sum_by-cons w job (jobs_of ts) ∙ ap (λ k. w job + k) (sum_jobs w ts) ∙ sym (sum_by-cons (of_ticket w) (Work job chunks) ts)
sum_jobs w (Stop ∷ ts) = let ih = sum_jobs w ts in let c = sum_by-cons (of_ticket w) Stop ts in omega arith

-- where all that was pushed was taken, the jobs that were taken are all jobs
pub all_taken : (image : Img) (n : ℕ) (pushed taken : List Ticket) → HaveSameTickets pushed taken → AreAllJobs image n (jobs_of pushed) → HaveAllJobs image n (jobs_of taken)
unfolding HaveAllJobs AreAllJobs
all_taken image n pushed taken same all = λ air w.
    let mine : Job → Bool = λ j. air_number air == air_number j.air in
    let v : Job → ℕ = λ j. cond (mine j) (w j) 0 in
    sum_kept w mine (jobs_of taken) ∙ sum_jobs v taken ∙ sym (same (of_ticket v)) ∙ sym (sum_jobs v pushed) ∙ sym (sum_kept w mine (jobs_of pushed)) ∙ ap (sum_by w) (all air)

-- what is left once an air's tables are taken out
abbrev pub IsRest : Air → List Table → List Table → Type 0
IsRest air old new = (other : ℕ) → other ≢ air_number air → of_number other new ≡ of_number other old

behind : (t u x y z : List Table) → t ≡ u ++ x → u ≡ y → x ≡ z → t ≡ y ++ z
behind t u x y z is e f = is ∙ ap (λ l. l ++ x) e ∙ ap (λ l. y ++ l) f

-- the airs' numbers differ
binary_main : air_number Binary ≢ air_number Main
unfolding air_number
binary_main e = absurd (omega arith)

shift_main : air_number Shift ≢ air_number Main
unfolding air_number
shift_main e = absurd (omega arith)

shift_binary : air_number Shift ≢ air_number Binary
unfolding air_number
shift_binary e = absurd (omega arith)

arith_main : air_number Arith ≢ air_number Main
unfolding air_number
arith_main e = absurd (omega arith)

arith_binary : air_number Arith ≢ air_number Binary
unfolding air_number
arith_binary e = absurd (omega arith)

arith_shift : air_number Arith ≢ air_number Shift
unfolding air_number
arith_shift e = absurd (omega arith)

align_main : air_number Align ≢ air_number Main
unfolding air_number
align_main e = absurd (omega arith)

align_binary : air_number Align ≢ air_number Binary
unfolding air_number
align_binary e = absurd (omega arith)

align_shift : air_number Align ≢ air_number Shift
unfolding air_number
align_shift e = absurd (omega arith)

align_arith : air_number Align ≢ air_number Arith
unfolding air_number
align_arith e = absurd (omega arith)

-- the tables of each air in turn, with those of Mem behind Main's and Out's at the end
pub placed : (image : Img) (n : ℕ) (public : Public) (s r1 r2 r3 r4 mem t1 t2 t3 t4 t5 t6 t7 : List Table) (out : Table) → AreInOrder image n s → IsRest Main s r1 → IsRest Binary r1 r2 → IsRest Shift r2 r3 → IsRest Arith r3 r4
    → mem ≡ mem_tables image n public → out ≡ out_table public → t1 ≡ of_number (air_number Main) s → t2 ≡ t1 ++ mem → t3 ≡ t2 ++ of_number (air_number Binary) r1 → t4 ≡ t3 ++ of_number (air_number Shift) r2
    → t5 ≡ t4 ++ of_number (air_number Arith) r3 → t6 ≡ t5 ++ of_number (air_number Align) r4 → t7 ≡ t6 ++ out ∷ [] → t7 ≡ sequential_tables image n public
unfolding AreInOrder sequential_tables
placed image n public s r1 r2 r3 r4 mem t1 t2 t3 t4 t5 t6 t7 out order d1 d2 d3 d4 m o h1 h2 h3 h4 h5 h6 h7 =
    let a = step_tables Main image n in
    let b = mem_tables image n public in
    let c = step_tables Binary image n in
    let d = step_tables Shift image n in
    let e = step_tables Arith image n in
    let f = step_tables Align image n in
    let g = out_table public ∷ [] in
    let e1 : t1 ≡ a = h1 ∙ order Main in
    let e2 : t2 ≡ a ++ b = behind t2 t1 mem a b h2 e1 m in
    let e3 : t3 ≡ (a ++ b) ++ c = behind t3 t2 (of_number (air_number Binary) r1) (a ++ b) c h3 e2 (d1 (air_number Binary) binary_main ∙ order Binary) in
    let e4 : t4 ≡ ((a ++ b) ++ c) ++ d = behind t4 t3 (of_number (air_number Shift) r2) ((a ++ b) ++ c) d h4 e3 (d2 (air_number Shift) shift_binary ∙ d1 (air_number Shift) shift_main ∙ order Shift) in
    let e5 : t5 ≡ (((a ++ b) ++ c) ++ d) ++ e =
    behind t5 t4 (of_number (air_number Arith) r3) (((a ++ b) ++ c) ++ d) e h5 e4 (d3 (air_number Arith) arith_shift ∙ d2 (air_number Arith) arith_binary ∙ d1 (air_number Arith) arith_main ∙ order Arith) in
    let e6 : t6 ≡ ((((a ++ b) ++ c) ++ d) ++ e) ++ f =
    behind t6 t5 (of_number (air_number Align) r4) ((((a ++ b) ++ c) ++ d) ++ e) f h6 e5
    (d4 (air_number Align) align_arith ∙ d3 (air_number Align) align_shift ∙ d2 (air_number Align) align_binary ∙ d1 (air_number Align) align_main ∙ order Align) in
    behind t7 t6 (out ∷ []) (((((a ++ b) ++ c) ++ d) ++ e) ++ f) g h7 e6 (ap (λ t. t ∷ []) o)
