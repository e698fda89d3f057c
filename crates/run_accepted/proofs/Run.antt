-- The sequential tables are cut out of the rows of the run, and are not too many.
use Rattle.std.proofs.Common.{ℕ, suc, ◌+◌, ◌*◌, ◌<◌, ◌≤◌, ◌≡◌, ◌^◌, Bool, true, false, cond, List, [], ◌∷◌, ◌++◌, Option, None, Some, length, map, refl, sym, ap, ◌∙◌, arith, append_assoc}
use Rattle.std.specs.List.{filter_map, cons_option, range_with_len, filter}
use Rattle.std.proofs.lemmas.List.{length-map, length-append}
use Rattle.std.proofs.lemmas.List.FromFn.{length-range_with_len, length-map-range_with_len}
use Rattle.std.proofs.lemmas.List.Sorted.{length_permutation}
use Rattle.std.proofs.lemmas.List.Sums.{length-filter, count_by-le-length}
use Rattle.gold.specs.declared.instances.Table.{Table}
use Rattle.rv_model.specs.Cpu.{is_store}
use Rattle.rv_model.specs.Image.{Img, IsLoadable, initial_word}
use Rattle.rv_model.specs.Run.{RunsTo}
use Rattle.rv_model.specs.declared.answer.Public.{Public}
use Rattle.zk_layout.specs.Air.{rows_per, most_per}
use Rattle.zk_layout.specs.declared.air.Air.{Air}
use Rattle.zk_layout.specs.declared.air.Air.TheVariants.{Main, Mem, Binary, Shift, Arith, Align, Out}
use Rattle.min_trace.specs.Record.{record_at, records_between}
use Rattle.min_trace.specs.declared.record.MemAct.{MemAct}
use Rattle.min_trace.specs.declared.record.StepRecord.{StepRecord}
use Rattle.planner.specs.Jobs.{instances}
use Rattle.planner.specs.Rows.{has_row}
use Rattle.run_rows.specs.Tables.{records_of, rows_to}
use Rattle.step_rows.specs.Initial.{doublewords, initial_doublewords, unless_zero}
use Rattle.step_rows.specs.Rows.{row_in}
use Rattle.mem_rows.specs.Accesses.{stored, of_memory, of_register, of_step, of_steps, first_write, first_writes, output_reads, last_reads, accesses}
use Rattle.mem_rows.specs.Order.{in_order}
use Rattle.mem_rows.specs.Rows.{mem_tables, out_table}
use Rattle.run_tables.specs.Sequential.{step_tables, sequential_tables}
use Rattle.run_lines.specs.Rows.{rows_of, count_of}
use Rattle.run_accepted.proofs.Below.{Laws}
use Rattle.run_accepted.proofs.Shape.{AreFew, tables, cut}

all_kept : {X : Type 0} (p : X → Bool) → ((x : X) → p x ≡ true) → (xs : List X) → filter p xs ≡ xs
all_kept p h [] = refl
all_kept p h (x ∷ xs) = ap (λ b. cond b (x ∷ filter p xs) (filter p xs)) (h x) ∙ ap (λ ys. x ∷ ys) (all_kept p h xs)

-- ---- how many accesses there are
stored_few : (b : Bool) (step : ℕ) (m : MemAct) → length (stored b step m) ≤ 1
stored_few true step m = omega arith
stored_few false step m = omega arith

memory_few : (b : Bool) (step : ℕ) (o : Option MemAct) → length (of_memory b step o) ≤ 2
memory_few b step None = omega arith
memory_few b step (Some m) = let s = stored_few b step m in omega arith

register_few : (step : ℕ) (o : Option (ℕ × ℕ)) → length (of_register step o) ≤ 1
register_few step None = omega arith
register_few step (Some w) = omega arith

step_few : (x : StepRecord) → length (of_step x) ≤ 5
step_few x =
    let a = length-append (of_memory (is_store x.instr) x.step x.mem) (of_register x.step x.rd) in
    let b = memory_few (is_store x.instr) x.step x.mem in
    let c = register_few x.step x.rd in
    omega arith

steps_few : (xs : List StepRecord) → length (of_steps xs) ≤ 5 * length xs
steps_few [] = omega arith
steps_few (x ∷ xs) =
    let a = length-append (of_step x) (of_steps xs) in
    let b = step_few x in
    let c = steps_few xs in
    omega arith

cons_le : {Y : Type 0} (o : Option Y) (ys : List Y) → length (cons_option o ys) ≤ suc (length ys)
cons_le None ys = omega arith
cons_le (Some y) ys = omega arith

filter_map_le : {X Y : Type 0} (f : X → Option Y) (xs : List X) → length (filter_map f xs) ≤ length xs
filter_map_le f [] = omega arith
filter_map_le f (x ∷ xs) = let a = cons_le (f x) (filter_map f xs) in let b = filter_map_le f xs in omega arith

all_doublewords : doublewords ≡ 2 ^ 29
unfolding doublewords
all_doublewords = refl

writes_few : (image : Img) → length (first_writes image) ≤ 2 ^ 29
unfolding initial_doublewords
writes_few image =
    let a = filter_map_le (λ k. unless_zero k (initial_word image k)) (range_with_len 0 doublewords) in
    let b = length-range_with_len 0 doublewords in
    let c = all_doublewords in
    let d = length-map (initial_doublewords image) first_write in
    omega arith

reads_few : (public : Public) → length (last_reads public) ≡ 33
unfolding output_reads
reads_few public = refl

accesses_few : (image : Img) (n : ℕ) (public : Public) → length (accesses image n public) ≤ 2 ^ 29 + 5 * n + 33
accesses_few image n public =
    let a = length-append (first_writes image ++ of_steps (records_between image 0 n)) (last_reads public) in
    let b = length-append (first_writes image) (of_steps (records_between image 0 n)) in
    let c = writes_few image in
    let d = steps_few (records_between image 0 n) in
    let e = length-map-range_with_len (record_at image) 0 n in
    let f = reads_few public in
    omega arith

-- ---- instances of so many rows
pub room_for : (air : Air) (m : ℕ) → m ≤ instances air m * rows_per air
unfolding rows_per
room_for Main m = omega arith
room_for Mem m = omega arith
room_for Binary m = omega arith
room_for Shift m = omega arith
room_for Arith m = omega arith
room_for Align m = omega arith
room_for Out m = omega arith

flat : (a b c d e f g : List Table) → a ++ b ++ c ++ d ++ e ++ f ++ g ≡ a ++ (b ++ (c ++ (d ++ (e ++ (f ++ g)))))
flat a b c d e f g = simp append_assoc

module _ (image : Img) (n : ℕ) (public : Public) where
  abbrev pub rows : Air → List (List ℕ)
  rows air = rows_of air image n public

  abbrev pub count : Air → ℕ
  count air = instances air (count_of air image n public)

  out_count : count Out ≡ 1
  unfolding count_of rows_of rows_per
  out_count = refl

  pub is_cut : sequential_tables image n public ≡ tables rows count
  unfolding sequential_tables rows_of count_of
  is_cut =
      flat (step_tables Main image n) (mem_tables image n public) (step_tables Binary image n) (step_tables Shift image n) (step_tables Arith image n) (step_tables Align image n) (out_table public ∷ [])
      ∙ ap (λ m. step_tables Main image n ++ (mem_tables image n public ++ (step_tables Binary image n ++ (step_tables Shift image n ++ (step_tables Arith image n ++ (step_tables Align image n ++ (map (cut rows count Out) (range_with_len 0 m) ++ []))))))) (sym out_count)

  has_main : (x : StepRecord) → has_row Main x ≡ true
  unfolding has_row
  has_main x = refl

  steps_have : (air : Air) → length (rows_to air (row_in air) image n) ≤ n
  steps_have air =
      let a = length-map (records_of air image n) (row_in air) in
      let b = length-filter (has_row air) (records_between image 0 n) in
      let c = count_by-le-length (has_row air) (records_between image 0 n) in
      let d = length-map-range_with_len (record_at image) 0 n in
      omega arith

  module _ (laws : Laws) (loadable : IsLoadable image) (few : n < 2 ^ 32) (run : RunsTo image n public) where
    main_some : 0 < count Main
    unfolding count_of rows_of rows_per
    main_some =
        let a = length-map (records_of Main image n) (row_in Main) in
        let b = ap (λ (xs : List StepRecord). length xs) (all_kept (has_row Main) has_main (records_between image 0 n)) in
        let c = length-map-range_with_len (record_at image) 0 n in
        let d = run.some in
        omega arith

    most : (air : Air) → count air ≤ most_per air
    unfolding count_of rows_of rows_per most_per
    most Main = let h = steps_have Main in omega arith
    most Mem =
        let a = accesses_few image n public in
        let b = length_permutation (accesses image n public) (in_order (accesses image n public)) (laws.sequence image n public loadable few run).same in
        omega arith
    most Binary = let h = steps_have Binary in omega arith
    most Shift = let h = steps_have Shift in omega arith
    most Arith = let h = steps_have Arith in omega arith
    most Align = let h = steps_have Align in omega arith
    most Out = omega arith

    pub are_few : AreFew count
    are_few = record { main = main_some; out = out_count; most = most }
