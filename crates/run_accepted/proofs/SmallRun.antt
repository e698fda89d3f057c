-- The rows of a run are numbers of the field, in each air.
use Rattle.std.proofs.Common.{ℕ, zero, suc, ◌+◌, ◌-◌, ◌*◌, ◌/◌, ◌%◌, ◌^◌, ◌<◌, ◌≤◌, ◌≡◌, ◌≢◌, ◌⊎◌, inl, inr, Bool, true, false, eqb, List, [], ◌∷◌, ◌++◌, Option, Some, None, length, get_or, map, replicate, refl, sym, ap, ◌∙◌, subst, arith}
use Rattle.std.specs.Prelude.{All, Contains, IfSome, slice_get, slice_index}
use Rattle.std.specs.List.{range_with_len}
use Rattle.std.proofs.lemmas.List.Elements.{All-nil, All-cons, All-head, All-tail, All-map, All-filter}
use Rattle.std.proofs.lemmas.List.FromFn.{length-range_with_len, get_or-range_with_len}
use Rattle.std.proofs.lemmas.List.Sorted.{All-permutation, IsPermutation-sym}
use Rattle.std.proofs.lemmas.Option.{slice_get-get_or}
use Rattle.gold.specs.Field.{p}
use Rattle.gold.specs.declared.instances.Witness.{Witness}
use Rattle.rv_word.specs.declared.instr.Instr.{Instr}
use Rattle.rv_word.specs.declared.instr.Instr.TheVariants.{Jalr, Ebreak}
use Rattle.rv_model.specs.Code.{instr_of}
use Rattle.rv_model.specs.Image.{Img, IsLoadable, fetch}
use Rattle.rv_model.specs.Run.{state_at, step_at, RunsTo}
use Rattle.rv_model.specs.State.{State, Answer, Next, Halt, executed, operand}
use Rattle.rv_model.specs.declared.answer.Public.{Public}
use Rattle.rv_model.specs.declared.machine.TheConstants.{OUTPUT_INDEX, OUTPUT_WORDS, EXIT_REGISTER}
use Rattle.zk_layout.specs.Air.{most_per}
use Rattle.zk_layout.specs.declared.air.Air.{Air}
use Rattle.zk_layout.specs.declared.air.Air.TheVariants.{Main, Mem, Binary, Shift, Arith, Align, Out}
use Rattle.min_trace.specs.Bounds.{IsAct, IsRecord}
use Rattle.min_trace.specs.Chunk.{IsStep}
use Rattle.min_trace.specs.Laws.{first_of}
use Rattle.min_trace.specs.Operands.{uw_of}
use Rattle.min_trace.specs.Record.{instr_at, record_at, records_between}
use Rattle.min_trace.specs.declared.record.MemAct.{MemAct}
use Rattle.min_trace.specs.declared.record.StepRecord.{StepRecord}
use Rattle.planner.specs.Rows.{has_row}
use Rattle.run_rows.specs.Tables.{records_of}
use Rattle.step_rows.specs.MainRow.{main_row, cleared_bit, of_access}
use Rattle.step_rows.specs.Rom.{cells, rom_row, rom_rows}
use Rattle.step_rows.specs.Rows.{row_in, access_row}
use Rattle.step_rows.specs.Words.{low, high, one_if}
use Rattle.step_rows.specs.declared.rom_row.RomRow.{RomRow}
use Rattle.mem_rows.specs.declared.access.Access.{Access}
use Rattle.mem_rows.specs.declared.access.TheConstants.{END}
use Rattle.mem_rows.specs.Accesses.{accesses, accesses_to, last_reads, output_reads, output_word, reads, register}
use Rattle.mem_rows.specs.Order.{in_order}
use Rattle.mem_rows.specs.Rows.{final_values, gap, own, step_from, before, row, rows_behind}
use Rattle.mem_rows.specs.Sequence.{InReach}
use Rattle.fixed_cols.specs.Constants.{instruction}
use Rattle.air_main.specs.Constants.{RomConstants}
use Rattle.main_run.specs.Whole.{IsMachine}
use Rattle.machine_columns.specs.Values.{sizes_of, values_of}
use Rattle.machine_columns.specs.Accepted.{AreWellFormed}
use Rattle.run_lines.specs.Rows.{rows_of}
use Rattle.run_accepted.proofs.Below.{Laws}
use Rattle.run_accepted.proofs.Cut.{IsSmallRow}
use Rattle.run_accepted.proofs.Shape.{witness, well_formed}
use Rattle.run_accepted.proofs.Small.{AreSmall, small_row, join, one_small, low_small, high_small, binary_small, shift_small, align_small}
use Rattle.run_accepted.proofs.SmallArith.{cond_most, arith_small}

from_places : (xs : List ℕ) → ((k : ℕ) → k < length xs → slice_index xs k < p) → AreSmall xs
from_places [] h = tt
from_places (x ∷ xs) h = (h 0 (above (length xs)), from_places xs (λ k l. h (suc k) (more k (length xs) l)))
  where
    above : (n : ℕ) → 0 < suc n
    above n = omega arith

    more : (k n : ℕ) → k < n → suc k < suc n
    more k n l = omega arith

zeros_small : (n : ℕ) → AreSmall (replicate n 0)
zeros_small zero = tt
zeros_small (suc n) = (omega arith, zeros_small n)

behind_all : {X : Type 0} (P : X → Type 0) (xs ys : List X) → All P (xs ++ ys) → All P ys
behind_all P [] ys h = h
behind_all P (x ∷ xs) ys h = behind_all P xs ys (All-tail P x (xs ++ ys) h)

unmapped : {X Y : Type 0} (P : Y → Type 0) (f : X → Y) (xs : List X) → All P (map f xs) → All (λ x. P (f x)) xs
unmapped P f [] h = All-nil (λ x. P (f x))
unmapped P f (x ∷ xs) h = All-cons (λ x. P (f x)) x xs (All-head P (f x) (map f xs) h) (unmapped P f xs (All-tail P (f x) (map f xs) h))

-- ---- Rom's rows are constants, and these are numbers of the field where there are tables: one empty Main, and one Out
abbrev bare_count : Air → ℕ
bare_count Main = 1
bare_count Mem = 0
bare_count Binary = 0
bare_count Shift = 0
bare_count Arith = 0
bare_count Align = 0
bare_count Out = 1

abbrev no_rows : Air → List (List ℕ)
no_rows air = []

bare_most : (air : Air) → bare_count air ≤ most_per air
unfolding most_per
bare_most Main = omega arith
bare_most Mem = omega arith
bare_most Binary = omega arith
bare_most Shift = omega arith
bare_most Arith = omega arith
bare_most Align = omega arith
bare_most Out = omega arith

abbrev bare : Witness
bare = witness no_rows bare_count

bare_shaped : AreWellFormed bare
bare_shaped = well_formed no_rows bare_count (record { main = omega arith; out = refl; most = bare_most }) (λ air. All-nil IsSmallRow)

place_back : (m : ℕ) → 1024 * (m / 1024) + m % 1024 ≡ m
place_back m = omega arith

instance_below : (m l n : ℕ) → m < l → l ≤ 1024 * n → m / 1024 < n
instance_below m l n h k = omega arith

row_below : (m n : ℕ) → n ≡ 1024 → m % 1024 < n
row_below m n e = omega arith

module _ (laws : Laws) (image : Img) (loadable : IsLoadable image) where
  is_machine : IsMachine image (sizes_of bare) (values_of image bare)
  is_machine = laws.columns.is_machine image bare loadable bare_shaped

  rom : RomConstants image (values_of image bare)
  rom = (laws.stands image (sizes_of bare) (values_of image bare) is_machine).main.rom

  cell_small : (m k : ℕ) (r : RomRow) → k < 22 → m < length (rom_rows image) → slice_get (rom_rows image) m ≡ Some r → slice_index (1 ∷ cells r) k < p
  cell_small m k r hk hm e =
      subst (λ v. v < p)
      (rom.values (m / 1024) (m % 1024) k (instance_below m _ _ hm rom.enough) (row_below m _ rom.rows_are) hk ∙ ap (λ o. slice_index (instruction o) k) (ap (slice_get (rom_rows image)) (place_back m) ∙ e))
      (is_machine.in_field 4 (m / 1024) k (m % 1024))

  cells_small : (pc : ℕ) (i : Instr) → instr_of (fetch image pc) ≡ Some i → i ≢ Ebreak → AreSmall (1 ∷ cells (rom_row pc i))
  cells_small pc i e h =
      let there : Contains (rom_rows image) (rom_row pc i) = (laws.steps.rom image loadable).every pc i e h in
      from_places (1 ∷ cells (rom_row pc i)) (λ k l. cell_small there.0 k (rom_row pc i) l there.1 (slice_get-get_or (rom_rows image) there.0 (rom_row pc i) there.1 ∙ ap Some there.2))

-- ---- Main
bit_small : (i : Instr) (c : ℕ) → cleared_bit i c < p
bit_small (Jalr rd rs1 imm) c = omega arith
bit_small _ c = omega arith

abbrev acted : Option MemAct → List ℕ
acted o =
    of_access (λ m. m.index % 2 ^ 16) o ∷ of_access (λ m. m.index / 2 ^ 16) o ∷ of_access (λ m. m.off) o
    ∷ of_access (λ m. low m.old) o ∷ of_access (λ m. high m.old) o ∷ of_access (λ m. low m.result) o ∷ of_access (λ m. high m.result) o ∷ []

acted_small : (o : Option MemAct) → IfSome o IsAct → AreSmall (acted o)
acted_small None h = (omega arith, (omega arith, (omega arith, (omega arith, (omega arith, (omega arith, (omega arith, tt)))))))
acted_small (Some m) h =
    let i = h.index in
    let o = h.off in
    (omega arith, (omega arith, (omega arith, (low_small m.old, (high_small m.old h.old, (low_small m.result, (high_small m.result h.result, tt)))))))

main_small : (x : StepRecord) → IsRecord x → AreSmall (1 ∷ cells (rom_row x.pc x.instr)) → AreSmall (main_row x)
main_small x h cs =
    join (1 ∷ cells (rom_row x.pc x.instr)) (low x.a ∷ high x.a ∷ low x.s ∷ high x.s ∷ low x.c ∷ high x.c ∷ one_if x.flag ∷ cleared_bit x.instr x.c ∷ acted x.mem) cs
    (low_small x.a, (high_small x.a h.a, (low_small x.s, (high_small x.s h.s, (low_small x.c, (high_small x.c h.c, (one_small x.flag, (bit_small x.instr x.c, acted_small x.mem h.mem))))))))

-- ---- the airs of steps
first_below : (b : Bool) (v : ℕ) → v < 2 ^ 64 → operand b v < 2 ^ 64
first_below true v h = omega arith
first_below false v h = h

access_small : (o : Option MemAct) (v : ℕ) → IsSmallRow (access_row o v)
access_small None v = small_row [] tt
access_small (Some m) v = small_row (access_row (Some m) v) (align_small m.kind m.off m.old v)

step_small : (air : Air) (x : StepRecord) → IsRecord x → AreSmall (1 ∷ cells (rom_row x.pc x.instr)) → IsSmallRow (row_in air x)
step_small Main x h cs = small_row (main_row x) (main_small x h cs)
step_small Binary x h _ = small_row (row_in Binary x) (binary_small x.op (first_of x) x.b (first_below (uw_of x.instr) x.a h.a) h.b)
step_small Shift x h _ = small_row (row_in Shift x) (shift_small x.op (first_of x) x.b (first_below (uw_of x.instr) x.a h.a) h.b)
step_small Arith x h _ = small_row (row_in Arith x) (arith_small x.op (first_of x) x.b (first_below (uw_of x.instr) x.a h.a) h.b)
step_small Align x h _ = access_small x.mem x.s
step_small Mem x h _ = small_row [] tt
step_small Out x h _ = small_row [] tt

ends_step : (a : Answer) → ((t : State) × (a ≡ Next t) × (t.pc < 2 ^ 32)) ⊎ (a ≡ Halt) → IsStep a
ends_step a (inl h) = subst IsStep (sym h.1) tt
ends_step a (inr h) = subst IsStep (sym h) tt

module _ (laws : Laws) (image : Img) (n : ℕ) (public : Public) (loadable : IsLoadable image) (few : n < 2 ^ 32) (run : RunsTo image n public) where
  module _ (j : ℕ) (l : j < n) where
    is_step : IsStep (step_at image j)
    is_step = ends_step (step_at image j) (laws.steps.rows image n public loadable run j l).ends

    instr_is : (record_at image j).instr ≡ instr_at image j
    unfolding record_at
    instr_is = refl

    no_break : (record_at image j).instr ≢ Ebreak
    no_break e = subst IsStep (laws.steps.executes image j is_step ∙ ap (λ i. executed i (state_at image j)) (sym instr_is ∙ e)) is_step

    row_here : (air : Air) → IsSmallRow (row_in air (record_at image j))
    row_here air = step_small air (record_at image j) (laws.steps.bounds image loadable j is_step) (cells_small laws image loadable (record_at image j).pc (record_at image j).instr (laws.steps.here image j is_step) no_break)

  steps_small : (air : Air) → All IsSmallRow (map (row_in air) (records_of air image n))
  steps_small air =
      All-map IsSmallRow (row_in air) (records_of air image n) (All-filter (has_row air) (λ x. IsSmallRow (row_in air x)) (records_between image 0 n)
      (All-map (λ x. IsSmallRow (row_in air x)) (record_at image) (range_with_len 0 n) (λ k d l. row_here (get_or (range_with_len 0 n) k d) (below k d l) air)))
    where
      below : (k d : ℕ) → k < length (range_with_len 0 n) → get_or (range_with_len 0 n) k d < n
      below k d l =
          let a = length-range_with_len 0 n in
          let b = get_or-range_with_len 0 n k d (omega arith) in
          omega arith

  in_reach : All InReach (in_order (accesses image n public))
  in_reach = (laws.sequence image n public loadable few run).in_reach

  -- ---- Mem
  gap_most : (a b : Access) → InReach b → gap a b ≤ 2 ^ 40
  gap_most a b h = let k = h.key in let t = h.time in cond_most (eqb b.key a.key) (b.time - a.time - 1) (b.key - a.key - 1) (2 ^ 40) (omega arith) (omega arith)

  own_small : (a : Access) → InReach a → AreSmall (own a)
  own_small a h = let k = h.key in let t = h.time in (omega arith, (omega arith, (omega arith, (one_small a.write, (low_small a.value, (high_small a.value h.value, tt))))))

  step_from_small : (a b : Access) → InReach b → AreSmall (step_from a b)
  step_from_small a b h = let g = gap_most a b h in (one_small (eqb b.key a.key), (omega arith, (omega arith, (omega arith, tt))))

  before_small : (a : Access) → InReach a → AreSmall (before a)
  before_small a h = let k = h.key in let t = h.time in (omega arith, (omega arith, (omega arith, (low_small a.value, (high_small a.value h.value, tt)))))

  mem_row_small : (b o : Option Access) → IfSome b InReach → IfSome o InReach → AreSmall (row b o)
  mem_row_small None None h k = zeros_small 15
  mem_row_small None (Some a) h k = join (own a) (replicate 9 0) (own_small a k) (zeros_small 9)
  mem_row_small (Some b) None h k = join (replicate 10 0) (before b) (zeros_small 10) (before_small b h)
  mem_row_small (Some b) (Some a) h k = join (own a) (step_from b a ++ before b) (own_small a k) (join (step_from b a) (before b) (step_from_small b a k) (before_small b h))

  mem_small : (b : Option Access) (xs : List Access) → IfSome b InReach → All InReach xs → All IsSmallRow (rows_behind b xs)
  mem_small b [] h all = All-cons IsSmallRow (row b None) [] (small_row (row b None) (mem_row_small b None h tt)) (All-nil IsSmallRow)
  mem_small b (a ∷ xs) h all =
      let here : InReach a = All-head InReach a xs all in
      All-cons IsSmallRow (row b (Some a)) (rows_behind (Some a) xs) (small_row (row b (Some a)) (mem_row_small b (Some a) h here)) (mem_small (Some a) xs here (All-tail InReach a xs all))

  -- ---- Out
  limbs_small : (v : ℕ) → v < 2 ^ 64 → IsSmallRow (low v ∷ high v ∷ [])
  limbs_small v h = small_row (low v ∷ high v ∷ []) (low_small v, (high_small v h, tt))

  final_reach : All InReach (last_reads public)
  final_reach =
      let s = (laws.sequence image n public loadable few run).same in
      behind_all InReach (accesses_to image n) (last_reads public) (All-permutation InReach (in_order (accesses image n public)) (accesses image n public) (IsPermutation-sym (accesses image n public) (in_order (accesses image n public)) s) in_reach)

  out_small : All IsSmallRow (map (λ v. low v ∷ high v ∷ []) (final_values public))
  unfolding output_reads
  out_small =
      let f : ℕ → Access = λ k. reads (OUTPUT_INDEX + k) END (output_word public k) in
      let exit = reads (register EXIT_REGISTER) END public.exit in
      let words = range_with_len 0 OUTPUT_WORDS in
      let first : InReach exit = All-head InReach exit (map f words) final_reach in
      let rest : All (λ k. InReach (f k)) words = unmapped InReach f words (All-tail InReach exit (map f words) final_reach) in
      All-map IsSmallRow (λ v. low v ∷ high v ∷ []) (final_values public)
      (All-cons (λ v. IsSmallRow (low v ∷ high v ∷ [])) public.exit (map (output_word public) words) (limbs_small public.exit first.value)
      (All-map (λ v. IsSmallRow (low v ∷ high v ∷ [])) (output_word public) words (λ k d l. limbs_small (output_word public (get_or words k d)) (rest k d l).value)))

  -- ---- all airs
  pub rows_small : (air : Air) → All IsSmallRow (rows_of air image n public)
  unfolding rows_of
  rows_small Main = steps_small Main
  rows_small Mem = mem_small None (in_order (accesses image n public)) tt in_reach
  rows_small Binary = steps_small Binary
  rows_small Shift = steps_small Shift
  rows_small Arith = steps_small Arith
  rows_small Align = steps_small Align
  rows_small Out = out_small
