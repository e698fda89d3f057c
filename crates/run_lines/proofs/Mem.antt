-- Mem has the accesses of the run in order, and Out its final values.
use Rattle.std.proofs.Common.{ℕ, zero, suc, ◌+◌, ◌*◌, ◌^◌, ◌<◌, ◌≤◌, ◌≡◌, Bool, false, eqb, List, [], ◌∷◌, ◌++◌, Option, Some, None, length, get_or, map, replicate, refl, sym, ap, ◌∙◌, subst, arith, append_assoc}
use Rattle.std.specs.Prelude.{All, AllPairs, Contains, slice_get, slice_index, slice_index_or}
use Rattle.std.specs.List.{range_with_len}
use Rattle.std.specs.List.Sorted.{IsPermutation}
use Rattle.std.specs.Option.{option_map}
use Rattle.std.proofs.lemmas.Bool.Decides.{nat_tests}
use Rattle.std.proofs.lemmas.List.{length-map, map-append, get_or-map}
use Rattle.std.proofs.lemmas.List.Elements.{All-map, All-weaker}
use Rattle.std.proofs.lemmas.List.Sorted.{IsPermutation-map, IsPermutation-trans, IsPermutation-append_comm, IsPermutation-append_left}
use Rattle.zk_layout.specs.Air.{columns_per}
use Rattle.zk_layout.specs.Namespaces.{namespace_number, namespace_of}
use Rattle.zk_layout.specs.declared.air.Air.TheVariants as airs
use Rattle.rv_model.specs.Image.{Img, IsLoadable}
use Rattle.rv_model.specs.Run.{RunsTo}
use Rattle.rv_model.specs.declared.answer.Public.{Public}
use Rattle.rv_model.specs.declared.machine.TheConstants.{OUTPUT_INDEX, EXIT_REGISTER}
use Rattle.pil_ast.specs.Term.{item_at}
use Rattle.pil_ast.specs.Columns.{Columns}
use Rattle.pil_ast.specs.Holds.{Holds}
use Rattle.pil_laws.specs.Table.{held}
use Rattle.fixed_cols.specs.declared.sizes.Sizes.{Sizes}
use Rattle.machine_text.specs.Machine.{machine}
use Rattle.machine_text.specs.Main
use Rattle.min_trace.specs.Record.{records_between}
use Rattle.step_rows.specs.Initial.{initial_doublewords}
use Rattle.step_rows.specs.Words.{low, high}
use Rattle.mem_rows.specs.declared.access.Access.{Access as Kept}
use Rattle.mem_rows.specs.declared.access.TheConstants.{END}
use Rattle.mem_rows.specs.Accesses.{reads, register, of_steps, first_write, first_writes, output_word, output_reads, last_reads, accesses}
use Rattle.mem_rows.specs.Order.{in_order}
use Rattle.mem_rows.specs.Rows.{row, rows_behind, final_values}
use Rattle.mem_rows.specs.Sequence as Runs
use Rattle.air_mem.specs.Access.{Access, InReach, ComesBefore, IsEarlierWrite, HasLast, written, never, IsReadLastWrite, IsSequence}
use Rattle.air_mem.specs.Lists.{initial_write, final_read, final_reads, all_accesses}
use Rattle.air_mem.specs.Rows.{mem_row, IsMemOf}
use Rattle.air_mem.specs.Constants as MemConstants
use Rattle.air_mem.specs.Rows as MemRows
use Rattle.air_mem.specs.Laws.{MemHolds}
use Rattle.main_run.specs.Stands.{AirsStand}
use Rattle.run_lines.specs.Rows.{rows_of, count_of, constants_of, AreRunOf}
use Rattle.run_lines.proofs.Below.{Laws}
use Rattle.run_lines.proofs.Lists.{row_at, value_there}
use Rattle.run_lines.proofs.Slots.{limbed}
use Rattle.run_lines.proofs.Main.{accesses_sent, stands}

-- ---- the rows
same_test : (a b : ℕ) → eqb a b ≡ eqb b a
same_test a b = grind (arith, nat_tests)

row_is : (p o : Option Kept) → row p o ≡ mem_row (option_map limbed p) (option_map limbed o)
row_is None None = refl
row_is None (Some a) = refl
row_is (Some p) None = refl
row_is (Some p) (Some a) = let e = same_test p.key a.key in rw e refl

-- the access before place j, where p stands before the list
abbrev before : Option Access → List Access → ℕ → Option Access
before p xs zero = p
before p xs (suc m) = slice_get xs m

no_values : (k : ℕ) → slice_index (mem_row None None) k ≡ 0
no_values k = zeros 15 k
  where
    zeros : (n k : ℕ) → slice_index (replicate n 0) k ≡ 0
    zeros zero k = refl
    zeros (suc n) zero = refl
    zeros (suc n) (suc k) = zeros n k

moved_on : (a : Kept) (p : Option Access) (xs : List Access) (j : ℕ) → before (Some (limbed a)) xs j ≡ before p (limbed a ∷ xs) (suc j)
moved_on a p xs zero = refl
moved_on a p xs (suc m) = refl

rows_are : (p : Option Kept) (xs : List Kept) (j k : ℕ) → slice_index (slice_index_or (rows_behind p xs) j []) k ≡ slice_index (mem_row (before (option_map limbed p) (map limbed xs) j) (slice_get (map limbed xs) j)) k
rows_are p [] zero k = ap (λ ys. slice_index ys k) (row_is p None)
rows_are p [] (suc m) k = sym (no_values k)
rows_are p (a ∷ xs) zero k = ap (λ ys. slice_index ys k) (row_is p (Some a))
rows_are p (a ∷ xs) (suc j) k = rows_are (Some a) xs j k ∙ ap (λ o. slice_index (mem_row o (slice_get (map limbed xs) j)) k) (moved_on a (option_map limbed p) (map limbed xs) j)

before_is : (xs : List Access) (j : ℕ) → before None xs j ≡ MemRows.before xs j
before_is xs zero = refl
before_is xs (suc m) = refl

-- ---- a sequence, by limbs
from_map : {X Y : Type 0} (f : X → Y) (xs : List X) (y : Y) (k : ℕ) → k < length (map f xs) → get_or (map f xs) k y ≡ y → (x : X) × Contains xs x × (y ≡ f x)
from_map f [] y k l e = absurd (omega arith)
from_map f (x ∷ xs) y zero l e = (x, (0, above (length xs), refl), sym e)
  where
    above : (n : ℕ) → 0 < suc n
    above n = omega arith
from_map f (x ∷ xs) y (suc k) l e =
    let w = from_map f xs y k (omega arith) e in
    (w.0, (suc w.1.0, more _ _ w.1.1, w.1.2), w.2)
  where
    more : (k n : ℕ) → k < n → suc k < suc n
    more k n h = omega arith

into_map : {X Y : Type 0} (f : X → Y) (xs : List X) (x : X) (k : ℕ) → k < length xs → get_or xs k x ≡ x → Contains (map f xs) (f x)
into_map f [] x k l e = absurd (omega arith)
into_map f (y ∷ xs) x zero l e = (0, above (length (map f xs)), ap f e)
  where
    above : (n : ℕ) → 0 < suc n
    above n = omega arith
into_map f (y ∷ xs) x (suc k) l e =
    let w = into_map f xs x k (omega arith) e in
    (suc w.0, more _ _ w.1, w.2)
  where
    more : (k n : ℕ) → k < n → suc k < suc n
    more k n h = omega arith

-- an access that stands past the end
abbrev empty : Kept
empty = record { time = 0; value = 0; key = 0; write = false }

module _ (xs : List Kept) where
  contained : (a : Kept) → Contains xs a → Contains (map limbed xs) (limbed a)
  contained a h = into_map limbed xs a h.0 h.1 h.2

  behind : (y : Access) → Contains (map limbed xs) y → (a : Kept) × Contains xs a × (y ≡ limbed a)
  behind y h = from_map limbed xs y h.0 h.1 h.2

  last_is : (a : Kept) → Runs.HasLast xs a → HasLast (map limbed xs) (limbed a)
  unfolding low high
  last_is a (Runs.written w h e) =
      written (limbed w) (record {
        there = contained w h.there;
        earlier = record { write = h.earlier.write; key = h.earlier.key; before = h.earlier.before };
        greatest = λ v there earlier. greatest v (behind v there) earlier;
      }) (ap low e) (ap high e)
    where
      greatest : (v : Access) → (b : Kept) × Contains xs b × (v ≡ limbed b) → IsEarlierWrite (limbed a) v → v.time ≤ w.time
      greatest v b earlier =
          let f : IsEarlierWrite (limbed a) (limbed b.0) = subst (IsEarlierWrite (limbed a)) b.2 earlier in
          subst (λ z. z.time ≤ w.time) (sym b.2) (h.greatest b.0 b.1 (record { write = f.write; key = f.key; before = f.before }))
  last_is a (Runs.never h e) = never (λ v there earlier. none v (behind v there) earlier) (ap low e) (ap high e)
    where
      none : (v : Access) → (b : Kept) × Contains xs b × (v ≡ limbed b) → IsEarlierWrite (limbed a) v → ⊥
      none v b earlier =
          let f : IsEarlierWrite (limbed a) (limbed b.0) = subst (IsEarlierWrite (limbed a)) b.2 earlier in
          h b.0 b.1 (record { write = f.write; key = f.key; before = f.before })

  right : Runs.IsReadLastWrite xs → IsReadLastWrite (map limbed xs)
  right h y there reads = by (behind y there)
    where
      by : (b : Kept) × Contains xs b × (y ≡ limbed b) → HasLast (map limbed xs) y
      by b = subst (HasLast (map limbed xs)) (sym b.2) (last_is b.0 (h b.0 b.1 (sym (ap (λ z. z.write) b.2) ∙ reads)))

  in_reach : All Runs.InReach xs → All InReach (map limbed xs)
  in_reach all = All-map InReach limbed xs (All-weaker Runs.InReach (λ a. InReach (limbed a)) (λ a h. record { key = h.key; time = h.time }) xs all)

  pairs : AllPairs Runs.ComesBefore xs → AllPairs ComesBefore (map limbed xs)
  pairs h i j d l m = at (length-map xs limbed)
    where
      at : length (map limbed xs) ≡ length xs → ComesBefore (get_or (map limbed xs) i d) (get_or (map limbed xs) j d)
      at e =
          let a : get_or (map limbed xs) i d ≡ limbed (get_or xs i empty) = get_or-map limbed xs i empty d (omega arith) in
          let b : get_or (map limbed xs) j d ≡ limbed (get_or xs j empty) = get_or-map limbed xs j empty d (omega arith) in
          subst (λ z. ComesBefore z (get_or (map limbed xs) j d)) (sym a) (subst (λ z. ComesBefore (limbed (get_or xs i empty)) z) (sym b) (h i j empty l (omega arith)))

pub sequence_is : (xs ys : List Kept) → Runs.IsSequenceOf xs ys → IsSequence (map limbed ys)
sequence_is xs ys h = record { in_order = pairs ys h.ascending; in_reach = in_reach ys h.in_reach; right = right ys h.right }

-- ---- the final values
map_shifted : {A : Type 0} (f g : ℕ → A) (a b n : ℕ) → ((k : ℕ) → k < n → f (a + k) ≡ g (b + k)) → map f (range_with_len a n) ≡ map g (range_with_len b n)
map_shifted f g a b zero h = refl
map_shifted f g a b (suc n) h =
    let first : f a ≡ g b = ap f (omega arith) ∙ h 0 (omega arith) ∙ ap g (omega arith) in
    let rest = map_shifted f g (a + 1) (b + 1) n (λ k l. ap f (omega arith) ∙ h (k + 1) (omega arith) ∙ ap g (omega arith)) in
    ap (λ z. z ∷ map f (range_with_len (a + 1) n)) first ∙ ap (λ zs. g b ∷ zs) rest

map_twice : {A B C : Type 0} (f : B → C) (g : A → B) (h : A → C) → ((x : A) → f (g x) ≡ h x) → (xs : List A) → map f (map g xs) ≡ map h xs
map_twice f g h e [] = refl
map_twice f g h e (x ∷ xs) = ap (λ z. z ∷ map f (map g xs)) (e x) ∙ ap (λ zs. h x ∷ zs) (map_twice f g h e xs)

same_access : (k l t lo lo' hi hi' : ℕ) (w : Bool) → k ≡ l → lo ≡ lo' → hi ≡ hi' → ◌≡◌ {A = Access} (record { key = k; time = t; write = w; lo = lo; hi = hi }) (record { key = l; time = t; write = w; lo = lo'; hi = hi' })
same_access k l t lo lo' hi hi' w e f g = ap (λ z. record { key = z; time = t; write = w; lo = lo; hi = hi }) e ∙ (ap (λ z. record { key = l; time = t; write = w; lo = z; hi = hi }) f ∙ ap (λ z. record { key = l; time = t; write = w; lo = lo'; hi = z }) g)

out_key_is : (k : ℕ) → k < 32 → MemConstants.out_key (1 + k) ≡ 167772160 + (0 + k)
out_key_is k l = grind (arith, nat_tests)

-- the row of a final value
abbrev limbs_row : ℕ → List ℕ
limbs_row v = low v ∷ high v ∷ []

module _ (image : Img) (n : ℕ) (public : Public) (sizes : Sizes) (c : Columns) (are : AreRunOf image n public sizes c) (one : c.instances 8 ≡ 1) (tall : c.rows 8 ≡ 64) where
  out_at : (k r : ℕ) → k < 2 → r < 64 → c.at 8 0 (2 + k) r ≡ held (λ v k. slice_index (limbs_row v) k) (slice_get (final_values public) r) k
  unfolding namespace_number namespace_of constants_of columns_per rows_of
  out_at k r hk hr =
      (are.rows airs.Out).each 0 r k (first one) (tall_enough tall) hk ∙ ap (λ m. slice_index (slice_index_or (map limbs_row (final_values public)) m []) k) (no_rows (c.rows 8)) ∙ row_at limbs_row (final_values public) r k
    where
      first : c.instances 8 ≡ 1 → 0 < c.instances 8
      first e = omega arith

      tall_enough : c.rows 8 ≡ 64 → r < c.rows 8
      tall_enough e = omega arith

      no_rows : (m : ℕ) → 0 * m + r ≡ r
      no_rows m = omega arith

  out_first : (k : ℕ) → k < 2 → c.at 8 0 (2 + k) 0 ≡ slice_index (limbs_row public.exit) k
  out_first k hk = out_at k 0 hk (omega arith)

  out_word : (k j : ℕ) → k < 2 → j < 32 → c.at 8 0 (2 + k) (1 + j) ≡ slice_index (limbs_row (output_word public j)) k
  out_word k j hk hj =
      ap (c.at 8 0 (2 + k)) (one_on j) ∙ out_at k (suc j) hk (omega arith) ∙ ap (λ o. held (λ v k. slice_index (limbs_row v) k) o k) (value_there (output_word public) 32 j hj)
    where
      one_on : (j : ℕ) → 1 + j ≡ suc j
      one_on j = omega arith

  finals_are : final_reads c ≡ map limbed (last_reads public)
  unfolding output_reads
  finals_are =
      ap (λ a. a ∷ map (final_read c) (range_with_len 1 32)) (same_access _ _ _ _ _ _ _ false refl (out_first 0 (omega arith)) (out_first 1 (omega arith)))
      ∙ ap (λ xs. limbed (reads (register EXIT_REGISTER) END public.exit) ∷ xs) (map_shifted (final_read c) (λ k. limbed (reads (OUTPUT_INDEX + k) END (output_word public k))) 1 0 32 each ∙ sym (map_twice limbed (λ k. reads (OUTPUT_INDEX + k) END (output_word public k)) (λ k. limbed (reads (OUTPUT_INDEX + k) END (output_word public k))) (λ k. refl) (range_with_len 0 32)))
    where
      each : (k : ℕ) → k < 32 → final_read c (1 + k) ≡ limbed (reads (OUTPUT_INDEX + (0 + k)) END (output_word public (0 + k)))
      each k l =
          same_access _ _ _ _ _ _ _ false (out_key_is k l) (out_word 0 k (omega arith) l ∙ ap (λ j. low (output_word public j)) (same k)) (out_word 1 k (omega arith) l ∙ ap (λ j. high (output_word public j)) (same k))
        where
          same : (k : ℕ) → k ≡ 0 + k
          same k = omega arith

-- ---- all of them
module _ (laws : Laws) (image : Img) (n : ℕ) (public : Public) (sizes : Sizes) (c : Columns) (loadable : IsLoadable image) (few : n < 2 ^ 32) (run : RunsTo image n public) (are : AreRunOf image n public sizes c) where
  abbrev made : List Kept
  made = accesses image n public

  abbrev kept : List Access
  kept = map limbed (in_order made)

  abbrev steps : List Access
  steps = map limbed (of_steps (records_between image 0 n))

  sequence : Runs.IsSequenceOf made (in_order made)
  sequence = laws.mem.sequence image n public loadable few run

  air : AirsStand image sizes.profile c
  air = stands laws image n public sizes c loadable few run are

  is_mem : IsMemOf c kept
  unfolding namespace_number namespace_of constants_of columns_per rows_of count_of
  is_mem = record {
    room = subst (λ m. m ≤ c.instances 7 * c.rows 7) (sym (length-map (in_order made) limbed)) (are.room airs.Mem);
    row = λ i r k hi hr hk. (are.rows airs.Mem).each i r k hi hr hk ∙ rows_are None (in_order made) (i * c.rows 7 + r) k ∙ ap (λ o. slice_index (mem_row o (slice_get kept (i * c.rows 7 + r))) k) (before_is kept (i * c.rows 7 + r));
  }

  pub mem_lines : MemHolds (machine sizes.profile) c
  mem_lines = laws.mem.filled (machine sizes.profile) c kept air.mem (sequence_is made (in_order made) sequence) is_mem

  firsts_are : map initial_write (initial_doublewords image) ≡ map limbed (first_writes image)
  firsts_are = sym (map_twice limbed first_write initial_write (λ d. refl) (initial_doublewords image))

  -- what Main, Init and Out send is what Mem has, in another order
  moved : IsPermutation (all_accesses steps (initial_doublewords image) c) kept
  moved =
      let firsts = map initial_write (initial_doublewords image) in
      let split : map limbed made ≡ (firsts ++ steps) ++ final_reads c
      = map-append limbed (first_writes image ++ of_steps (records_between image 0 n)) (last_reads public)
      ∙ ap (λ xs. xs ++ map limbed (last_reads public)) (map-append limbed (first_writes image) (of_steps (records_between image 0 n)) ∙ ap (λ xs. xs ++ steps) (sym firsts_are))
      ∙ ap (λ xs. (firsts ++ steps) ++ xs) (sym (finals_are image n public sizes c are air.out.instances air.out.rows)) in
      let swapped : IsPermutation ((steps ++ firsts) ++ final_reads c) ((firsts ++ steps) ++ final_reads c) = IsPermutation-append_left (final_reads c) (steps ++ firsts) (firsts ++ steps) (IsPermutation-append_comm steps firsts) in
      IsPermutation-trans (steps ++ (firsts ++ final_reads c)) (map limbed made) kept
      (subst (λ z. IsPermutation z (map limbed made)) (append_assoc steps firsts (final_reads c)) (subst (λ z. IsPermutation ((steps ++ firsts) ++ final_reads c) z) (sym split) swapped))
      (IsPermutation-map limbed made (in_order made) sequence.same)

  pub memory_line : Holds (machine sizes.profile) c (item_at Main.items 73)
  memory_line = laws.mem.bus (machine sizes.profile) c Main.accesses steps (initial_doublewords image) kept air.init air.out (accesses_sent laws image n public sizes c loadable few run are) moved is_mem
