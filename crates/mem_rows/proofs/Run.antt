-- All accesses of a run that halts.
use Rattle.std.proofs.Common.{◌≡◌, ◌==◌, ◌+◌, ◌-◌, ◌*◌, ◌^◌, ◌<◌, ◌≤◌, ◌⊎◌, inl, inr, ⊎_elim, ℕ, zero, suc, Bool, true, false, true≢false, cond, List, [], ◌∷◌, ◌++◌, Option, Some, None, map, length, get_or, slice_index, replicate, refl, ap, sym, ◌∙◌, subst, arith, add-one}
use Rattle.std.specs.Prelude.{All, AllPairs, Contains, IfSome, nat_lt}
use Rattle.std.specs.List.{flat_map, range_with_len}
use Rattle.std.specs.List.Sorted.{IsPermutation}
use Rattle.std.proofs.lemmas.Bool.{cases_lt, eq-eqb}
use Rattle.std.proofs.lemmas.Bool.Decides.{nat_tests}
use Rattle.std.proofs.lemmas.List.Elements.{All-nil, All-cons, All-append, All-same, All-weaker}
use Rattle.std.proofs.lemmas.List.Kept.{AllPairs-cons}
use Rattle.std.proofs.lemmas.List.Sorted.{IsPermutation-sym, All-permutation, Contains-permutation}
use Rattle.rv_model.specs.Image.{Img, initial_word}
use Rattle.rv_model.specs.declared.access.Access.{Access as Touch}
use Rattle.rv_model.specs.Run.{state_at, step_at, moved, IsNext, RunsTo, public_of}
use Rattle.rv_model.specs.Cpu.{access}
use Rattle.rv_model.specs.State.{State, Answer, Next, Halt, Fault}
use Rattle.rv_model.specs.declared.answer.Public.{Public}
use Rattle.rv_model.specs.declared.machine.TheConstants.{MEMORY_WORDS, OUTPUT_INDEX, OUTPUT_WORDS, EXIT_REGISTER}
use Rattle.min_trace.specs.After.{after}
use Rattle.min_trace.specs.Bounds.{IsAct, IsRecord, IsState}
use Rattle.min_trace.specs.Chunk.{IsStep}
use Rattle.min_trace.specs.declared.record.MemAct.{MemAct}
use Rattle.min_trace.specs.Record.{act, instr_at, record_at, records_between}
use Rattle.mem_rows.specs.declared.access.Access.{Access}
use Rattle.mem_rows.specs.declared.access.TheConstants.{REGISTERS, SLOTS, END}
use Rattle.mem_rows.specs.Accesses.{reads, writes, register, of_step, of_steps, first_writes, output_word, output_reads, last_reads, accesses, accesses_to}
use Rattle.mem_rows.specs.Initial.{write_at}
use Rattle.mem_rows.specs.Order.{of_key, key_end, in_order}
use Rattle.mem_rows.specs.Sequence.{InReach, IsLastWrite, HasLast, written, never, IsReadLastWrite, IsSequenceOf}
use Rattle.mem_rows.proofs.Begun.{writes_from, writes_off, writes_at, all_writes}
use Rattle.mem_rows.proofs.Pairs.{Later, pairs_append, permuted, ascends_in_order}
use Rattle.mem_rows.proofs.Rising.{Fits, steps_rise, rising_later, times_between, step_fits}
use Rattle.mem_rows.proofs.States.{held, held_in, held_word, AreSteps, steps_read, last_read, output_is}
use Rattle.mem_rows.proofs.Values.{put, after_all, Reads, Same, after_own, after_append, reads_append, right}

-- ---- the writes before the run
pub record IsFirst (low : ℕ) (high : ℕ) (a : Access) : Type 0 where
  pub from : low ≤ a.key
  pub to : a.key < high
  pub time : a.time ≡ 0
  pub write : a.write ≡ true
  pub value : a.value < 2 ^ 64

one_write : (k v : ℕ) (b : Bool) → v < 2 ^ 64 → All (IsFirst k (k + 1)) (cond b [] (writes k 0 v ∷ []))
one_write k v true small = All-nil (IsFirst k (k + 1))
one_write k v false small = All-cons (IsFirst k (k + 1)) (writes k 0 v) [] (record { from = omega arith; to = omega arith; time = refl; write = refl; value = small }) (All-nil (IsFirst k (k + 1)))

writes_first : (image : Img) → ((k : ℕ) → initial_word image k < 2 ^ 64) → (n low : ℕ) → All (IsFirst low (low + n)) (writes_from image low n)
unfolding writes_from
writes_first image small zero low = All-nil (IsFirst low (low + 0))
writes_first image small (suc n) low =
    All-append (IsFirst low (low + suc n)) (write_at image low) (writes_from image (low + 1) n)
    (All-weaker (IsFirst low (low + 1)) (IsFirst low (low + suc n)) (λ a is. let t = is.to in record { from = is.from; to = omega arith; time = is.time; write = is.write; value = is.value }) (write_at image low) (one_write low (initial_word image low) (initial_word image low == 0) (small low)))
    (All-weaker (IsFirst (low + 1) (low + 1 + n)) (IsFirst low (low + suc n)) (λ a is. let f = is.from in let t = is.to in record { from = omega arith; to = omega arith; time = is.time; write = is.write; value = is.value }) (writes_from image (low + 1) n) (writes_first image small n (low + 1)))

one_later : (k v : ℕ) (b : Bool) → AllPairs Later (cond b [] (writes k 0 v ∷ []))
one_later k v true = λ i j d lt within. absurd (omega arith)
one_later k v false = λ i j d lt within. absurd (omega arith)

writes_later : (image : Img) → ((k : ℕ) → initial_word image k < 2 ^ 64) → (n low : ℕ) → AllPairs Later (writes_from image low n)
unfolding writes_from
writes_later image small zero low = λ i j d lt within. absurd (omega arith)
writes_later image small (suc n) low =
    pairs_append Later (write_at image low) (writes_from image (low + 1) n) (one_later low (initial_word image low) (initial_word image low == 0)) (writes_later image small n (low + 1))
    (All-weaker (IsFirst low (low + 1)) (λ b. All (Later b) (writes_from image (low + 1) n))
    (λ b is. All-weaker (IsFirst (low + 1) (low + 1 + n)) (Later b) (λ a is' same. let t = is.to in let f = is'.from in absurd (omega arith)) (writes_from image (low + 1) n) (writes_first image small n (low + 1))) (write_at image low)
    (one_write low (initial_word image low) (initial_word image low == 0) (small low)))

all_written : (f : ℕ → ℕ) (xs : List Access) → ((k : ℕ) (d : Access) → k < length xs → (get_or xs k d).write ≡ true) → Reads f xs
all_written f [] h = tt
all_written f (a ∷ xs) h = ((λ e. absurd (true≢false (sym (h 0 a (omega arith)) ∙ e))), all_written (put f a) xs (λ k d lt. h (suc k) d (omega arith)))

abbrev zeros : ℕ → ℕ
zeros k = 0

one_value : (k v : ℕ) (b : Bool) → (v == 0) ≡ b → after_all zeros (cond b [] (writes k 0 v ∷ [])) k ≡ v
one_value k v true e = let z : v ≡ 0 = grind (arith, nat_tests) in sym z
one_value k v false e = let yes : (k == k) ≡ true = eq-eqb k k refl in rw yes refl

no_registers : (n i : ℕ) → slice_index (replicate n 0) i ≡ 0
no_registers zero i = refl
no_registers (suc n) zero = refl
no_registers (suc n) (suc i) = no_registers n i

-- after them the values are those of the first state
started : (image : Img) → Same (after_all zeros (first_writes image)) (held_in (state_at image 0))
unfolding state_at
started image k =
    after_own zeros zeros (first_writes image) k refl ∙ ap (λ xs. after_all zeros (of_key xs k) k) (all_writes image)
    ∙ ⊎_elim
    (λ lt. ap (λ xs. after_all zeros xs k) (writes_at image 0 MEMORY_WORDS k (omega arith) (omega arith)) ∙ one_value k (initial_word image k) (initial_word image k == 0) refl ∙ sym (held_word (initial_word image) (replicate 32 0) k (omega arith)))
    (λ le. ap (λ xs. after_all zeros xs k) (writes_off image 0 MEMORY_WORDS k (inr (omega arith))) ∙ sym (high k le)) (cases_lt k MEMORY_WORDS)
  where
    high : (k : ℕ) → MEMORY_WORDS ≤ k → held (initial_word image) (replicate 32 0) k ≡ 0
    high k le = let no : nat_lt k REGISTERS ≡ false = grind (arith, nat_tests) in rw no (no_registers 32 (k - REGISTERS))

-- ---- the accesses after the run
outputs_all : (P : Access → Type 0) (public : Public) (n a : ℕ) → ((k : ℕ) → a ≤ k → k < a + n → P (reads (OUTPUT_INDEX + k) END (output_word public k))) → All P (map (λ k. reads (OUTPUT_INDEX + k) END (output_word public k)) (range_with_len a n))
outputs_all P public zero a h = All-nil P
outputs_all P public (suc n) a h =
    All-cons P (reads (OUTPUT_INDEX + a) END (output_word public a)) (map (λ k. reads (OUTPUT_INDEX + k) END (output_word public k)) (range_with_len (a + 1) n)) (h a (omega arith) (omega arith)) (outputs_all P public n (a + 1) (λ k le lt. h k (omega arith) (omega arith)))

outputs_later : (public : Public) (n a : ℕ) → AllPairs Later (map (λ k. reads (OUTPUT_INDEX + k) END (output_word public k)) (range_with_len a n))
outputs_later public zero a = λ i j d lt within. absurd (omega arith)
outputs_later public (suc n) a =
    AllPairs-cons Later (reads (OUTPUT_INDEX + a) END (output_word public a)) (map (λ k. reads (OUTPUT_INDEX + k) END (output_word public k)) (range_with_len (a + 1) n)) (outputs_all (Later (reads (OUTPUT_INDEX + a) END (output_word public a))) public n (a + 1) (λ k le lt same. absurd (omega arith)))
    (outputs_later public n (a + 1))

last_all : (P : Access → Type 0) (public : Public) → P (reads (register EXIT_REGISTER) END public.exit) → ((k : ℕ) → k < 32 → P (reads (OUTPUT_INDEX + k) END (output_word public k))) → All P (last_reads public)
unfolding output_reads
last_all P public exit h = All-cons P (reads (register EXIT_REGISTER) END public.exit) (output_reads public OUTPUT_WORDS) exit (outputs_all P public OUTPUT_WORDS 0 (λ k le lt. h k (omega arith)))

last_later : (public : Public) → AllPairs Later (last_reads public)
unfolding output_reads
last_later public =
    AllPairs-cons Later (reads (register EXIT_REGISTER) END public.exit) (output_reads public OUTPUT_WORDS) (outputs_all (Later (reads (register EXIT_REGISTER) END public.exit)) public OUTPUT_WORDS 0 (λ k le lt same. absurd (omega arith))) (outputs_later public OUTPUT_WORDS 0)

-- ---- all of them
-- what is known of the states and records of a run of n steps
pub record IsWhole (image : Img) (n : ℕ) (public : Public) : Type 0 where
  pub few : n < 2 ^ 32
  pub steps : AreSteps image n
  pub records : (j : ℕ) → j < n → IsRecord (record_at image j)
  pub one : (j : ℕ) → (record_at image j).rs1 < 32
  pub two : (j : ℕ) → (record_at image j).rs2 < 32
  pub states : (j : ℕ) → IsState (state_at image j)
  pub told : public ≡ public_of (state_at image n)

words_small : (image : Img) → IsState (state_at image 0) → (k : ℕ) → initial_word image k < 2 ^ 64
unfolding state_at
words_small image is k = is.words k

steps_all : (image : Img) (n : ℕ) (public : Public) → IsWhole image n public → (m first : ℕ) → first + m ≤ n → All Fits (of_steps (records_between image first m))
steps_all image n public is zero first le = All-nil Fits
steps_all image n public is (suc m) first le =
    All-append Fits (of_step (record_at image first)) (of_steps (records_between image (first + 1) m)) (step_fits (record_at image first) (is.records first (omega arith)) (is.one first) (is.two first) (is.steps.each first (omega arith)).rd)
    (steps_all image n public is m (first + 1) (omega arith))

last_exit : (image : Img) (n : ℕ) (public : Public) → IsWhole image n public → public.exit < 2 ^ 64
last_exit image n public is = subst (λ v. v < 2 ^ 64) (sym (ap (λ (p : Public). p.exit) is.told)) ((is.states n).registers EXIT_REGISTER)

last_output : (image : Img) (n : ℕ) (public : Public) → IsWhole image n public → (k : ℕ) → k < 32 → output_word public k < 2 ^ 64
last_output image n public is k lt =
    let small = (is.states n).words (OUTPUT_INDEX + k) in subst (λ v. v < 2 ^ 64) (sym (output_is public (state_at image n) k is.told lt small)) small

all_later : (image : Img) (n : ℕ) (public : Public) → IsWhole image n public → AllPairs Later (accesses image n public)
all_later image n public is =
    let small = words_small image (is.states 0) in
    let few = is.few in
    let rise = steps_rise image n 0 in
    let times = times_between (SLOTS * 0 + 1) (of_steps (records_between image 0 n)) (SLOTS * (0 + n) + 1) rise in
    let first : All (IsFirst 0 (0 + MEMORY_WORDS)) (first_writes image) = All-same (IsFirst 0 (0 + MEMORY_WORDS)) (first_writes image) (writes_from image 0 MEMORY_WORDS) (all_writes image) (writes_first image small MEMORY_WORDS 0) in
    let early : All (λ (a : Access). a.time < END) (accesses_to image n) =
    All-append (λ (a : Access). a.time < END) (first_writes image) (of_steps (records_between image 0 n)) (All-weaker (IsFirst 0 (0 + MEMORY_WORDS)) (λ (a : Access). a.time < END) (λ a f. let t = f.time in omega arith) (first_writes image) first)
    (All-weaker (λ (a : Access). (SLOTS * 0 + 1 ≤ a.time) × (a.time < SLOTS * (0 + n) + 1)) (λ (a : Access). a.time < END) (λ a (l, u). ends a n u few) (of_steps (records_between image 0 n)) times) in
    pairs_append Later (accesses_to image n) (last_reads public)
    (pairs_append Later (first_writes image) (of_steps (records_between image 0 n)) (subst (AllPairs Later) (sym (all_writes image)) (writes_later image small MEMORY_WORDS 0)) (rising_later (SLOTS * 0 + 1) (of_steps (records_between image 0 n)) (SLOTS * (0 + n) + 1) rise)
    (All-weaker (IsFirst 0 (0 + MEMORY_WORDS)) (λ b. All (Later b) (of_steps (records_between image 0 n))) (λ b f. All-weaker (λ (a : Access). (SLOTS * 0 + 1 ≤ a.time) × (a.time < SLOTS * (0 + n) + 1)) (Later b) (λ a (l, u) same. let t = f.time in omega arith) (of_steps (records_between image 0 n)) times) (first_writes image) first))
    (last_later public) (All-weaker (λ (a : Access). a.time < END) (λ b. All (Later b) (last_reads public)) (λ b lt. last_all (Later b) public (λ same. lt) (λ k low same. lt)) (accesses_to image n) early)
  where
    ends : (a : Access) (n : ℕ) → a.time < SLOTS * (0 + n) + 1 → n < 2 ^ 32 → a.time < END
    ends a n u few = omega arith

keys_small : (xs : List Access) → All InReach xs → All (λ (a : Access). a.key < key_end) xs
unfolding key_end
keys_small xs h = All-weaker InReach (λ (a : Access). a.key < key_end) (λ a is. let k = is.key in omega arith) xs h

all_fit : (image : Img) (n : ℕ) (public : Public) → IsWhole image n public → All InReach (accesses image n public)
all_fit image n public is =
    let small = words_small image (is.states 0) in
    let few = is.few in
    let exit = last_exit image n public is in
    let first : All (IsFirst 0 (0 + MEMORY_WORDS)) (first_writes image) = All-same (IsFirst 0 (0 + MEMORY_WORDS)) (first_writes image) (writes_from image 0 MEMORY_WORDS) (all_writes image) (writes_first image small MEMORY_WORDS 0) in
    let times = times_between (SLOTS * 0 + 1) (of_steps (records_between image 0 n)) (SLOTS * (0 + n) + 1) (steps_rise image n 0) in
    let fits = steps_all image n public is n 0 (omega arith) in
    All-append InReach (accesses_to image n) (last_reads public)
    (All-append InReach (first_writes image) (of_steps (records_between image 0 n)) (All-weaker (IsFirst 0 (0 + MEMORY_WORDS)) InReach (λ a f. let t = f.time in let k = f.to in record { key = omega arith; time = omega arith; value = f.value }) (first_writes image) first)
    (λ k d lt. let u = (times k d lt).1 in record { key = (fits k d lt).0; time = on_time (get_or (of_steps (records_between image 0 n)) k d) n u few; value = (fits k d lt).1 }))
    (last_all InReach public (record { key = omega arith; time = omega arith; value = exit }) (λ k lt. record { key = omega arith; time = omega arith; value = last_output image n public is k lt }))
  where
    on_time : (a : Access) (n : ℕ) → a.time < SLOTS * (0 + n) + 1 → n < 2 ^ 32 → a.time ≤ END
    on_time a n u few = omega arith

all_read : (image : Img) (n : ℕ) (public : Public) → IsWhole image n public → Reads zeros (accesses image n public)
all_read image n public is =
    let small = words_small image (is.states 0) in
    let first : All (IsFirst 0 (0 + MEMORY_WORDS)) (first_writes image) = All-same (IsFirst 0 (0 + MEMORY_WORDS)) (first_writes image) (writes_from image 0 MEMORY_WORDS) (all_writes image) (writes_first image small MEMORY_WORDS 0) in
    let steps = steps_read image n is.steps n 0 (omega arith) (after_all zeros (first_writes image)) (started image) in
    let at : 0 + n ≡ n = omega arith in
    reads_append zeros (accesses_to image n) (last_reads public) (reads_append zeros (first_writes image) (of_steps (records_between image 0 n)) (all_written zeros (first_writes image) (λ k d lt. (first k d lt).write)) steps.0)
    (last_read public (state_at image n) (after_all zeros (accesses_to image n)) is.told (is.states n) (λ k. after_append zeros (first_writes image) (of_steps (records_between image 0 n)) k ∙ steps.1 k ∙ ap (λ j. held_in (state_at image j) k) at))

carried : (xs ys : List Access) → IsPermutation xs ys → IsReadLastWrite xs → IsReadLastWrite ys
carried xs ys same was a at r = carry (was a (from a at) r)
  where
    from : (v : Access) → Contains ys v → Contains xs v
    from v c = Contains-permutation ys xs v (IsPermutation-sym xs ys same) c

    carry : HasLast xs a → HasLast ys a
    carry (written w is e) = written w (record { there = Contains-permutation xs ys w same is.there; earlier = is.earlier; greatest = λ v c. is.greatest v (from v c) }) e
    carry (never off e) = never (λ v c. off v (from v c)) e

pub sequence : (image : Img) (n : ℕ) (public : Public) → IsWhole image n public → IsSequenceOf (accesses image n public) (in_order (accesses image n public))
sequence image n public is =
    let later = all_later image n public is in
    let fit = all_fit image n public is in
    let same = permuted (accesses image n public) (keys_small (accesses image n public) fit) in
    record {
      same = same;
      ascending = ascends_in_order (accesses image n public) later;
      in_reach = All-permutation InReach (accesses image n public) (in_order (accesses image n public)) same fit;
      right = carried (accesses image n public) (in_order (accesses image n public)) same (right (accesses image n public) later (all_read image n public is));
    }

-- ---- what a run that halts gives
next_step : (a : Answer) → IsNext a → IsStep a
next_step (Next t) h = tt
next_step Halt h = tt
next_step (Fault f) h = absurd h

pub is_step : (image : Img) (n : ℕ) (public : Public) → RunsTo image n public → (j : ℕ) → j < n → IsStep (step_at image j)
is_step image n public runs j lt =
    ⊎_elim (λ on. next_step (step_at image j) (runs.on j on))
    (λ end. let e : n - 1 ≡ j = omega arith in subst (λ i. IsStep (step_at image i)) e (subst IsStep (sym runs.halt) tt)) (cases_lt (j + 1) n)

stays : (image : Img) (m : ℕ) → step_at image m ≡ Halt → state_at image (suc m) ≡ state_at image m
unfolding state_at
stays image m h = ap (moved (state_at image m)) h

pub told : (image : Img) (n : ℕ) (public : Public) → RunsTo image n public → public ≡ public_of (state_at image n)
told image n public runs =
    let some = runs.some in
    let e : n ≡ suc (n - 1) = omega (arith, add-one (n - 1)) in runs.told ∙ ap public_of (sym (stays image (n - 1) runs.halt) ∙ ap (state_at image) (sym e))

act_old : (o : Option Touch) (word : ℕ → ℕ) → IfSome (act o word) (λ m. m.old ≡ word m.index)
act_old None word = tt
act_old (Some a) word = refl

pub old_is : (image : Img) (j : ℕ) → IfSome (record_at image j).mem (λ m. m.old ≡ (state_at image j).word m.index)
unfolding record_at
old_is image j = act_old (access (instr_at image j) (state_at image j)) (state_at image j).word
