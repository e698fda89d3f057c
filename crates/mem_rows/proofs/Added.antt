-- What is put behind the lists of keys.
use Rattle.std.proofs.Common.{◌≡◌, ◌==◌, ◌+◌, ◌*◌, ◌^◌, ◌<◌, ◌≤◌, ◌⊎◌, ⊎_elim, ℕ, zero, suc, true, false, cond, List, [], ◌∷◌, ◌++◌, map, refl, ap, sym, ◌∙◌, subst, arith, append_assoc}
use Rattle.std.specs.Prelude.{All}
use Rattle.std.specs.List.{flat_map, range_with_len}
use Rattle.std.proofs.lemmas.Bool.{cases_eq, ne_eqb, eq-eqb}
use Rattle.std.proofs.lemmas.Grind.{flat_map-append}
use Rattle.std.proofs.lemmas.List.{append-nil}
use Rattle.std.proofs.lemmas.List.Elements.{All-nil, All-cons, All-append, All-same, All-filter, filter-append}
use Rattle.std.proofs.lemmas.List.FromFn.{map-range_with_len_more}
use Rattle.chain_pool.specs.Lists.{list_of, Appends}
use Rattle.rv_model.specs.Image.{Img}
use Rattle.rv_model.specs.declared.answer.Public.{Public}
use Rattle.rv_model.specs.declared.machine.TheConstants.{OUTPUT_INDEX}
use Rattle.min_trace.specs.Record.{record_at, records_between}
use Rattle.min_trace.specs.declared.record.StepRecord.{StepRecord}
use Rattle.mem_rows.specs.declared.access.Access.{Access}
use Rattle.mem_rows.specs.declared.access.TheConstants.{END}
use Rattle.mem_rows.specs.Accesses.{of_step, of_steps, reads, output_word, output_reads, accesses_to, first_writes}
use Rattle.mem_rows.specs.Order.{of_key, key_end}
use Rattle.mem_rows.specs.Kept.{Adds, AreInReach, Keeps, KeepsTo}

pub none_of : (k : ℕ) → list_of {T = Access} [] k ≡ []
unfolding list_of
none_of k = refl

pub empty_reach : (lists : List (ℕ × List Access)) → lists ≡ [] → AreInReach lists
empty_reach lists e =
    let none : (k : ℕ) → list_of lists k ≡ [] = λ k. ap (λ (l : List (ℕ × List Access)). list_of l k) e ∙ none_of k in
    record { keys = λ k h. none k; times = λ k. All-same (λ (a : Access). a.time ≤ END) (list_of lists k) [] (none k) (All-nil (λ (a : Access). a.time ≤ END)) }

one_here : (a : Access) (k : ℕ) → a.key ≡ k → of_key (a ∷ []) k ≡ a ∷ []
one_here a k e = let yes : (a.key == k) ≡ true = eq-eqb a.key k e in rw yes refl

one_off : (a : Access) (k : ℕ) → (a.key ≡ k → ⊥) → of_key (a ∷ []) k ≡ []
one_off a k ne = let no : (a.key == k) ≡ false = ne_eqb a.key k ne in rw no refl

pub adds_one : (old new : List (ℕ × List Access)) (a : Access) → Appends old new a.key a → Adds old new (a ∷ [])
adds_one old new a up k =
    ⊎_elim (λ e. let yes : (k == a.key) ≡ true = eq-eqb k a.key (sym e) in up k ∙ rw yes (ap (λ l. list_of old k ++ l) (sym (one_here a k e))))
    (λ ne. let no : (k == a.key) ≡ false = ne_eqb k a.key (λ e. ne (sym e)) in up k ∙ rw no (sym (append-nil (list_of old k)) ∙ ap (λ l. list_of old k ++ l) (sym (one_off a k ne)))) (cases_eq a.key k)

pub put_reach : (old new : List (ℕ × List Access)) (a : Access) → a.time ≤ END → a.key < 2 ^ 32 → AreInReach old → Appends old new a.key a → AreInReach new
unfolding key_end
put_reach old new a at low reach up =
    let more = adds_one old new a up in
    let P : Access → Type 0 = λ a. a.time ≤ END in
    record {
      keys = λ k h. more k ∙ ap (λ l. list_of old k ++ l) (one_off a k (λ e. omega arith)) ∙ append-nil (list_of old k) ∙ reach.keys k h;
      times = λ k. All-same P (list_of new k) (list_of old k ++ of_key (a ∷ []) k) (more k)
          (All-append P (list_of old k) (of_key (a ∷ []) k) (reach.times k) (All-filter (λ (x : Access). x.key == k) P (a ∷ []) (All-cons P a [] at (All-nil P))));
    }

pub adds_none : (lists : List (ℕ × List Access)) → Adds lists lists []
adds_none lists k = sym (append-nil (list_of lists k))

pub adds_more : (a b c : List (ℕ × List Access)) (xs ys : List Access) → Adds a b xs → Adds b c ys → Adds a c (xs ++ ys)
adds_more a b c xs ys h i k =
    i k ∙ ap (λ l. l ++ of_key ys k) (h k) ∙ append_assoc (list_of a k) (of_key xs k) (of_key ys k) ∙ ap (λ l. list_of a k ++ l) (sym (filter-append (λ (x : Access). x.key == k) xs ys))

pub output_more : (public : Public) (k v : ℕ) (a b c : List (ℕ × List Access)) → Adds a b (output_reads public k) → v ≡ output_word public k → Adds b c (reads (OUTPUT_INDEX + k) END v ∷ []) → Adds a c (output_reads public (k + 1))
unfolding output_reads
output_more public k v a b c h e i =
    subst (Adds a c) (ap (λ x. output_reads public k ++ reads (OUTPUT_INDEX + k) END x ∷ []) e ∙ sym (map-range_with_len_more (λ j. reads (OUTPUT_INDEX + j) END (output_word public j)) 0 k k (omega arith)))
    (adds_more a b c (output_reads public k) (reads (OUTPUT_INDEX + k) END v ∷ []) h i)

-- a step of a chunk more
pub step_more : (self new : List (ℕ × List Access)) (left after : List StepRecord) (r : StepRecord) → left ≡ r ∷ after → Adds self new (of_step r) → (k : ℕ) → list_of new k ++ of_key (of_steps after) k ≡ list_of self k ++ of_key (of_steps left) k
step_more self new left after r e h k =
    ap (λ l. l ++ of_key (of_steps after) k) (h k) ∙ append_assoc (list_of self k) (of_key (of_step r) k) (of_key (of_steps after) k)
    ∙ ap (λ l. list_of self k ++ l) (sym (filter-append (λ (x : Access). x.key == k) (of_step r) (of_steps after)) ∙ ap (λ rs. of_key (of_steps rs) k) (sym e))

range_add : {A : Type 0} (f : ℕ → A) (a m n : ℕ) → map f (range_with_len a (m + n)) ≡ map f (range_with_len a m) ++ map f (range_with_len (a + m) n)
range_add f a zero n = let z : zero + n ≡ n = omega arith in let s : a + zero ≡ a = omega arith in rw (z, s) refl
range_add f a (suc m) n =
    let z : suc m + n ≡ suc (m + n) = omega arith in
    let s : a + suc m ≡ a + 1 + m = omega arith in
    rw (z, s) (ap (λ l. f a ∷ l) (range_add f (a + 1) m n))

accesses_more : (image : Img) (n steps : ℕ) → accesses_to image (n + steps) ≡ accesses_to image n ++ of_steps (records_between image n steps)
accesses_more image n steps =
    let from : 0 + n ≡ n = omega arith in
    let all : records_between image 0 (n + steps) ≡ records_between image 0 n ++ records_between image n steps = range_add (record_at image) 0 n steps ∙ ap (λ k. records_between image 0 n ++ map (record_at image) (range_with_len k steps)) from in
    ap (λ rs. first_writes image ++ of_steps rs) all ∙ ap (λ l. first_writes image ++ l) (flat_map-append of_step (records_between image 0 n) (records_between image n steps))
    ∙ sym (append_assoc (first_writes image) (of_steps (records_between image 0 n)) (of_steps (records_between image n steps)))

pub chunk_done : (image : Img) (old new : List (ℕ × List Access)) (left all : List StepRecord) (n steps : ℕ) → left ≡ [] → all ≡ records_between image n steps
    → ((k : ℕ) → list_of new k ++ of_key (of_steps left) k ≡ list_of old k ++ of_key (of_steps all) k) → KeepsTo image n old → KeepsTo image (n + steps) new
chunk_done image old new left all n steps e a h keeps k =
    sym (append-nil (list_of new k)) ∙ ap (λ rs. list_of new k ++ of_key (of_steps rs) k) (sym e) ∙ h k ∙ ap (λ rs. list_of old k ++ of_key (of_steps rs) k) a ∙ ap (λ l. l ++ of_key (of_steps (records_between image n steps)) k) (keeps k)
    ∙ sym (filter-append (λ (x : Access). x.key == k) (accesses_to image n) (of_steps (records_between image n steps))) ∙ ap (λ l. of_key l k) (sym (accesses_more image n steps))

pub output_none : (public : Public) (lists : List (ℕ × List Access)) → Adds lists lists (output_reads public 0)
unfolding output_reads
output_none public lists = adds_none lists

pub adds_behind : (a b c : List (ℕ × List Access)) (x : Access) (ys : List Access) → Adds a b (x ∷ []) → Adds b c ys → Adds a c (x ∷ ys)
adds_behind a b c x ys = adds_more a b c (x ∷ []) ys

pub key_low : (n k : ℕ) → n ≡ k → n < 2 ^ 32 → k < 2 ^ 32
key_low n k e h = rw (← e) h
