-- The writes before the run.
use Rattle.std.proofs.Common.{◌≡◌, ◌==◌, ◌+◌, ◌*◌, ◌/◌, ◌^◌, ◌<◌, ◌≤◌, ◌⊎◌, inl, inr, ⊎_elim, ℕ, zero, suc, Bool, true, false, cond, List, [], ◌∷◌, ◌++◌, map, refl, ap, sym, ◌∙◌, subst, arith}
use Rattle.std.proofs.lemmas.Bool.{cases_eq, cases_lt, ne_eqb, eq-eqb}
use Rattle.std.specs.List.{flat_map, filter_map, range_with_len}
use Rattle.std.proofs.lemmas.List.{append-nil}
use Rattle.std.proofs.lemmas.List.Elements.{filter-append}
use Rattle.chain_pool.specs.Lists.{list_of}
use Rattle.rv_model.specs.Image.{Img, initial_word}
use Rattle.mem_rows.specs.declared.access.Access.{Access}
use Rattle.rv_model.specs.declared.machine.TheConstants.{MEMORY_WORDS}
use Rattle.step_rows.specs.declared.doubleword.Doubleword.{Doubleword}
use Rattle.step_rows.specs.Initial.{unless_zero, doublewords, initial_doublewords}
use Rattle.mem_rows.specs.Accesses.{writes, first_write, first_writes, accesses_to}
use Rattle.mem_rows.specs.Order.{of_key}
use Rattle.mem_rows.specs.Kept.{Adds, KeepsTo}
use Rattle.mem_rows.specs.Initial.{write_at, IsPart, Writes}

here : (k v : ℕ) → of_key (writes k 0 v ∷ []) k ≡ writes k 0 v ∷ []
here k v = let yes : (k == k) ≡ true = eq-eqb k k refl in rw yes refl

off : (k v q : ℕ) → (k ≡ q → ⊥) → of_key (writes k 0 v ∷ []) q ≡ []
off k v q ne = let no : (k == q) ≡ false = ne_eqb k q ne in rw no refl

pub written : (image : Img) (old new : List (ℕ × List Access)) (k v : ℕ) → k < MEMORY_WORDS → v ≡ initial_word image k → (v ≡ 0 → ⊥) → list_of old k ≡ [] → IsPart image old → Adds old new (writes k 0 v ∷ []) → Writes image old new k (k + 1)
written image old new k v low is some none part adds =
    let no : (initial_word image k == 0) ≡ false = ne_eqb (initial_word image k) 0 (λ e. some (is ∙ e)) in
    let first : write_at image k ≡ writes k 0 (initial_word image k) ∷ [] = rw no refl in
    let at_k : list_of new k ≡ write_at image k = adds k ∙ ap (λ l. l ++ of_key (writes k 0 v ∷ []) k) none ∙ here k v ∙ ap (λ x. writes k 0 x ∷ []) is ∙ sym first in
    let at : (q : ℕ) → k ≡ q → list_of new q ≡ write_at image q = λ q e. ap (list_of new) (sym e) ∙ at_k ∙ ap (write_at image) e in
    let same : (q : ℕ) → (k ≡ q → ⊥) → list_of new q ≡ list_of old q = λ q ne. adds q ∙ ap (λ l. list_of old q ++ l) (off k v q ne) ∙ append-nil (list_of old q) in
    record {
      part = λ q. ⊎_elim (λ e. inr (subst (λ j. j < MEMORY_WORDS) e (low), at q e))
          (λ ne. ⊎_elim (λ none. inl (same q ne ∙ none)) (λ (low', is'). inr (low', same q ne ∙ is')) (part q)) (cases_eq k q);
      done = λ q from to. at q (omega arith);
      still = λ q was. ⊎_elim (at q) (λ ne. same q ne ∙ was) (cases_eq k q);
    }

-- a doubleword that is 0, or whose write is done
pub unwritten : (image : Img) (lists : List (ℕ × List Access)) (k v : ℕ) → v ≡ initial_word image k → (v ≡ 0) ⊎ (list_of lists k ≡ [] → ⊥) → IsPart image lists → Writes image lists lists k (k + 1)
unwritten image lists k v is or part =
    let zero_first : v ≡ 0 → write_at image k ≡ [] = λ z. let yes : (initial_word image k == 0) ≡ true = eq-eqb (initial_word image k) 0 (sym is ∙ z) in rw yes refl in
    let at_k : list_of lists k ≡ write_at image k =
    ⊎_elim (λ none. ⊎_elim (λ z. none ∙ sym (zero_first z)) (λ ne. absurd (ne none)) or) (λ (low, done). done) (part k) in
    record {
      part = part;
      done = λ q from to. let e : k ≡ q = omega arith in ap (list_of lists) (sym e) ∙ at_k ∙ ap (write_at image) e;
      still = λ q was. was;
    }

pub range_none : (image : Img) (lists : List (ℕ × List Access)) (k : ℕ) → IsPart image lists → Writes image lists lists k k
range_none image lists k part = record { part = part; done = λ q from to. absurd (omega arith); still = λ q was. was }

pub range_more : (image : Img) (a b c : List (ℕ × List Access)) (from k : ℕ) → Writes image a b from k → Writes image b c k (k + 1) → Writes image a c from (k + 1)
range_more image a b c from k w v = record {
  part = v.part;
  done = λ q low high. ⊎_elim (λ below. v.still q (w.done q low below)) (λ at. v.done q at high) (cases_lt q k);
  still = λ q was. v.still q (w.still q was);
}

pub range_done : (image : Img) (a b : List (ℕ × List Access)) (from k to : ℕ) → to ≤ k → Writes image a b from k → Writes image a b from to
range_done image a b from k to le w = record { part = w.part; done = λ q low high. w.done q low (omega arith); still = w.still }

-- ---- all of them
own_write : (j k v : ℕ) (b : Bool) → j ≡ k → of_key (cond b [] (writes j 0 v ∷ [])) k ≡ cond b [] (writes j 0 v ∷ [])
own_write j k v true e = refl
own_write j k v false e = let yes : (j == k) ≡ true = eq-eqb j k e in rw yes refl

other_write : (j k v : ℕ) (b : Bool) → (j ≡ k → ⊥) → of_key (cond b [] (writes j 0 v ∷ [])) k ≡ []
other_write j k v true ne = refl
other_write j k v false ne = off j v k ne

-- the writes before the run that a key has, of those from low on
unfoldable pub writes_from : Img → ℕ → ℕ → List Access
writes_from image low n = flat_map (write_at image) (range_with_len low n)

pub writes_off : (image : Img) (low n k : ℕ) → (k < low) ⊎ (low + n ≤ k) → of_key (writes_from image low n) k ≡ []
unfolding writes_from
writes_off image low zero k out = refl
writes_off image low (suc n) k out =
    let ne : low ≡ k → ⊥ = λ e. ⊎_elim (λ h. omega arith) (λ h. omega arith) out in
    let more : (k < low + 1) ⊎ (low + 1 + n ≤ k) = ⊎_elim (λ h. inl (omega arith)) (λ h. inr (omega arith)) out in
    filter-append (λ (a : Access). a.key == k) (write_at image low) (writes_from image (low + 1) n)
    ∙ ap (λ l. l ++ of_key (writes_from image (low + 1) n) k) (other_write low k (initial_word image low) (initial_word image low == 0) ne) ∙ writes_off image (low + 1) n k more

pub writes_at : (image : Img) (low n k : ℕ) → low ≤ k → k < low + n → of_key (writes_from image low n) k ≡ write_at image k
unfolding writes_from
writes_at image low zero k le lt = absurd (omega arith)
writes_at image low (suc n) k le lt =
    filter-append (λ (a : Access). a.key == k) (write_at image low) (writes_from image (low + 1) n) ∙ ⊎_elim
    (λ e. ap (λ l. l ++ of_key (writes_from image (low + 1) n) k) (own_write low k (initial_word image low) (initial_word image low == 0) e)
    ∙ ap (λ l. write_at image low ++ l) (writes_off image (low + 1) n k (inl (omega arith))) ∙ append-nil (write_at image low) ∙ ap (write_at image) e)
    (λ ne. ap (λ l. l ++ of_key (writes_from image (low + 1) n) k) (other_write low k (initial_word image low) (initial_word image low == 0) ne) ∙ writes_at image (low + 1) n k (omega arith) (omega arith)) (cases_eq low k)

-- the writes of the doublewords that aren't 0 are those of all
some_writes : (image : Img) (ks : List ℕ) → map first_write (filter_map (λ k. unless_zero k (initial_word image k)) ks) ≡ flat_map (write_at image) ks
some_writes image [] = refl
some_writes image (k ∷ ks) =
    let found : (b : Bool) → (initial_word image k == 0) ≡ b → map first_write (filter_map (λ j. unless_zero j (initial_word image j)) (k ∷ ks)) ≡ flat_map (write_at image) (k ∷ ks) =
    λ b. elim b as (λ v. (initial_word image k == 0) ≡ v → map first_write (filter_map (λ j. unless_zero j (initial_word image j)) (k ∷ ks)) ≡ flat_map (write_at image) (k ∷ ks)) [
      | true ↦ λ e. rw e (some_writes image ks)
      | false ↦ λ e. rw e (ap (λ l. writes k 0 (initial_word image k) ∷ l) (some_writes image ks))
    ] in
    found (initial_word image k == 0) refl

all_words : doublewords ≡ MEMORY_WORDS
unfolding doublewords
all_words = refl

pub all_writes : (image : Img) → first_writes image ≡ writes_from image 0 MEMORY_WORDS
unfolding writes_from initial_doublewords
all_writes image = some_writes image (range_with_len 0 doublewords) ∙ ap (λ n. flat_map (write_at image) (range_with_len 0 n)) all_words

-- the accesses before the first step
none_more : (image : Img) → accesses_to image 0 ≡ first_writes image
none_more image = append-nil (first_writes image)

pub begun : (image : Img) (lists : List (ℕ × List Access)) → IsPart image lists → ((q : ℕ) → q < MEMORY_WORDS → (initial_word image q ≡ 0) ⊎ (list_of lists q ≡ write_at image q)) → KeepsTo image 0 lists
begun image lists part done q =
    let all : of_key (accesses_to image 0) q ≡ of_key (writes_from image 0 MEMORY_WORDS) q = ap (λ l. of_key l q) (none_more image ∙ all_writes image) in
    ⊎_elim
    (λ low.
    let at : of_key (writes_from image 0 MEMORY_WORDS) q ≡ write_at image q = writes_at image 0 MEMORY_WORDS q (omega arith) (omega arith) in
    let zero_write : initial_word image q ≡ 0 → write_at image q ≡ [] = λ z. let yes : (initial_word image q == 0) ≡ true = eq-eqb (initial_word image q) 0 z in rw yes refl in
    ⊎_elim (λ z. ⊎_elim (λ none. none ∙ sym (zero_write z)) (λ (l, is). is) (part q)) (λ is. is) (done q low) ∙ sym at ∙ sym all)
    (λ high. ⊎_elim (λ none. none) (λ (low, is). absurd (omega arith)) (part q) ∙ sym (writes_off image 0 MEMORY_WORDS q (inr (omega arith))) ∙ sym all) (cases_lt q MEMORY_WORDS)
