-- What a call of the host in memory makes of its slots.
use Rattle.std.proofs.Common.{◌≡◌, ◌≢◌, ◌<◌, ◌-◌, ◌∙◌, ℕ, zero, suc, List, [], ◌∷◌, ◌++◌, length, set, drop, take, min, refl, ap, sym, subst, Some, None, Option, Bool, true, false, IsTrue, arith, length-append, map}
use Rattle.std.specs.Prelude.{slice_get, is_some}
use Rattle.std.proofs.lemmas.List.{take_at, length-map}
use Rattle.host_io.specs.Slots.{SameSlots, GainsSlot, LosesSlot, EndsAtZero, at_slots}
use Rattle.host_io.specs.World.{Asked}
use Rattle.host_io.specs.Calls.{Reads}
use Rattle.host_io.specs.Memory.{SlotState, Reading, Ended, Writing, is_reading, is_writing, left_of, written_of, target_of, reading_given, writing_given}
use Rattle.host_io.proofs.SlotLists.{same_slots, same_push, same_set, gains_slot, loses_slot, fresh_slot, never}
use Rattle.host_io.proofs.SlotStates.{within}
use Rattle.host_io.proofs.MemWorlds.{mem_world, world-read}

-- one slot is changed, and the test says the same of it
pub same_changed : (f : Option SlotState → Bool) (old new : List SlotState) (k : ℕ) (s : SlotState) → new ≡ set old k s → f (Some s) ≡ f (slice_get old k) → SameSlots (λ n. IsTrue (at_slots f old n)) (λ n. IsTrue (at_slots f new n))
same_changed f old new k s e same = same_slots (at_slots f old) (at_slots f new) (λ n. ap (λ (x : List SlotState). at_slots f x n) e ∙ same_set f old k s same n)

pub same_added : (f : Option SlotState → Bool) (old new : List SlotState) (s : SlotState) → new ≡ old ++ s ∷ [] → f (Some s) ≡ f None → SameSlots (λ n. IsTrue (at_slots f old n)) (λ n. IsTrue (at_slots f new n))
same_added f old new s e same = same_slots (at_slots f old) (at_slots f new) (λ n. ap (λ (x : List SlotState). at_slots f x n) e ∙ same_push f old s same n)

pub same_states : (f : Option SlotState → Bool) (old new : List SlotState) → new ≡ old → SameSlots (λ n. IsTrue (at_slots f old n)) (λ n. IsTrue (at_slots f new n))
same_states f old new e = same_slots (at_slots f old) (at_slots f new) (λ n. ap (λ (x : List SlotState). at_slots f x n) e)

pub gains_added : (f : Option SlotState → Bool) (old new : List SlotState) (s : SlotState) (k : ℕ) → new ≡ old ++ s ∷ [] → k ≡ length old → f (Some s) ≡ true → f None ≡ false → GainsSlot (λ n. IsTrue (at_slots f old n)) (λ n. IsTrue (at_slots f new n)) k
gains_added f old new s k e at_end holds none =
    let P : List SlotState → ℕ → Type 0 = λ x m. GainsSlot (λ n. IsTrue (at_slots f old n)) (λ n. IsTrue (at_slots f x n)) m in
    subst (λ (x : List SlotState). P x k) (sym e) (subst (λ (m : ℕ). P (old ++ s ∷ []) m) (sym at_end) (gains_slot f old s holds none))

pub fresh_number : (old : List SlotState) (k : ℕ) → k ≡ length old → ¬ IsTrue (at_slots is_some old k)
fresh_number old k e = subst (λ (m : ℕ). ¬ IsTrue (at_slots is_some old m)) (sym e) (fresh_slot is_some old refl)

reading_only : (o : Option SlotState) → IsTrue (is_reading o) → false ≡ is_writing o
reading_only (Some (Reading bytes)) holds = refl
reading_only (Some Ended) holds = refl
reading_only (Some (Writing name bytes)) holds = never _ refl holds
reading_only None holds = refl

reading_written : (o : Option SlotState) → IsTrue (is_reading o) → [] ≡ written_of o
reading_written (Some (Reading bytes)) holds = refl
reading_written (Some Ended) holds = refl
reading_written (Some (Writing name bytes)) holds = never _ refl holds
reading_written None holds = refl

reading_target : (o : Option SlotState) → IsTrue (is_reading o) → [] ≡ target_of o
reading_target (Some (Reading bytes)) holds = refl
reading_target (Some Ended) holds = refl
reading_target (Some (Writing name bytes)) holds = never _ refl holds
reading_target None holds = refl

-- a read leaves the slot ended, or with what has not come
pub record ReadsSlot (old new : List SlotState) (k count : ℕ) : Type 0 where
  pub may : IsTrue (is_reading (slice_get old k))
  pub ended : count ≡ 0 → new ≡ set old k Ended
  pub moved : count ≢ 0 → new ≡ set old k (Reading (drop count (left_of (slice_get old k))))

pub read_given : (old new : List SlotState) (k count : ℕ) → ReadsSlot old new k count → SameSlots (λ n. IsTrue (at_slots is_some old n)) (λ n. IsTrue (at_slots is_some new n))
read_given old new k zero r = same_changed is_some old new k Ended (r.ended refl) (sym (reading_given (slice_get old k) r.may))
read_given old new k (suc m) r = same_changed is_some old new k _ (r.moved (λ e. absurd (omega (arith, e)))) (sym (reading_given (slice_get old k) r.may))

pub read_writable : (old new : List SlotState) (k count : ℕ) → ReadsSlot old new k count → SameSlots (λ n. IsTrue (at_slots is_writing old n)) (λ n. IsTrue (at_slots is_writing new n))
read_writable old new k zero r = same_changed is_writing old new k Ended (r.ended refl) (reading_only (slice_get old k) r.may)
read_writable old new k (suc m) r = same_changed is_writing old new k _ (r.moved (λ e. absurd (omega (arith, e)))) (reading_only (slice_get old k) r.may)

pub read_readable : (old new : List SlotState) (k count : ℕ) → ReadsSlot old new k count → EndsAtZero (λ n. IsTrue (at_slots is_reading old n)) (λ n. IsTrue (at_slots is_reading new n)) k count
read_readable old new k count r = record {
  end = λ none. subst (λ (x : List SlotState). LosesSlot (λ n. IsTrue (at_slots is_reading old n)) (λ n. IsTrue (at_slots is_reading x n)) k) (sym (r.ended none)) (loses_slot is_reading old k Ended refl refl);
  more = λ some. same_changed is_reading old new k _ (r.moved some) (sym r.may);
}

empty_of : (xs : List ℕ) → length xs ≡ 0 → xs ≡ []
empty_of [] e = refl
empty_of (x ∷ xs) e = absurd (omega (arith, e))

pub read_world : (contents : List ℕ → Option (List ℕ)) (old new : List SlotState) (asked : List Asked) (reported : List ℕ) (k most count : ℕ) (buffer after : List ℕ) → ReadsSlot old new k count → 0 < most
    → count ≡ min most (length (left_of (slice_get old k))) → after ≡ take count (left_of (slice_get old k)) ++ drop count buffer
    → Reads (mem_world contents old asked reported) (mem_world contents new asked reported) k count buffer after
read_world contents old new asked reported k most zero buffer after r some e f =
    let none : left_of (slice_get old k) ≡ [] = empty_of _ (omega (arith, e)) in
    record {
      within = omega arith;
      end = λ zero_is. none;
      front = f;
      after = world-read contents old new asked reported k 0 Ended (within is_reading old k refl r.may) (r.ended refl) (sym none) (reading_written (slice_get old k) r.may) (reading_target (slice_get old k) r.may);
    }
read_world contents old new asked reported k most (suc m) buffer after r some e f =
    record {
      within = omega (arith, e);
      end = λ none. absurd (omega (arith, none));
      front = f;
      after = world-read contents old new asked reported k (suc m) _ (within is_reading old k refl r.may) (r.moved (λ none. absurd (omega (arith, none)))) refl (reading_written (slice_get old k) r.may) (reading_target (slice_get old k) r.may);
    }

writing_only : (o : Option SlotState) → IsTrue (is_writing o) → false ≡ is_reading o
writing_only (Some (Reading bytes)) holds = never _ refl holds
writing_only (Some Ended) holds = refl
writing_only (Some (Writing name bytes)) holds = refl
writing_only None holds = refl

pub writing_left : (o : Option SlotState) → IsTrue (is_writing o) → [] ≡ left_of o
writing_left (Some (Reading bytes)) holds = never _ refl holds
writing_left (Some Ended) holds = refl
writing_left (Some (Writing name bytes)) holds = refl
writing_left None holds = refl

pub write_given : (old new : List SlotState) (k : ℕ) (name bytes : List ℕ) → IsTrue (is_writing (slice_get old k)) → new ≡ set old k (Writing name bytes) → SameSlots (λ n. IsTrue (at_slots is_some old n)) (λ n. IsTrue (at_slots is_some new n))
write_given old new k name bytes may e = same_changed is_some old new k _ e (sym (writing_given (slice_get old k) may))

pub write_readable : (old new : List SlotState) (k : ℕ) (name bytes : List ℕ) → IsTrue (is_writing (slice_get old k)) → new ≡ set old k (Writing name bytes) → SameSlots (λ n. IsTrue (at_slots is_reading old n)) (λ n. IsTrue (at_slots is_reading new n))
write_readable old new k name bytes may e = same_changed is_reading old new k _ e (writing_only (slice_get old k) may)

pub write_writable : (old new : List SlotState) (k : ℕ) (name bytes : List ℕ) → IsTrue (is_writing (slice_get old k)) → new ≡ set old k (Writing name bytes) → SameSlots (λ n. IsTrue (at_slots is_writing old n)) (λ n. IsTrue (at_slots is_writing new n))
write_writable old new k name bytes may e = same_changed is_writing old new k _ e (sym may)

map-take : {X Y : Type 0} (f : X → Y) (n : ℕ) (xs : List X) → map f (take n xs) ≡ take n (map f xs)
map-take {X} {Y} f zero xs = refl
map-take {X} {Y} f (suc n) [] = refl
map-take {X} {Y} f (suc n) (x ∷ xs) = ap (λ (ys : List Y). f x ∷ ys) (map-take f n xs)

-- all but the last item, as f sees them
pub map-dropped : {X Y : Type 0} (f : X → Y) (items rest : List X) (n : ℕ) (before : List Y) (last : Y) → rest ≡ take n items → n ≡ length items - 1 → map f items ≡ before ++ last ∷ [] → map f rest ≡ before
map-dropped f items rest n before last e at states =
    let long : length before ≡ n = omega (arith, ap length states, length-map items f, length-append before (last ∷ [])) in
    ap (map f) e ∙ map-take f n items ∙ ap (take n) states ∙ take_at before (last ∷ []) n long
