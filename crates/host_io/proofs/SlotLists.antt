-- A slot more, or one slot changed, in a list of slots.
use Rattle.std.proofs.Common.{◌≡◌, ◌<◌, ℕ, zero, suc, List, [], ◌∷◌, ◌++◌, length, set, refl, Bool, true, false, Some, None, Option, arith, ◌≢◌, inl, inr, IsTrue, sym, ◌∙◌, ap}
use Rattle.std.specs.Prelude.{slice_get}
use Rattle.host_io.specs.World.{with_slot}
use Rattle.host_io.specs.Slots.{SameSlots, GainsSlot, LosesSlot, at_slots}

pub same_push : {T A : Type 0} (f : Option T → A) (slots : List T) (s : T) → f (Some s) ≡ f None → (n : ℕ) → at_slots f (slots ++ s ∷ []) n ≡ at_slots f slots n
same_push f [] s e zero = e
same_push f [] s e (suc n) = refl
same_push f (t ∷ slots) s e zero = refl
same_push f (t ∷ slots) s e (suc n) = same_push f slots s e n

pub same_set : {T A : Type 0} (f : Option T → A) (slots : List T) (k : ℕ) (s : T) → f (Some s) ≡ f (slice_get slots k) → (n : ℕ) → at_slots f (set slots k s) n ≡ at_slots f slots n
same_set f [] k s e n = refl
same_set f (t ∷ slots) zero s e zero = e
same_set f (t ∷ slots) zero s e (suc n) = refl
same_set f (t ∷ slots) (suc k) s e zero = refl
same_set f (t ∷ slots) (suc k) s e (suc n) = same_set f slots k s e n

pub pushed : {T : Type 0} (f : Option T → List ℕ) (slots : List T) (s : T) (v : List ℕ) → f (Some s) ≡ v → (n : ℕ) → at_slots f (slots ++ s ∷ []) n ≡ with_slot (at_slots f slots) (length slots) (λ old. v) n
pushed f [] s v e zero = e
pushed f [] s v e (suc n) = grind arith
pushed f (t ∷ slots) s v e zero = grind arith
pushed f (t ∷ slots) s v e (suc n) =
    let again : at_slots f (slots ++ s ∷ []) n ≡ with_slot (at_slots f slots) (length slots) (λ old. v) n = pushed f slots s v e n in grind (arith, again)

pub changed : {T : Type 0} (f : Option T → List ℕ) (slots : List T) (k : ℕ) (s : T) (g : List ℕ → List ℕ) → k < length slots → f (Some s) ≡ g (f (slice_get slots k)) → (n : ℕ) → at_slots f (set slots k s) n ≡ with_slot (at_slots f slots) k g n
changed f [] k s g h e n = absurd (omega arith)
changed f (t ∷ slots) zero s g h e zero = e
changed f (t ∷ slots) zero s g h e (suc n) = grind arith
changed f (t ∷ slots) (suc k) s g h e zero = grind arith
changed f (t ∷ slots) (suc k) s g h e (suc n) =
    let again : at_slots f (set slots k s) n ≡ with_slot (at_slots f slots) k g n = changed f slots k s g (omega arith) e n in grind (arith, again)

-- a test isn't both false and true
pub never : {A : Type 0} (b : Bool) → b ≡ false → b ≡ true → A
never b e f = let h : true ≡ false = sym f ∙ e in absurd (cc)

-- slots by a test that gives the same answers are the same
pub same_slots : (f g : ℕ → Bool) → ((n : ℕ) → g n ≡ f n) → SameSlots (λ n. IsTrue (f n)) (λ n. IsTrue (g n))
same_slots f g e = λ n. (λ holds. sym (e n) ∙ holds, λ holds. e n ∙ holds)

pub gains_slot : {T : Type 0} (f : Option T → Bool) (slots : List T) (s : T) → f (Some s) ≡ true → f None ≡ false → GainsSlot (λ n. IsTrue (at_slots f slots n)) (λ n. IsTrue (at_slots f (slots ++ s ∷ []) n)) (length slots)
gains_slot f [] s e none zero = (λ holds. inr refl, λ old. e)
gains_slot f [] s e none (suc n) = (λ holds. never _ none holds, λ old. elim old [ inl holds ↦ never _ none holds | inr same ↦ absurd (omega (arith, same)) ])
gains_slot f (t ∷ slots) s e none zero = (λ holds. inl holds, λ old. elim old [ inl holds ↦ holds | inr same ↦ absurd (omega (arith, same)) ])
gains_slot f (t ∷ slots) s e none (suc n) =
    let again = gains_slot f slots s e none n in
    (λ holds. elim (again.0 holds) [ inl old ↦ inl old | inr same ↦ inr (omega (arith, same)) ], λ old. elim old [ inl holds ↦ again.1 (inl holds) | inr same ↦ again.1 (inr (omega (arith, same))) ])

gone_at : {T : Type 0} (f : Option T → Bool) (slots : List T) (k : ℕ) (s : T) → f (Some s) ≡ false → f None ≡ false → ¬ IsTrue (at_slots f (set slots k s) k)
gone_at f [] k s e none = λ holds. never _ none holds
gone_at f (t ∷ slots) zero s e none = λ holds. never _ e holds
gone_at f (t ∷ slots) (suc k) s e none = gone_at f slots k s e none

kept_at : {T : Type 0} (f : Option T → Bool) (slots : List T) (k : ℕ) (s : T) (n : ℕ) → n ≢ k → at_slots f (set slots k s) n ≡ at_slots f slots n
kept_at f [] k s n other = refl
kept_at f (t ∷ slots) zero s zero other = absurd (other refl)
kept_at f (t ∷ slots) zero s (suc n) other = refl
kept_at f (t ∷ slots) (suc k) s zero other = refl
kept_at f (t ∷ slots) (suc k) s (suc n) other = kept_at f slots k s n (λ same. other (ap suc same))

pub loses_slot : {T : Type 0} (f : Option T → Bool) (slots : List T) (k : ℕ) (s : T) → f (Some s) ≡ false → f None ≡ false → LosesSlot (λ n. IsTrue (at_slots f slots n)) (λ n. IsTrue (at_slots f (set slots k s) n)) k
loses_slot f slots k s e none = record {
  gone = gone_at f slots k s e none;
  others = λ n other. (λ holds. sym (kept_at f slots k s n other) ∙ holds, λ holds. kept_at f slots k s n other ∙ holds);
}

pub fresh_slot : {T : Type 0} (f : Option T → Bool) (slots : List T) → f None ≡ false → ¬ IsTrue (at_slots f slots (length slots))
fresh_slot f [] none = λ holds. never _ none holds
fresh_slot f (t ∷ slots) none = fresh_slot f slots none
