-- Views and the passes that they stand for.
use Rattle.std.proofs.Common.{◌≡◌, ◌≢◌, ℕ, zero, suc, ◌<◌, ◌⊎◌, inl, inr, ⊎_elim, false, Option, Some, None, List, [], ◌∷◌, ◌++◌, length, get_or, set, refl, sym, ap, subst, arith}
use Rattle.std.specs.Option.{option_map}
use Rattle.std.proofs.lemmas.List.{get_or-set_same, get_or-set_other}
use mathlib.Core.Option.{some, some-injective, some-ne-none}
use lib.ListN.{get_elem?}
use Rattle.crossbeam_queue.proofs.Lists.{at_set}
use Rattle.job_queue.specs.declared.rule.View.{View}
use Rattle.pipe_core.specs.Pipe.{Holding, is_none_there}
use Rattle.pipe_core.specs.Sound.{jobs_among, jobs_with, HaveSameJobs}
use Rattle.pipe_core.specs.Events.{changed}
use Rattle.queue_events.specs.Stands.{core_tickets, StandsForPass}

abbrev pub AllStand : List View → List (Option Holding) → Type 0
AllStand views ps = (n : ℕ) (v : View) → get_elem? views n ≡ some v → StandsForPass v (get_or ps n None)

-- a view that isn't spent stands for a pass that is there
abbrev pub IsThere : View → Option Holding → Type 0
IsThere v o = (h : Holding) × (o ≡ Some h) × HaveSameJobs (jobs_with (Some h)) (jobs_among (core_tickets v.taken))

pub is_there : (v : View) (o : Option Holding) → StandsForPass v o → 0 < v.shares → IsThere v o
is_there v None is has = let none : v.shares ≡ 0 = ap (λ (u : View). u.shares) is in absurd (omega arith)
is_there v (Some h) is has = (h, refl, is.1)

pub not_gone : (o : Option Holding) (h : Holding) → o ≡ Some h → is_none_there o ≡ false
not_gone o h e = ap is_none_there e

module _ {A : Type 0} where
  pub at_within : (xs : List A) (n : ℕ) (a : A) → get_elem? xs n ≡ some a → n < length xs
  at_within [] zero a at = absurd (some-ne-none a (sym at))
  at_within [] (suc n) a at = absurd (some-ne-none a (sym at))
  at_within (x ∷ xs) zero a at = omega arith
  at_within (x ∷ xs) (suc n) a at = let r = at_within xs n a at in omega arith

-- a view changes, and its pass stays
pub stand_view : (views : List View) (ps : List (Option Holding)) (n : ℕ) (w : View) → AllStand views ps → StandsForPass w (get_or ps n None) → AllStand (set views n w) ps
stand_view views ps n w all is m v at =
    ⊎_elim
    (λ (x : (m ≡ n) × (w ≡ v)). subst (λ k. StandsForPass v (get_or ps k None)) (sym x.0) (subst (λ u. StandsForPass u (get_or ps n None)) x.1 is))
    (λ (x : (m ≢ n) × (get_elem? views m ≡ some v)). all m v x.1)
    (at_set views n m w v at)

-- both change at one number
pub stand-set : (views : List View) (ps : List (Option Holding)) (n : ℕ) (w : View) (o : Option Holding) → AllStand views ps → n < length ps → StandsForPass w o → AllStand (set views n w) (set ps n o)
stand-set views ps n w o all within is m v at =
    ⊎_elim
    (λ (x : (m ≡ n) × (w ≡ v)). subst (λ k. StandsForPass v (get_or (set ps n o) k None)) (sym x.0) (subst (λ u. StandsForPass u (get_or (set ps n o) n None)) x.1 (subst (StandsForPass w) (sym (get_or-set_same ps n o None within)) is)))
    (λ (x : (m ≢ n) × (get_elem? views m ≡ some v)). subst (StandsForPass v) (sym (get_or-set_other ps n m o None x.0)) (all m v x.1))
    (at_set views n m w v at)

-- one more of both
pub stand_push : (views : List View) (ps : List (Option Holding)) (w : View) (o : Option Holding) → AllStand views ps → length ps ≡ length views → StandsForPass w o → AllStand (views ++ w ∷ []) (ps ++ o ∷ [])
stand_push [] [] w o all count is zero v at = subst (λ u. StandsForPass u o) (some-injective w v at) is
stand_push [] [] w o all count is (suc m) v at = absurd (some-ne-none v (sym at))
stand_push [] (p ∷ ps) w o all count is m v at = absurd (omega arith)
stand_push (x ∷ xs) [] w o all count is m v at = absurd (omega arith)
stand_push (x ∷ xs) (p ∷ ps) w o all count is zero v at = all zero v at
stand_push (x ∷ xs) (p ∷ ps) w o all count is (suc m) v at = stand_push xs ps w o (λ k. all (suc k)) (omega arith) is m v at

module _ (f : Holding → Holding) where
  pub changed_here : (ps : List (Option Holding)) (n : ℕ) → get_or (changed ps n f) n None ≡ option_map f (get_or ps n None)
  changed_here [] zero = refl
  changed_here [] (suc n) = refl
  changed_here (p ∷ ps) zero = refl
  changed_here (p ∷ ps) (suc n) = changed_here ps n

  changed_some : (ps : List (Option Holding)) (n m : ℕ) → (get_or (changed ps n f) m None ≡ get_or ps m None) ⊎ (get_or (changed ps n f) m None ≡ option_map f (get_or ps m None))
  changed_some [] n m = inl refl
  changed_some (p ∷ ps) zero zero = inr refl
  changed_some (p ∷ ps) zero (suc m) = inl refl
  changed_some (p ∷ ps) (suc n) zero = inl refl
  changed_some (p ∷ ps) (suc n) (suc m) = changed_some ps n m

  -- where what the pass has to do with jobs stays
  pub stand_changed : (views : List View) (ps : List (Option Holding)) (n : ℕ) → ((v : View) (o : Option Holding) → StandsForPass v o → StandsForPass v (option_map f o)) → AllStand views ps → AllStand views (changed ps n f)
  stand_changed views ps n same all m v at =
      ⊎_elim
      (λ (e : get_or (changed ps n f) m None ≡ get_or ps m None). subst (StandsForPass v) (sym e) (all m v at))
      (λ (e : get_or (changed ps n f) m None ≡ option_map f (get_or ps m None)). subst (StandsForPass v) (sym e) (same v (get_or ps m None) (all m v at)))
      (changed_some ps n m)

module _ {A : Type 0} where
  pub last_of : (xs : List A) (a d : A) (n : ℕ) → length xs ≡ n → get_or (xs ++ a ∷ []) n d ≡ a
  last_of [] a d zero e = refl
  last_of [] a d (suc n) e = absurd (omega arith)
  last_of (x ∷ xs) a d zero e = absurd (omega arith)
  last_of (x ∷ xs) a d (suc n) e = last_of xs a d n (omega arith)

  pub set_last : (xs : List A) (a b : A) (n : ℕ) → length xs ≡ n → set (xs ++ a ∷ []) n b ≡ xs ++ b ∷ []
  set_last [] a b zero e = refl
  set_last [] a b (suc n) e = absurd (omega arith)
  set_last (x ∷ xs) a b zero e = absurd (omega arith)
  set_last (x ∷ xs) a b (suc n) e = ap (λ l. x ∷ l) (set_last xs a b n (omega arith))
