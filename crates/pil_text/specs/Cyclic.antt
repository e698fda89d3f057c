-- The search for the least place of an intermediate that depends on itself.
use Rattle.std.specs.Prelude.{ℕ, ◌<◌, ◌≤◌, ◌≡◌, Bool, true, List, Option, Some, slice_get, MatchOption}
use Rattle.pil_names.specs.Outline.{Outline, Draft, draft_at}
use Rattle.pil_text.specs.Refusal.{IsCyclicIn, place_of}

-- it is a place of these and at most each other, or there is none
abbrev pub IsLeastOf : (ℕ → Type 0) → Option ℕ → Type 0
IsLeastOf P found = MatchOption found ((at : ℕ) → P at → ⊥) (λ m. P m × ((at : ℕ) → P at → m ≤ at))

-- the place of an item below n whose flag is set
pub record IsFlagged (ds : List Draft) (flags : List Bool) (n at : ℕ) : Type 0 where
  pub item : ℕ
  pub below : item < n
  pub set : slice_get flags item ≡ Some true
  pub place : at ≡ place_of (draft_at ds item)

-- a place in a namespace below n
pub record IsCyclicBelow (o : Outline) (n at : ℕ) : Type 0 where
  pub space : ℕ
  pub below : space < n
  pub inside : IsCyclicIn o space at
