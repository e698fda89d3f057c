-- A map from keys to lists, as the pairs of each key and its list.
use Rattle.std.specs.Prelude.{◌≡◌, ◌==◌, ℕ, List, [], ◌∷◌, ◌++◌, unwrap_or, if◌then◌else◌}
use Rattle.std.specs.Map.{lookup}

module _ {T : Type 0} where
  -- the list at a key, which is empty where the map has none
  unfoldable pub list_of : List (ℕ × List T) → ℕ → List T
  list_of lists key = unwrap_or (lookup (λ k. key == k) lists) []

  -- the value was put behind the key's list, and all other lists stayed
  abbrev pub Appends : List (ℕ × List T) → List (ℕ × List T) → ℕ → T → Type 0
  Appends old new key value = (q : ℕ) → list_of new q ≡ (if q == key then list_of old q ++ value ∷ [] else list_of old q)

  -- the key's list is empty, and all other lists stayed
  abbrev pub Clears : List (ℕ × List T) → List (ℕ × List T) → ℕ → Type 0
  Clears old new key = (q : ℕ) → list_of new q ≡ (if q == key then [] else list_of old q)
