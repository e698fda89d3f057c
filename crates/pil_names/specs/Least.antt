-- The least of a list of places.
use Rattle.std.specs.Prelude.{ℕ, ◌≡◌, ◌≤◌, List, [], ◌∷◌, Contains, Option, Some, None, min}

abbrev pub lesser : Option ℕ → Option ℕ → Option ℕ
lesser None b = b
lesser (Some m) None = Some m
lesser (Some m) (Some n) = Some (min m n)

abbrev pub least : List ℕ → Option ℕ
least [] = None
least (n ∷ ns) = lesser (Some n) (least ns)

-- the least of a list is in it and at most each of its places; only an empty list has none
pub record IsLeast : Type 0 where
  pub among : (ns : List ℕ) (m : ℕ) → least ns ≡ Some m → Contains ns m
  pub lowest : (ns : List ℕ) (m : ℕ) → least ns ≡ Some m → (n : ℕ) → Contains ns n → m ≤ n
  pub none : (ns : List ℕ) → least ns ≡ None → ns ≡ []
