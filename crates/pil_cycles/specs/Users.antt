-- For each item of a namespace the items that name it.
use Rattle.std.specs.Prelude.{ℕ, ◌≡◌, ◌⊎◌, ◌↔◌, List, [], ◌∷◌, ◌++◌, length, slice_index_or, Contains}
use Rattle.pil_ast.specs.Term.{Term, num, col, mid, public, opp, ◌⊕◌, ◌⊖◌, ◌⊗◌, Line, inter_at}
use Rattle.pil_ast.specs.Sound.{Names}

-- a is a user of b
abbrev pub Uses : List (List ℕ) → ℕ → ℕ → Type 0
Uses users a b = Contains (slice_index_or users b []) a

-- each intermediate is a user of those that it names, and of no others
pub record AreUsers (items : List Line) (users : List (List ℕ)) : Type 0 where
  pub long : length users ≡ length items
  pub those : (a b : ℕ) → Uses users a b ↔ Names (inter_at items a) b

-- the user was added to those in the list
pub record AddsUser (names : List ℕ) (user : ℕ) (old now : List (List ℕ)) : Type 0 where
  pub long : length now ≡ length old
  pub those : (a b : ℕ) → Uses now a b ↔ (Uses old a b ⊎ ((a ≡ user) × Contains names b))

-- the intermediates that a term names, in its order
abbrev pub named : Term → List ℕ
named (num n) = []
named (col s k b) = []
named (mid s k b) = k ∷ []
named (public k) = []
named (opp a) = named a
named (a ⊕ b) = named a ++ named b
named (a ⊖ b) = named a ++ named b
named (a ⊗ b) = named a ++ named b
