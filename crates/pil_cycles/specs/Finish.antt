-- The order in which a search along a relation is done with numbers, and how the search stands.
use Rattle.std.specs.Prelude.{ℕ, ◌<◌, ◌≤◌, ◌≡◌, ◌⊎◌, Bool, true, List, Some, length, slice_get, All, AllPairs, Contains}
use Rattle.pil_cycles.specs.Paths.{Reaches}

-- where a leads to b and stands no later, b reaches all from a to b in the list
abbrev pub IsCovered : (ℕ → ℕ → Type 0) → List ℕ → Type 0
IsCovered E order =
    (i p j a v b : ℕ) → i ≤ p → p ≤ j → slice_get order i ≡ Some a → slice_get order p ≡ Some v → slice_get order j ≡ Some b → E a b → Reaches E b v

-- the numbers below a bound, in such an order
pub record IsFinished (E : ℕ → ℕ → Type 0) (count : ℕ) (order : List ℕ) : Type 0 where
  pub inside : All (λ k. k < count) order
  pub all : (k : ℕ) → k < count → Contains order k
  pub covered : IsCovered E order

-- the search has found a number
abbrev pub IsFound : List Bool → ℕ → Type 0
IsFound found k = slice_get found k ≡ Some true

-- what was found is on the stack or in the order, and the stack is a path
pub record IsVisit (E : ℕ → ℕ → Type 0) (count : ℕ) (found : List Bool) (stack order : List ℕ) : Type 0 where
  pub long : length found ≡ count
  pub placed : (k : ℕ) → IsFound found k → Contains stack k ⊎ Contains order k
  pub leads : (i a b : ℕ) → slice_get order i ≡ Some a → E a b → IsFound found b
  pub stack_inside : All (λ k. k < count) stack
  pub order_inside : All (λ k. k < count) order
  pub chain : AllPairs (Reaches E) stack
  pub covered : IsCovered E order
  pub waited : (i p a v b : ℕ) → i ≤ p → slice_get order i ≡ Some a → slice_get order p ≡ Some v → Contains stack b → E a b → Reaches E b v

-- what was found before is found still
abbrev pub KeepsFound : List Bool → List Bool → Type 0
KeepsFound old now = (k : ℕ) → IsFound old k → IsFound now k
