-- An order in which the intermediates of a namespace can be evaluated, and how a search for it stands.
use Rattle.std.specs.Prelude.{ℕ, ◌<◌, ◌≡◌, ◌≢◌, List, Some, length, take, slice_get, All, AllPairs, Contains}
use Rattle.pil_ast.specs.declared.order.State.{State}
use Rattle.pil_ast.specs.declared.order.State.TheVariants.{New, Open, Done}
use Rattle.pil_ast.specs.Term.{Line, item_at, inter_at}
use Rattle.pil_ast.specs.Sound.{NamesOnly, IsInter, IsRanked}

-- each item of the list stands after the intermediates that it names
pub record IsOrder (items : List Line) (order : List ℕ) : Type 0 where
  pub inside : All (λ k. k < length items) order
  pub after : (j k : ℕ) → slice_get order j ≡ Some k → NamesOnly (Contains (take j order)) (inter_at items k)

-- such a list has each intermediate
pub record IsWhole (items : List Line) (order : List ℕ) : Type 0 where
  pub ordered : IsOrder items order
  pub all : (k : ℕ) → k < length items → IsInter (item_at items k) → Contains order k

-- each intermediate names items of its namespace
abbrev pub NamesInside : List Line → Type 0
NamesInside items = (k : ℕ) → NamesOnly (λ j. j < length items) (inter_at items k)

-- the search is done with an item
abbrev pub IsDone : List State → ℕ → Type 0
IsDone states k = slice_get states k ≡ Some Done

-- what is done is in the order, and what is open is on the stack, each named by the one below it
pub record IsSearch (items : List Line) (states : List State) (stack order : List ℕ) : Type 0 where
  pub long : length states ≡ length items
  pub done : (k : ℕ) → IsDone states k → Contains order k
  pub open_ones : (k : ℕ) → slice_get states k ≡ Some Open → Contains stack k
  pub inside : All (λ k. k < length items) stack
  pub falls : (rank : ℕ → ℕ) → IsRanked items rank → AllPairs (λ a b. rank b < rank a) stack
  pub ordered : IsOrder items order

-- the items that were found before are found still
abbrev pub KeepsFound : List State → List State → Type 0
KeepsFound old now = (k : ℕ) → slice_get old k ≢ Some New → slice_get now k ≢ Some New
