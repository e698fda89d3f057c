-- Straight-line programs over the columns of a namespace, and what their steps come to at a row.
use Rattle.std.specs.Prelude.{ℕ, suc, ◌<◌, ◌≤◌, ◌≡◌, ◌++◌, ◌∷◌, [], ◌⊎◌, Bool, true, false, ◌||◌, ◌&&◌, cond, List, Some, length, slice_get, slice_index, slice_set}
use Rattle.gold.specs.Field.{add_mod, sub_mod, mul_mod, neg_mod}
use Rattle.pil_ast.specs.Term.{Term, mid, Namespace, item_at, inter_at, space_at, width}
use Rattle.pil_ast.specs.Sound.{Each, IsInter}
use Rattle.pil_ast.specs.Written.{marked}
use Rattle.pil_ast.specs.Columns.{Columns}
use Rattle.pil_ast.specs.Value.{later, ahead, value_at, around}
use Rattle.pil_program.specs.declared.nodes.Node.{Node}
use Rattle.pil_program.specs.declared.nodes.Node.TheVariants.{Number, Column, Neg, Add, Sub, Mul}

-- a step with number k reads steps before it and columns below w
abbrev pub IsStep : ℕ → ℕ → Node → Type 0
IsStep w k (Number n) = Unit {0}
IsStep w k (Column c b) = c < w
IsStep w k (Neg a) = a < k
IsStep w k (Add a b) = (a < k) × (b < k)
IsStep w k (Sub a b) = (a < k) × (b < k)
IsStep w k (Mul a b) = (a < k) × (b < k)

-- steps over w columns
abbrev pub IsProgram : ℕ → List Node → Type 0
IsProgram w nodes = (k : ℕ) (n : Node) → slice_get nodes k ≡ Some n → IsStep w k n

-- the value of a step, where `v` gives the columns' values and `x` the other steps'
abbrev pub step_value : (ℕ → Bool → ℕ) → (ℕ → ℕ) → Node → ℕ
step_value v x (Number n) = n
step_value v x (Column k b) = v k b
step_value v x (Neg a) = neg_mod (x a)
step_value v x (Add a b) = add_mod (x a) (x b)
step_value v x (Sub a b) = sub_mod (x a) (x b)
step_value v x (Mul a b) = mul_mod (x a) (x b)

-- the column k at row r of an instance, or at the next row
abbrev pub cell : Columns → ℕ → ℕ → ℕ → ℕ → Bool → ℕ
cell c s i r k b = c.at s i k (ahead (c.rows s) r (later 0 b))

-- x gives the value of each of the first n steps at row r of instance i of the namespace s
abbrev pub AreValues : Columns → ℕ → ℕ → ℕ → List Node → ℕ → (ℕ → ℕ) → Type 0
AreValues c s i r nodes n x = (k : ℕ) (node : Node) → k < n → slice_get nodes k ≡ Some node → x k ≡ step_value (cell c s i r) x node

-- step k is the value of a term t rows further on, at whatever row
pub record Computes (ns : List Namespace) (s : ℕ) (nodes : List Node) (t : ℕ) (e : Term) (k : ℕ) : Type 0 where
  pub inside : k < length nodes
  pub value : (c : Columns) (i r : ℕ) (x : ℕ → ℕ) → AreValues c s i r nodes (length nodes) x → x k ≡ value_at (space_at ns s).items (around ns c s i r) (suc (length (space_at ns s).items)) t e

-- a step stands at k, among the steps as they were or with one more
pub record IsPlaced (old new : List Node) (node : Node) (k : ℕ) : Type 0 where
  pub stands : slice_get new k ≡ Some node
  pub grown : (new ≡ old) ⊎ (new ≡ old ++ node ∷ [])

-- a list of steps goes on with another's, and is a program over the namespace's columns where that was
pub record KeepsSteps (ns : List Namespace) (s : ℕ) (old new : List Node) : Type 0 where
  pub steps : (k : ℕ) (node : Node) → slice_get old k ≡ Some node → slice_get new k ≡ Some node
  pub longer : length old ≤ length new
  pub program : IsProgram (width (space_at ns s).items) old → IsProgram (width (space_at ns s).items) new

-- a term over the columns of the namespace s, which may be moved to the next row, without publics
abbrev pub IsOver : List Namespace → ℕ → Bool → Term → Type 0
IsOver ns s moved e = Each (λ n. Unit {0}) (λ n k b. (n ≡ s) × (k < width (space_at ns s).items) × ((moved && b) ≡ false)) (λ n k b. Unit {0}) (λ k. ⊥) e

-- the intermediates that a term names have their steps, by item
abbrev pub IsReady : List Namespace → ℕ → List Node → Bool → List ℕ → List ℕ → Term → Type 0
IsReady ns s nodes moved here next e =
    Each (λ n. Unit {0}) (λ n k b. Unit {0})
    (λ n k b. (k < length here) × (k < length next) × Computes ns s nodes (later 0 moved) (mid n k b) (slice_index (cond (moved || b) next here) k))
    (λ k. Unit {0}) e

-- step k is a term's value t rows further on, among steps that go on with the old ones
pub record Places (ns : List Namespace) (s : ℕ) (old new : List Node) (t : ℕ) (e : Term) (k : ℕ) : Type 0 where
  pub computes : Computes ns s new t e k
  pub keeps : KeepsSteps ns s old new

-- the intermediates in `done` have their steps at a row, and at the next where they have no mark
pub record HaveSteps (ns : List Namespace) (s : ℕ) (nodes : List Node) (done : ℕ → Type 0) (here next : List ℕ) : Type 0 where
  pub at_row : (k : ℕ) → done k → Computes ns s nodes 0 (mid s k false) (slice_index here k)
  pub at_next : (k : ℕ) → done k → marked (space_at ns s).items (inter_at (space_at ns s).items k) ≡ false → Computes ns s nodes 0 (mid s k true) (slice_index next k)

-- a list of steps has the steps of a term, t rows further on, and notes at an item which is its value
pub record NotesStep (ns : List Namespace) (s : ℕ) (old new : List Node) (t : ℕ) (e : Term) (item : ℕ) (notes notes' : List ℕ) : Type 0 where
  pub step : ℕ
  pub places : Places ns s old new t e step
  pub written : notes' ≡ slice_set notes item step

-- steps of the namespace s with those of all its intermediates, by item
pub record IsProgramOf (ns : List Namespace) (s : ℕ) (nodes : List Node) (here next : List ℕ) : Type 0 where
  pub steps : IsProgram (width (space_at ns s).items) nodes
  pub long : (length here ≡ length (space_at ns s).items) × (length next ≡ length (space_at ns s).items)
  pub inters : HaveSteps ns s nodes (λ k. (k < length (space_at ns s).items) × IsInter (item_at (space_at ns s).items k)) here next
