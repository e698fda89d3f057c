-- A run over the instances of tables, added one at a time, and what their rows send.
use Rattle.std.specs.Prelude.{ℕ, ◌<◌, ◌≤◌, ◌≡◌, ◌==◌, ◌++◌, true, cond, List, [], length, map, filter, flat_map, slice_get, Some, All}
use Rattle.std.specs.List.{range_with_len}
use Rattle.std.specs.List.Sorted.{IsPermutation}
use Rattle.pil_ast.specs.Term.{Tuples, Line, bus, Namespace, item_at}
use Rattle.pil_ast.specs.Columns.{Columns}
use Rattle.pil_ast.specs.Holds.{AsOften, row_sent, lines}
use Rattle.pil_ast.specs.Filled.{IsMadeOf}
use Rattle.pil_lines.specs.Places.{ArePlaces}
use Rattle.row_check.specs.declared.broken.Broken.{Broken}
use Rattle.bus_check.specs.declared.runs.Sides.{Sides}
use Rattle.bus_check.specs.declared.runs.BusRun.{BusRun}
use Rattle.bus_check.specs.Bus.{DiffersBy}

-- an instance that was added, in columns that have its values
pub record Added : Type 0 where
  pub columns : Columns
  pub space : ℕ
  pub instance : ℕ

-- what a list sends from an instance: nothing, where it is over another namespace
abbrev pub sent_from : List Namespace → Added → Tuples → List (List ℕ)
sent_from ns x a = cond (a.space == x.space) (flat_map (row_sent ns x.columns a x.instance) (range_with_len 0 (x.columns.rows a.space))) []

-- what a sum of lists sends from instances
abbrev pub all_sent_from : List Namespace → List Added → List Tuples → List (List ℕ)
all_sent_from ns xs ls = flat_map (λ x. flat_map (sent_from ns x) ls) xs

-- the line is an `is`
abbrev pub IsSum : Line → Type 0
IsSum (bus ls rs) = Unit {0}
IsSum _ = ⊥

-- the sides of an `is` have each tuple equally often from these instances
abbrev pub AgreeFrom : List Namespace → List Added → Line → Type 0
AgreeFrom ns xs (bus ls rs) = AsOften (all_sent_from ns xs ls) (all_sent_from ns xs rs)
AgreeFrom ns xs _ = Unit {0}

-- the answer names line k, an `is`, and the least tuple that its sides don't have equally often from these
-- instances, with both counts
abbrev pub DifferFrom : List Namespace → List Added → Line → ℕ → Broken → Type 0
DifferFrom ns xs (bus ls rs) k b = DiffersBy k (all_sent_from ns xs ls) (all_sent_from ns xs rs) b
DifferFrom ns xs _ k b = ⊥

-- the sides have what those of a line send from these instances, if it is an `is`
abbrev pub HaveSent : List Namespace → List Added → Line → Sides → Type 0
HaveSent ns xs (bus ls rs) s = (s.left ≡ all_sent_from ns xs ls) × (s.right ≡ all_sent_from ns xs rs)
HaveSent ns xs _ s = Unit {0}

-- a run stands for the instances that were added to it
pub record RunStandsFor (ns : List Namespace) (xs : List Added) (run : BusRun) : Type 0 where
  pub long : length run.sides.items ≡ length (lines ns)
  pub each : (k : ℕ) (s : Sides) → slice_get run.sides.items k ≡ Some s → HaveSent ns xs (item_at (lines ns) k) s

-- a run was refused memory
abbrev pub IsSpent : BusRun → Type 0
IsSpent run = run.spent ≡ true

-- a run for a text that wasn't refused memory
pub record IsOpen (ns : List Namespace) (run : BusRun) : Type 0 where
  pub places : ArePlaces ns run.places.items
  pub made : IsMadeOf ns run.inters
  pub long : length run.sides.items ≡ length (lines ns)

-- a run for a text
abbrev pub IsRunOf : List Namespace → BusRun → Type 0
IsRunOf ns run = ¬ IsSpent run → IsOpen ns run

-- the sides of a line have more: what the line sends from an instance
abbrev pub Takes : List Namespace → Added → Line → Sides → Sides → Type 0
Takes ns x (bus ls rs) s t = (t.left ≡ s.left ++ flat_map (sent_from ns x) ls) × (t.right ≡ s.right ++ flat_map (sent_from ns x) rs)
Takes ns x _ s t = Unit {0}

-- R holds of each two elements at one place of two lists
pub record AtEach (R : ℕ → Sides → Sides → Type 0) (old new : List Sides) : Type 0 where
  pub long : length new ≡ length old
  pub each : (k : ℕ) (s t : Sides) → slice_get old k ≡ Some s → slice_get new k ≡ Some t → R k s t

-- R holds of the elements at the first n places, and the others are as they were
pub record AtFirst (R : ℕ → Sides → Sides → Type 0) (n : ℕ) (old new : List Sides) : Type 0 where
  pub long : length new ≡ length old
  pub done : (k : ℕ) (s t : Sides) → k < n → slice_get old k ≡ Some s → slice_get new k ≡ Some t → R k s t
  pub rest : (k : ℕ) → n ≤ k → slice_get new k ≡ slice_get old k

-- an instance of a namespace sends what the columns c send there
pub record SendsAlike (ns : List Namespace) (c : Columns) (x : Added) : Type 0 where
  pub rows : x.columns.rows x.space ≡ c.rows x.space
  pub sent : (a : Tuples) (r : ℕ) → a.space ≡ x.space → row_sent ns x.columns a x.instance r ≡ row_sent ns c a x.instance r

-- the instances of a namespace among those that were added, in their order
abbrev pub instances_in : List Added → ℕ → List ℕ
instances_in xs s = map (λ x. x.instance) (filter (λ x. x.space == s) xs)

-- each instance of each namespace was added once, in any order
pub record AreAllOnce (ns : List Namespace) (c : Columns) (xs : List Added) : Type 0 where
  pub alike : All (SendsAlike ns c) xs
  pub once : (s : ℕ) → s < length ns → IsPermutation (instances_in xs s) (range_with_len 0 (c.instances s))
