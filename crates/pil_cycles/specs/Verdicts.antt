-- Which numbers are on a cycle of a relation, and how the search for them stands.
use Rattle.std.specs.Prelude.{ℕ, ◌<◌, ◌≤◌, ◌≡◌, ◌+◌, ◌⊎◌, Bool, true, false, List, Some, length, slice_get, count_by, All, Contains}
use Rattle.pil_cycles.specs.declared.components.Verdict.{Verdict}
use Rattle.pil_cycles.specs.declared.components.Verdict.TheVariants.{Unknown, Free, Cyclic}
use Rattle.pil_cycles.specs.Paths.{Path, Reaches}

abbrev pub IsUnknown : List Verdict → ℕ → Type 0
IsUnknown verdicts k = slice_get verdicts k ≡ Some Unknown

abbrev pub IsFree : List Verdict → ℕ → Type 0
IsFree verdicts k = slice_get verdicts k ≡ Some Free

abbrev pub IsCyclic : List Verdict → ℕ → Type 0
IsCyclic verdicts k = slice_get verdicts k ≡ Some Cyclic

abbrev pub IsKnown : List Verdict → ℕ → Type 0
IsKnown verdicts k = IsFree verdicts k ⊎ IsCyclic verdicts k

-- the numbers that are judged are judged rightly
pub record AreRight (E : ℕ → ℕ → Type 0) (verdicts : List Verdict) : Type 0 where
  pub cyclic : (k : ℕ) → IsCyclic verdicts k → Path E k k
  pub free : (k : ℕ) → IsFree verdicts k → ¬ Path E k k

-- all numbers below a bound are
pub record AreVerdicts (E : ℕ → ℕ → Type 0) (count : ℕ) (verdicts : List Verdict) : Type 0 where
  pub long : length verdicts ≡ count
  pub right : AreRight E verdicts
  pub known : (k : ℕ) → k < count → IsKnown verdicts k

-- what stands at `from` or later in the order is judged, and with each number those that lead to it
pub record IsJudged (E : ℕ → ℕ → Type 0) (count : ℕ) (order : List ℕ) (from : ℕ) (verdicts : List Verdict) : Type 0 where
  pub long : length verdicts ≡ count
  pub right : AreRight E verdicts
  pub closed : (a b : ℕ) → E a b → IsKnown verdicts b → IsKnown verdicts a
  pub late : (p k : ℕ) → from ≤ p → slice_get order p ≡ Some k → IsKnown verdicts k

-- a number stands no later than the root, reaches it, and the root reaches all between them
pub record IsNear (E : ℕ → ℕ → Type 0) (order : List ℕ) (at root u : ℕ) : Type 0 where
  pub reaches : Reaches E u root
  pub place : ℕ
  pub early : place ≤ at
  pub stands : slice_get order place ≡ Some u
  pub between : (p v : ℕ) → place ≤ p → p ≤ at → slice_get order p ≡ Some v → Reaches E root v

-- the numbers that lead to the root or to a judged one are judged, but for those that lead to what is to do
pub record IsSpread (E : ℕ → ℕ → Type 0) (count : ℕ) (order : List ℕ) (at root : ℕ) (verdicts : List Verdict) (todo : List ℕ) : Type 0 where
  pub long : length verdicts ≡ count
  pub right : AreRight E verdicts
  pub inside : All (λ k. k < count) todo
  pub near : All (IsNear E order at root) todo
  pub closed : (a b : ℕ) → E a b → IsKnown verdicts b ⊎ (b ≡ root) → IsKnown verdicts a ⊎ Contains todo b
  pub late : (p k : ℕ) → at < p → slice_get order p ≡ Some k → IsKnown verdicts k

abbrev pub is_unknown : Verdict → Bool
is_unknown Unknown = true
is_unknown Free = false
is_unknown Cyclic = false

abbrev pub is_cyclic : Verdict → Bool
is_cyclic Unknown = false
is_cyclic Free = false
is_cyclic Cyclic = true

-- how many numbers aren't judged yet
abbrev pub unknown_count : List Verdict → ℕ
unknown_count verdicts = count_by is_unknown verdicts

-- those of the list that weren't judged are Cyclic now and are to do
pub record IsMarked (list : List ℕ) (old now : List Verdict) (todo more : List ℕ) : Type 0 where
  pub long : length now ≡ length old
  pub all : (k : ℕ) → Contains list k → IsKnown now k
  pub each : (k : ℕ) → (slice_get now k ≡ slice_get old k) ⊎ (IsUnknown old k × IsCyclic now k × Contains list k × Contains more k)
  pub kept : (k : ℕ) → Contains todo k → Contains more k
  pub only : (k : ℕ) → Contains more k → Contains todo k ⊎ (IsUnknown old k × Contains list k)
  pub size : unknown_count now + length more ≡ unknown_count old + length todo
