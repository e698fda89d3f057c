-- What a pass over the rows of an instance finds, and what the parts take from it.
use Rattle.std.specs.Prelude.{ℕ, ◌<◌, ◌≤◌, ◌≡◌, ◌≢◌, ◌++◌, List, length, slice_get, flat_map, Option, Some, MatchOption}
use Rattle.std.specs.List.{range_with_len}
use Rattle.pil_ast.specs.Term.{Tuples, Namespace, item_at}
use Rattle.pil_ast.specs.Columns.{Columns}
use Rattle.pil_ast.specs.Holds.{HoldsAt, row_sent, lines}
use Rattle.pil_program.specs.declared.nodes.Node.{Node}
use Rattle.instance_pass.specs.declared.checks.Check.{Check}
use Rattle.instance_pass.specs.declared.parts.Part.{Part}
use Rattle.instance_pass.specs.declared.passes.Found.{Found}
use Rattle.instance_pass.specs.Senders.{IsSenderOf}
use Rattle.instance_pass.specs.Checks.{Asks, IsCheckOf, IsTabled, home}

-- the first n of some facts hold of each of the first m rows
abbrev pub AllMet : (ℕ → ℕ → Type 0) → ℕ → ℕ → Type 0
AllMet Q n m = (k r : ℕ) → k < n → r < m → Q k r

-- a fact fails at row r, one of m rows, and at none before
pub record FailsIn (P : ℕ → Type 0) (m r : ℕ) : Type 0 where
  pub row : r < m
  pub fails : ¬ P r
  pub before : (q : ℕ) → q < r → P q

-- of n facts the k-th is the least that fails at one of m rows, and r is the first row at which it does
pub record FailsLeast (Q : ℕ → ℕ → Type 0) (n m k r : ℕ) : Type 0 where
  pub inside : k < n
  pub fails : FailsIn (Q k) m r
  pub before : AllMet Q k m

-- what the k-th check asks of a row of the namespace s at which its steps have the values v
abbrev pub AsksNth : List (List (List ℕ)) → ℕ → List Check → ℕ → (ℕ → ℕ) → Type 0
AsksNth tables s checks k v = (check : Check) → slice_get checks k ≡ Some check → Asks tables s check v

-- what the line k says of row r of instance i, where it goes over the rows of the namespace s
abbrev pub Says : List Namespace → Columns → ℕ → ℕ → ℕ → ℕ → Type 0
Says ns c s i k r = home (item_at (lines ns) k) ≡ s → HoldsAt ns c i r (item_at (lines ns) k)

-- the columns d have instance i of the namespace s as c has it
pub record IsSameInstance (d c : Columns) (s i : ℕ) : Type 0 where
  pub rows : d.rows s ≡ c.rows s
  pub values : (k r : ℕ) → k < d.width s → r < d.rows s → d.at s i k r ≡ c.at s i k r

-- the checks are those of the lines of a text
pub record AreChecksOf (ns : List Namespace) (nodes : ℕ → List Node) (n : ℕ) (checks : List Check) : Type 0 where
  pub long : length checks ≡ length (lines ns)
  pub each : (k : ℕ) (check : Check) → slice_get checks k ≡ Some check → IsCheckOf ns nodes n check (item_at (lines ns) k)

-- the tables have what the right sides of the lines send
abbrev pub AreTabled : List Namespace → Columns → List (List (List ℕ)) → List Check → Type 0
AreTabled ns c tables checks = (k : ℕ) (check : Check) → slice_get checks k ≡ Some check → IsTabled ns c tables check (item_at (lines ns) k)

-- where a pass over the first m rows stands: the facts below the limit hold, and the one at the limit is the one found
pub record IsPassed (Q : ℕ → ℕ → Type 0) (n limit m : ℕ) (found : Option Found) : Type 0 where
  pub inside : limit ≤ n
  pub met : AllMet Q limit m
  pub result : MatchOption found (limit ≡ n) (λ f. (f.check ≡ limit) × (limit < n) × FailsIn (Q f.check) m f.row)

-- a part has the tuples more that the first m rows of instance i of the namespace s send
pub record TakesRows (ns : List Namespace) (c : Columns) (s i m : ℕ) (nodes : List Node) (old new : Part) : Type 0 where
  pub sender : new.sender ≡ old.sender
  pub here : (a : Tuples) → IsSenderOf ns nodes a old.sender → a.space ≡ s → new.tuples ≡ old.tuples ++ flat_map (row_sent ns c a i) (range_with_len 0 m)
  pub elsewhere : old.sender.space ≢ s → new.tuples ≡ old.tuples

-- R holds of each two elements at one place of two lists
pub record AtEach (R : Part → Part → Type 0) (old new : List Part) : Type 0 where
  pub long : length new ≡ length old
  pub each : (j : ℕ) (p q : Part) → slice_get old j ≡ Some p → slice_get new j ≡ Some q → R p q

-- R holds of the elements at the first n places, and the others are as they were
pub record AtFirst (R : Part → Part → Type 0) (n : ℕ) (old new : List Part) : Type 0 where
  pub long : length new ≡ length old
  pub done : (j : ℕ) (p q : Part) → j < n → slice_get old j ≡ Some p → slice_get new j ≡ Some q → R p q
  pub rest : (j : ℕ) → n ≤ j → slice_get new j ≡ slice_get old j
