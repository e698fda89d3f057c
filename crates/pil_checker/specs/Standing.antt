-- A checker, and the columns whose instances were added to it.
use Rattle.std.specs.Prelude.{ℕ, ◌<◌, ◌≤◌, ◌≡◌, List, [], length, map, flat_map, slice_get, slice_index, slice_index_or, Option, Some, None, MatchOption}
use Rattle.std.specs.List.{range_with_len}
use Rattle.pil_ast.specs.Term.{Tuples, Line, lookup, bus, Namespace, item_at}
use Rattle.pil_ast.specs.Columns.{Columns}
use Rattle.pil_ast.specs.Holds.{HoldsAt, by_rows, row_sent, sent, all_sent, times, AsOften, lines}
use Rattle.pil_ast.specs.Broken.{FailsFirst}
use Rattle.instance_pass.specs.declared.parts.Part.{Part}
use Rattle.instance_pass.specs.declared.passes.Found.{Found}
use Rattle.instance_pass.specs.Senders.{IsSenderOf}
use Rattle.instance_pass.specs.Checks.{home}
use Rattle.instance_pass.specs.Passes.{AreTabled, AtEach}
use Rattle.pil_checker.specs.declared.checker.Spot.{Spot}
use Rattle.pil_checker.specs.declared.checker.Checker.{Checker}
use Rattle.pil_checker.specs.declared.lines.Span.{Span}
use Rattle.pil_checker.specs.declared.plans.Plan.{Plan}
use Rattle.pil_checker.specs.Programs.{nodes_at}
use Rattle.pil_checker.specs.Plans.{IsPlanOf}

-- how many instances of the namespace s were added
abbrev pub added : Checker → ℕ → ℕ
added k s = slice_index k.counts.items s

-- the columns with so many instances of each namespace
abbrev pub counted : Columns → (ℕ → ℕ) → Columns
counted c n = record c { instances = n }

-- what the first n instances send
abbrev pub sent_upto : List Namespace → Columns → ℕ → Tuples → List (List ℕ)
sent_upto ns c n a = by_rows (row_sent ns c a) n (c.rows a.space)

-- the first m lines, where they are identities or `in`s, hold of n instances of each namespace
abbrev pub AllUpTo : List Namespace → Columns → (ℕ → ℕ) → ℕ → Type 0
AllUpTo ns c n m = (k i r : ℕ) → k < m → i < n (home (item_at (lines ns) k)) → r < c.rows (home (item_at (lines ns) k)) → HoldsAt ns c i r (item_at (lines ns) k)

-- a line is the least that is broken at one of n instances of each namespace, and where it is first
pub record IsFound (ns : List Namespace) (c : Columns) (n : ℕ → ℕ) (f : Spot) : Type 0 where
  pub inside : f.line < length (lines ns)
  pub fails : FailsFirst (counted c n) (home (item_at (lines ns) f.line)) (λ i r. HoldsAt ns c i r (item_at (lines ns) f.line)) f.instance f.row
  pub before : AllUpTo ns c n f.line

-- a checker for a text
pub record IsBuilt (ns : List Namespace) (k : Checker) : Type 0 where
  pub planned : IsPlanOf ns k.plan
  pub counts : length k.counts.items ≡ length ns
  pub room : (s : ℕ) → length (nodes_at k.plan.programs.items s) ≤ length k.blocks.items
  pub spot : MatchOption k.found (Unit {0}) (λ f. f.line < length (lines ns))

-- a checker stands for the columns of which it was given the first instances of each namespace
pub record StandsFor (ns : List Namespace) (c : Columns) (k : Checker) : Type 0 where
  pub tabled : AreTabled ns c k.plan.tables.items k.plan.checks.items
  pub parts : (j : ℕ) (p : Part) (a : Tuples) → slice_get k.plan.parts.items j ≡ Some p → IsSenderOf ns (nodes_at k.plan.programs.items a.space) a p.sender → p.tuples ≡ sent_upto ns c (added k a.space) a
  pub found : MatchOption k.found (AllUpTo ns c (added k) (length (lines ns))) (λ f. IsFound ns c (added k) f)

-- the right side of each `in` sends the same
abbrev pub SendAlike : List Namespace → Columns → Columns → Type 0
SendAlike ns d c = (k : ℕ) (a b : Tuples) → item_at (lines ns) k ≡ lookup a b → (t : List ℕ) → times t (sent ns d b) ≡ times t (sent ns c b)

-- all instances of each namespace were added
abbrev pub AreAllAdded : List Namespace → Columns → Checker → Type 0
AreAllAdded ns c k = (s : ℕ) → s < length ns → added k s ≡ c.instances s

-- the tuples of the part with number j
abbrev pub tuples_at : List Part → ℕ → List (List ℕ)
tuples_at parts j = slice_index_or (map (λ p. p.tuples) parts) j []

-- the tuples of n parts
abbrev pub side_of : List Part → ℕ → ℕ → List (List ℕ)
side_of parts first n = flat_map (tuples_at parts) (range_with_len first n)

-- the parts keep their lists, and from number n on their tuples
pub record GiveBefore (n : ℕ) (old new : List Part) : Type 0 where
  pub senders : AtEach (λ p q. q.sender ≡ p.sender) old new
  pub rest : (k : ℕ) → n ≤ k → slice_get new k ≡ slice_get old k

-- from the span of line n on each part has what its list sends
abbrev pub HaveFrom : List Namespace → Columns → Plan → ℕ → Type 0
HaveFrom ns c plan n = (k : ℕ) (x : Span) (j : ℕ) (p : Part) (a : Tuples) → n ≤ k → slice_get plan.spans.items k ≡ Some x → x.first ≤ j → slice_get plan.parts.items j ≡ Some p → IsSenderOf ns (nodes_at plan.programs.items a.space) a p.sender → p.tuples ≡ sent ns c a

-- what the line says if it is an `is`
abbrev pub AgreesIfBus : List Namespace → Columns → Line → Type 0
AgreesIfBus ns c (bus ls rs) = AsOften (all_sent ns c ls) (all_sent ns c rs)
AgreesIfBus ns c _ = Unit {0}

-- the number of the line that is known to be broken, or n
abbrev pub limit_of : Option Spot → ℕ → ℕ
limit_of None n = n
limit_of (Some f) n = f.line

-- what is known to be broken after an instance was looked at
abbrev pub found_after : Option Spot → Option Found → ℕ → Option Spot
found_after old None i = old
found_after old (Some f) i = Some (record { line = f.check; instance = i; row = f.row })

-- a checker that another became when it looked at an instance: the tuples of its parts have changed
pub record IsSameBut (old new : Checker) : Type 0 where
  pub programs : new.plan.programs ≡ old.plan.programs
  pub checks : new.plan.checks ≡ old.plan.checks
  pub spans : new.plan.spans ≡ old.plan.spans
  pub tables : new.plan.tables ≡ old.plan.tables
  pub counts : new.counts ≡ old.counts
  pub found : new.found ≡ old.found
  pub room : length new.blocks.items ≡ length old.blocks.items
