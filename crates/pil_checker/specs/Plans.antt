-- The lines of a text as checks and parts.
use Rattle.std.specs.Prelude.{ℕ, ◌+◌, ◌<◌, ◌≤◌, ◌≡◌, List, [], ◌∷◌, Some, length, slice_get, slice_index_or, All}
use Rattle.pil_ast.specs.Term.{Tuples, Line, identity, lookup, bus, Namespace, item_at}
use Rattle.pil_ast.specs.Sound.{IsTerm}
use Rattle.pil_ast.specs.Columns.{Columns}
use Rattle.pil_ast.specs.Holds.{times, sent, lines}
use Rattle.pil_program.specs.declared.nodes.Node.{Node}
use Rattle.pil_program.specs.Publics.{NoPublic}
use Rattle.instance_pass.specs.declared.parts.Part.{Part}
use Rattle.instance_pass.specs.Senders.{IsSenderOf}
use Rattle.instance_pass.specs.declared.checks.Check.{Check}
use Rattle.instance_pass.specs.declared.checks.Check.TheVariants.{Among}
use Rattle.instance_pass.specs.Checks.{IsCheckOf}
use Rattle.pil_checker.specs.declared.lines.Span.{Span}
use Rattle.pil_checker.specs.declared.plans.Plan.{Plan}
use Rattle.pil_checker.specs.Programs.{nodes_at, ArePrograms, IsPlain}

-- a list goes on with another's elements
pub record Extends {X : Type 0} (old new : List X) : Type 0 where
  pub longer : length old ≤ length new
  pub keeps : (k : ℕ) (x : X) → slice_get old k ≡ Some x → slice_get new k ≡ Some x

-- a line of a text, which names no public
abbrev pub IsLineOf : List Namespace → Line → Type 0
IsLineOf ns (identity s a b) = (s < length ns) × IsTerm ns s a × IsTerm ns s b × NoPublic a × NoPublic b
IsLineOf ns (lookup a b) = IsPlain ns a × IsPlain ns b
IsLineOf ns (bus ls rs) = All (IsPlain ns) ls × All (IsPlain ns) rs
IsLineOf ns _ = ⊥

-- the table with number k has what a list sends
abbrev pub HasTable : List Namespace → Columns → List (List (List ℕ)) → Tuples → ℕ → Type 0
HasTable ns c tables b k = (k < length tables) × ((t : List ℕ) → times t (slice_index_or tables k []) ≡ times t (sent ns c b))

-- it has what the right side of a line sends, if it is an `in`
abbrev pub IsTableOf : List Namespace → Columns → List (List (List ℕ)) → Line → ℕ → Type 0
IsTableOf ns c tables (lookup a b) k = HasTable ns c tables b k
IsTableOf ns c tables _ k = Unit {0}

-- a check looks into the table with number k
abbrev pub IsTableOfCheck : Check → ℕ → Type 0
IsTableOfCheck (Among x n) k = n ≡ k
IsTableOfCheck _ k = ⊥

-- the parts from number k on are those of some lists
abbrev pub HaveParts : List Namespace → (ℕ → List Node) → List Part → ℕ → List Tuples → Type 0
HaveParts ns nodes parts k [] = Unit {0}
HaveParts ns nodes parts k (a ∷ as') = ((p : Part) × (slice_get parts k ≡ Some p) × IsSenderOf ns (nodes a.space) a p.sender) × HaveParts ns nodes parts (k + 1) as'

-- the parts of a span are those of the sides of a line, if it is an `is`
abbrev pub IsSpanOf : List Namespace → (ℕ → List Node) → List Part → Span → Line → Type 0
IsSpanOf ns nodes parts x (bus ls rs) = (x.middle ≡ x.first + length ls) × (x.end ≡ x.middle + length rs) × (x.end ≤ length parts) × HaveParts ns nodes parts x.first ls × HaveParts ns nodes parts x.middle rs
IsSpanOf ns nodes parts x _ = Unit {0}

-- each part is one of a list
abbrev pub AreKnown : List Namespace → (ℕ → List Node) → List Part → Type 0
AreKnown ns nodes parts = (j : ℕ) (p : Part) → slice_get parts j ≡ Some p → (a : Tuples) × IsSenderOf ns (nodes a.space) a p.sender × (a.space < length ns)

-- no part has a tuple yet
abbrev pub AreIdle : List Part → Type 0
AreIdle parts = (j : ℕ) (p : Part) → slice_get parts j ≡ Some p → p.tuples ≡ []

-- the spans are among n parts, and each ends before those of later lines begin
pub record AreApart (spans : List Span) (n : ℕ) : Type 0 where
  pub inside : (k : ℕ) (x : Span) → slice_get spans k ≡ Some x → x.end ≤ n
  pub apart : (j k : ℕ) (x y : Span) → j < k → slice_get spans j ≡ Some x → slice_get spans k ≡ Some y → x.end ≤ y.first

-- a plan has the first n lines of a text
pub record IsPlanUpTo (ns : List Namespace) (plan : Plan) (n : ℕ) : Type 0 where
  pub programs : ArePrograms ns plan.programs.items
  pub checks_long : length plan.checks.items ≡ n
  pub checks : (k : ℕ) (check : Check) → slice_get plan.checks.items k ≡ Some check → IsCheckOf ns (nodes_at plan.programs.items) (length plan.tables.items) check (item_at (lines ns) k)
  pub spans_long : length plan.spans.items ≡ n
  pub spans : (k : ℕ) (x : Span) → slice_get plan.spans.items k ≡ Some x → IsSpanOf ns (nodes_at plan.programs.items) plan.parts.items x (item_at (lines ns) k)
  pub apart : AreApart plan.spans.items (length plan.parts.items)
  pub known : AreKnown ns (nodes_at plan.programs.items) plan.parts.items

-- a plan has all lines of a text
abbrev pub IsPlanOf : List Namespace → Plan → Type 0
IsPlanOf ns plan = IsPlanUpTo ns plan (length (lines ns))
