-- What a text means by its outline, or by which rule it is refused: the first in the table's order that it breaks
-- somewhere, at the least place at which it breaks it (docs/PIL.md, "Refusals").
use Rattle.std.specs.Prelude.{ℕ, ◌<◌, ◌≤◌, ◌≡◌, List, [], Contains, All, Result, Ok, Err}
use Rattle.pil_ast.specs.Term.{Namespace, space_at}
use Rattle.pil_cycles.specs.Cycles.{IsOnCycle}
use Rattle.pil_names.specs.Outline.{Outline, Draft, column, defined, published, home_at, draft_at}
use Rattle.pil_names.specs.Wrongs.{repeated, unknown, bad_rows, mixed, wrong_widths}
use Rattle.pil_meaning.specs.Meaning.{meaning}
use Rattle.pil_names.specs.Directory.{IsCountable}
use Rattle.pil_meaning.specs.Marks.{double}
use Rattle.pil_meaning.specs.Closed.{IsClosed}
use Rattle.pil_meaning.specs.Fitting.{Fits}
use Rattle.pil_text.specs.declared.error.PilErr.{PilErr}
use Rattle.pil_text.specs.declared.error.PilKind.{PilKind}
use Rattle.pil_text.specs.declared.error.PilKind.TheVariants.{BadByte, NumberTooLarge, Unexpected, TooDeep, Repeated, UnknownName, BadRow, Mixed, WrongWidth, CyclicPol, DoubleMark, NoMemory}

-- the place of an item's name in its declaration
abbrev pub place_of : Draft → ℕ
place_of (column k d) = d.name.at
place_of (defined x e) = x.at
place_of (published x r n) = x.at
place_of _ = 0

-- an intermediate of the namespace s depends on itself, whose name stands at this place
pub record IsCyclicIn (o : Outline) (s at : ℕ) : Type 0 where
  pub item : ℕ
  pub cycle : IsOnCycle (space_at (meaning o) s).items item
  pub place : at ≡ place_of (draft_at (home_at o.homes s).items item)

-- an intermediate depends on itself
abbrev pub IsCyclic : Outline → ℕ → Type 0
IsCyclic o at = (s : ℕ) × IsCyclicIn o s at

-- a rule is broken at this place
abbrev pub IsWrong : PilKind → Outline → ℕ → Type 0
IsWrong Repeated o at = Contains (repeated o) at
IsWrong UnknownName o at = Contains (unknown o) at
IsWrong BadRow o at = Contains (bad_rows o) at
IsWrong Mixed o at = Contains (mixed o) at
IsWrong WrongWidth o at = Contains (wrong_widths o) at
IsWrong CyclicPol o at = IsCyclic o at
IsWrong DoubleMark o at = Contains (double o) at
IsWrong _ o at = ⊥

-- the order in which the rules are tested
abbrev pub turn : PilKind → ℕ
turn BadByte = 0
turn NumberTooLarge = 0
turn Unexpected = 1
turn TooDeep = 1
turn Repeated = 2
turn UnknownName = 3
turn BadRow = 4
turn Mixed = 5
turn WrongWidth = 6
turn CyclicPol = 7
turn DoubleMark = 8
turn NoMemory = 9

-- the text breaks no rule, and means this
pub record Means (o : Outline) (ns : List Namespace) : Type 0 where
  pub right : (k : PilKind) (at : ℕ) → IsWrong k o at → ⊥
  pub meant : ns ≡ meaning o

-- the text breaks this rule first, at this place first
pub record Breaks (o : Outline) (e : PilErr) : Type 0 where
  pub wrong : IsWrong e.kind o e.at
  pub least : (at : ℕ) → IsWrong e.kind o at → e.at ≤ at
  pub first : (k : PilKind) (at : ℕ) → turn k < turn e.kind → IsWrong k o at → ⊥

-- the rules that are tested before the n-th are kept
pub record IsClear (n : ℕ) (o : Outline) : Type 0 where
  pub repeated : 2 < n → repeated o ≡ []
  pub unknown : 3 < n → unknown o ≡ []
  pub rows : 4 < n → bad_rows o ≡ []
  pub mixed : 5 < n → mixed o ≡ []
  pub widths : 6 < n → wrong_widths o ≡ []
  pub cyclic : 7 < n → (at : ℕ) → IsCyclic o at → ⊥
  pub double : 8 < n → double o ≡ []

-- want of memory, which has no place
abbrev pub no_memory : PilErr
no_memory = record { kind = NoMemory; at = 0 }

-- where memory ran out the place is 0
abbrev pub HasPlace : PilErr → Type 0
HasPlace e = e.kind ≡ NoMemory → e.at ≡ 0

-- a fact about a refusal, which says nothing where memory ran out
abbrev pub UnlessMemory : PilKind → Type 0 → Type 0
UnlessMemory NoMemory P = Unit {0}
UnlessMemory _ P = P

-- the rules before the n-th are kept, or one is broken
abbrev pub BreaksOrClears : Outline → ℕ → Result (Unit {0}) PilErr → Type 0
BreaksOrClears o n (Ok u) = IsClear n o
BreaksOrClears o n (Err e) = UnlessMemory e.kind (Breaks o e)

-- what a short file keeps as far as its rules are kept
pub record IsReadable (o : Outline) : Type 0 where
  pub countable : IsCountable o
  pub closed : unknown o ≡ [] → mixed o ≡ [] → All (λ n. IsClosed n.items) (meaning o)
  pub fits : unknown o ≡ [] → bad_rows o ≡ [] → wrong_widths o ≡ [] → Fits (meaning o)
