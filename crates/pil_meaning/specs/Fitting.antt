-- The numbers of a text fit where they are kept: those of expressions the field, the others 32 bits.
use Rattle.std.specs.Prelude.{ℕ, ◌<◌, ◌≡◌, ◌^◌, List, [], length, All, Option, Some, None}
use Rattle.gold.specs.Field.{p}
use Rattle.pil_ast.specs.Term.{Term, Tuples, Line, constant, commit, inter, published, identity, lookup, bus, Namespace, width}
use Rattle.pil_ast.specs.Sound.{Each}
use Rattle.pil_syntax.specs.Tree.{Sentence}
use Rattle.pil_syntax.specs.Spelling.{tokens_of}
use Rattle.pil_names.specs.Outline.{outline_of}
use Rattle.pil_names.specs.Wrongs.{unknown, bad_rows, wrong_widths}
use Rattle.pil_meaning.specs.Meaning.{meaning}
use Rattle.pil_meaning.specs.Soundness.{HasNumbers, IsShort}

abbrev pub FitsTerm : Term → Type 0
FitsTerm e = Each (λ n. n < p) (λ s k b. k < 2 ^ 32) (λ s k b. Unit {0}) (λ k. Unit {0}) e

abbrev pub FitsSelector : Option Term → Type 0
FitsSelector None = Unit {0}
FitsSelector (Some e) = FitsTerm e

pub record FitsList (a : Tuples) : Type 0 where
  pub sel : FitsSelector a.sel
  pub terms : All FitsTerm a.terms

abbrev pub FitsLength : Option ℕ → Type 0
FitsLength None = Unit {0}
FitsLength (Some n) = n < 2 ^ 32

abbrev pub FitsLine : Line → Type 0
FitsLine (constant n len) = FitsLength len
FitsLine (commit n len) = FitsLength len
FitsLine (inter n e) = FitsTerm e
FitsLine (published n m k r) = (k < 2 ^ 32) × (r < 2 ^ 32)
FitsLine (identity m a b) = FitsTerm a × FitsTerm b
FitsLine (lookup a b) = FitsList a × FitsList b
FitsLine (bus ls rs) = All FitsList ls × All FitsList rs

pub record FitsSpace (n : Namespace) : Type 0 where
  pub rows : n.rows < 2 ^ 32
  pub columns : width n.items < 2 ^ 32
  pub items : All FitsLine n.items

pub record Fits (ns : List Namespace) : Type 0 where
  pub spaces : length ns < 2 ^ 32
  pub each : All FitsSpace ns

-- the numbers of a short file fit whose names, rows and widths are right
abbrev pub NamedFits : Type 0
NamedFits = (ss : List Sentence) → HasNumbers (outline_of ss) → IsShort (tokens_of ss) → unknown (outline_of ss) ≡ [] → bad_rows (outline_of ss) ≡ [] → wrong_widths (outline_of ss) ≡ [] → Fits (meaning (outline_of ss))
