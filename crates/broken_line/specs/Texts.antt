-- The text of a line: where its statement stands in the printed text (pil_print/specs/Printed.antt), each statement of which
-- is a line of bytes.
use Rattle.std.specs.Prelude.{ℕ, ◌-◌, ◌<◌, ◌≡◌, ◌⊎◌, List, [], ◌∷◌, length, take, slice_get, Option, Some, None}
use Rattle.pil_ast.specs.Term.{Namespace, space_at}
use Rattle.pil_ast.specs.Holds.{lines}
use Rattle.pil_lines.specs.Places.{ArePlaces}
use Rattle.pil_lines.specs.declared.places.LinePlace.{LinePlace}
use Rattle.pil_print.specs.Printed.{printed}
use Rattle.broken_line.specs.Cut.{front, skip}
use Rattle.broken_line.specs.declared.finding.LineText.{LineText}

-- what follows these namespaces, of each its head and its items
abbrev pub behind_spaces : List Namespace → List ℕ → List ℕ
behind_spaces [] text = text
behind_spaces (n ∷ ns) text = behind_spaces ns (skip (length n.items) (skip 1 text))

-- the printed statement that is the item k of the namespace s
abbrev pub statement_at : List Namespace → ℕ → ℕ → List ℕ
statement_at ns s k = front (skip k (skip 1 (behind_spaces (take s ns) (printed ns))))

-- the text of the line with this number, from 1
pub record IsText (ns : List Namespace) (number : ℕ) (found : LineText) : Type 0 where
  pub places : List LinePlace
  pub are : ArePlaces ns places
  pub place : LinePlace
  pub is : slice_get places (number - 1) ≡ Some place
  pub space : found.space.items ≡ (space_at ns place.space).name
  pub text : found.text.items ≡ statement_at ns place.space place.item

-- what is found of a line: its text, or nothing where no line has this number
abbrev pub IsFound : List Namespace → ℕ → Option LineText → Type 0
IsFound ns number None = (number ≡ 0) ⊎ (length (lines ns) < number)
IsFound ns number (Some found) = IsText ns number found
