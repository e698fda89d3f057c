-- The intermediates of a namespace name each other alone.
use Rattle.std.specs.Prelude.{◌<◌, ◌≡◌, ◌^◌, List, [], length, All}
use Rattle.pil_syntax.specs.Tree.{Sentence}
use Rattle.pil_syntax.specs.Spelling.{tokens_of}
use Rattle.pil_ast.specs.Term.{Line}
use Rattle.pil_ast.specs.Order.{NamesInside}
use Rattle.pil_names.specs.Outline.{outline_of}
use Rattle.pil_names.specs.Wrongs.{unknown, mixed}
use Rattle.pil_meaning.specs.Meaning.{meaning}
use Rattle.pil_meaning.specs.Soundness.{IsShort}

-- there are not too many items, and each intermediate names items among them
pub record IsClosed (items : List Line) : Type 0 where
  pub few : length items < 2 ^ 32
  pub inside : NamesInside items

-- in a short file whose names are declared and unmixed
abbrev pub NamedIsClosed : Type 0
NamedIsClosed = (ss : List Sentence) → IsShort (tokens_of ss) → unknown (outline_of ss) ≡ [] → mixed (outline_of ss) ≡ [] → All (λ n. IsClosed n.items) (meaning (outline_of ss))
