-- What stands at each place of a meaning: the items of each namespace, its rows, and the publics in their order.
use Rattle.std.specs.Prelude.{ℕ, ◌<◌, ◌≡◌, List, length, map}
use Rattle.pil_ast.specs.Term.{Namespace, space_at, publics}
use Rattle.pil_names.specs.Outline.{Outline, home_at}
use Rattle.pil_names.specs.Finding.{public_names}
use Rattle.pil_names.specs.Wrongs.{rows_of}
use Rattle.pil_meaning.specs.Meaning.{read_draft, meaning}

-- the namespaces are those of an outline, with their items read
pub record IsReading (o : Outline) (ns : List Namespace) : Type 0 where
  pub long : length ns ≡ length o.homes
  pub items : (s : ℕ) → s < length o.homes → (space_at ns s).items ≡ map (read_draft o s) (home_at o.homes s).items
  pub rows : (s : ℕ) → s < length o.homes → (space_at ns s).rows ≡ rows_of o (home_at o.homes s).size
  pub publics : length (publics ns) ≡ length (public_names o.homes)

abbrev pub MeaningIsReading : Type 0
MeaningIsReading = (o : Outline) → IsReading o (meaning o)
