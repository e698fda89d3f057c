-- Where the lines of a text stand (docs/PIL.md, "Lines").
use Rattle.std.specs.Prelude.{◌<◌, ◌≡◌, List, length, map, All}
use Rattle.pil_ast.specs.Term.{Line, Namespace, item_at, space_at}
use Rattle.pil_ast.specs.Holds.{lines}
use Rattle.pil_lines.specs.declared.places.LinePlace.{LinePlace}

-- the item at a place
abbrev pub item_of : List Namespace → LinePlace → Line
item_of ns x = item_at (space_at ns x.space).items x.item

-- an item of a namespace of the text stands at a place
pub record IsInside (ns : List Namespace) (x : LinePlace) : Type 0 where
  pub space : x.space < length ns
  pub item : x.item < length (space_at ns x.space).items

-- the lines of the text stand at these places, in order
pub record ArePlaces (ns : List Namespace) (xs : List LinePlace) : Type 0 where
  pub items : map (item_of ns) xs ≡ lines ns
  pub inside : All (IsInside ns) xs
