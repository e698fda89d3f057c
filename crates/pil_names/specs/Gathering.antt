-- The outline that the statements read so far make with what follows.
use Rattle.std.specs.Prelude.{List, ◌∷◌, ◌++◌, map, flat_map, Option, Some, None}
use Rattle.pil_syntax.specs.Tree.{Sentence}
use Rattle.pil_names.specs.declared.outline.Home as H
use Rattle.pil_names.specs.declared.outline.Gathered as G
use Rattle.pil_names.specs.Outline.{Draft, Home, Outline, constants_of, items_before, homes_of}
use Rattle.pil_names.specs.Shown.{named, draft, home}

-- the namespaces from the last on, where the items ds and the statements ss follow
abbrev pub homes_from : Option H.Home → List Draft → List Sentence → List Home
homes_from None ds ss = homes_of ss
homes_from (Some h) ds ss = record { name = h.name.now; size = h.size.now; items = map draft h.items ++ (ds ++ items_before ss) } ∷ homes_of ss

abbrev pub outline_with : G.Gathered → List Draft → List Sentence → Outline
outline_with g ds ss = record { constants = map named g.constants ++ flat_map constants_of ss; homes = map home g.homes ++ homes_from g.last ds ss }
