use Rattle.std.proofs.Common.{◌≡◌, map, take}
use Rattle.pil_ast.specs.Tree.{namespace}
use Rattle.pil_names.specs.Shown.{outlined, home}
use Rattle.pil_meaning.specs.Meaning.{read_homes}
use Rattle.pil_meaning.proofs.reading.read_meaning.Given as goal

abbrev pub invariant-loop-home : goal.invariant-loop-home
invariant-loop-home l = (l.number ≡ l.home-index) × (map namespace l.spaces ≡ read_homes (outlined l.outline) 0 (map home (take l.home-index l.outline.homes)))
