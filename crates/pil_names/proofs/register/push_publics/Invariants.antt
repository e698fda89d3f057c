use Rattle.std.proofs.Common.{◌≡◌, ◌++◌, map, drop}
use Rattle.std.specs.Prelude.{flat_map}
use Rattle.pil_names.specs.Finding.{published_name}
use Rattle.pil_names.specs.Shown.{draft}
use Rattle.pil_names.proofs.register.push_publics.Given as goal

abbrev pub invariant-loop-item : goal.invariant-loop-item
invariant-loop-item l = map (λ x. x.now) l.names ++ flat_map published_name (map draft (drop l.item-index l.items)) ≡ map (λ x. x.now) l.fn.names ++ flat_map published_name (map draft l.items)
