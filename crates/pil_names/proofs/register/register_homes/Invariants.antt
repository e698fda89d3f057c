use Rattle.std.proofs.Common.{◌≡◌, ◌++◌, map, drop}
use Rattle.pil_names.specs.Shown.{home}
use Rattle.pil_names.proofs.register.register_homes.Given as goal

abbrev pub invariant-loop-home : goal.invariant-loop-home
invariant-loop-home l = map (λ x. x.now) l.names ++ map (λ h. h.name) (map home (drop l.home-index l.outline.homes)) ≡ map (λ h. h.name) (map home l.outline.homes)
