use Rattle.std.proofs.Common.{◌≡◌, ◌++◌, map, drop}
use Rattle.pil_names.specs.Finding.{public_names}
use Rattle.pil_names.specs.Shown.{home}
use Rattle.pil_names.proofs.register.publics_of.Given as goal

abbrev pub invariant-loop-home : goal.invariant-loop-home
invariant-loop-home l = map (λ x. x.now) l.names ++ public_names (map home (drop l.home-index l.homes)) ≡ public_names (map home l.homes)
