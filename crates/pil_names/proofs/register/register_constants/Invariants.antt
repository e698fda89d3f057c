use Rattle.std.proofs.Common.{◌≡◌, ◌++◌, map, drop}
use Rattle.pil_names.specs.Shown.{named}
use Rattle.pil_names.proofs.register.register_constants.Given as goal

abbrev pub invariant-loop-constant : goal.invariant-loop-constant
invariant-loop-constant l = map (λ x. x.now) l.names ++ map (λ c. c.name) (map named (drop l.constant-index l.outline.constants)) ≡ map (λ c. c.name) (map named l.outline.constants)
