use Rattle.std.proofs.Common.{map, take}
use Rattle.pil_names.specs.Finding.{numbered}
use Rattle.pil_names.specs.Directory.{Registers}
use Rattle.pil_names.proofs.register.register_all.Given as goal

abbrev pub invariant-loop-number : goal.invariant-loop-number
invariant-loop-number l = Registers l.register (numbered 0 (map (λ x. x.now) (take l.number l.names)))
