use Rattle.std.proofs.Common.{map, take}
use Rattle.pil_names.specs.Finding.{polynomials_from}
use Rattle.pil_names.specs.Directory.{Registers}
use Rattle.pil_names.specs.Shown.{draft}
use Rattle.pil_names.proofs.register.register_polynomials.Given as goal

abbrev pub invariant-loop-number : goal.invariant-loop-number
invariant-loop-number l = Registers l.register (polynomials_from 0 (map draft (take l.number l.items)))
