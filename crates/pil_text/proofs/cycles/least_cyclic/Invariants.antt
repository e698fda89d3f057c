use Rattle.pil_names.specs.Shown.{outlined}
use Rattle.pil_text.specs.Cyclic.{IsLeastOf, IsCyclicBelow}
use Rattle.pil_text.proofs.cycles.least_cyclic.Given as goal

-- the least of the namespaces so far
abbrev pub invariant-loop-space : goal.invariant-loop-space
invariant-loop-space l = IsLeastOf (IsCyclicBelow (outlined l.outline) l.space) l.found
