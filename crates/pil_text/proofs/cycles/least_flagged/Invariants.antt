use Rattle.std.proofs.Common.{map}
use Rattle.pil_names.specs.Shown.{draft}
use Rattle.pil_text.specs.Cyclic.{IsLeastOf, IsFlagged}
use Rattle.pil_text.proofs.cycles.least_flagged.Given as goal

-- the least of the items so far
abbrev pub invariant-loop-item : goal.invariant-loop-item
invariant-loop-item l = IsLeastOf (IsFlagged (map draft l.items) l.flags l.item) l.found
