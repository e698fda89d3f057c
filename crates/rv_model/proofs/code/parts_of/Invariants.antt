use Rattle.std.proofs.Common.{All}
use Rattle.rv_model.specs.Code.{IsPart}
use Rattle.rv_model.proofs.code.parts_of.Given as goal

abbrev pub invariant-loop-segment : goal.invariant-loop-segment
invariant-loop-segment l = All (IsPart l.image) l.parts.items
