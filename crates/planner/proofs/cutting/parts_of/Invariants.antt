use Rattle.std.proofs.Common.{◌≡◌, ◌≤◌, ◌+◌, ◌*◌, ◌^◌, ◌++◌, drop}
use Rattle.planner.proofs.Walk.{parts_from}
use Rattle.planner.proofs.cutting.parts_of.Given as goal

abbrev pub invariant-loop-chunk : goal.invariant-loop-chunk
invariant-loop-chunk l = record {
  done : l.taken ++ parts_from l.air l.from l.to l.chunk l.at (drop l.chunk l.counts) ≡ parts_from l.air l.from l.to l.fn.start l.fn.first (drop l.fn.start l.counts);
  low : l.at ≤ 2 ^ 32 * (l.chunk + 1);
}
