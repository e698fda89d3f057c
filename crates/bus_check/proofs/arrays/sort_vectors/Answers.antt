use Rattle.bus_check.proofs.Times.{times-sorted}
use Rattle.bus_check.proofs.Sorted.{ascend-from}
use Rattle.bus_check.proofs.arrays.sort_vectors.Goals as goal

pub returns-clause-sorted : goal.returns-clause-sorted
returns-clause-sorted c = ascend-from c.sort_unstable.new.self.items c.sort_unstable.ensures.sorted

pub returns-clause-times : goal.returns-clause-times
returns-clause-times c = times-sorted c.args.vectors.now.items c.sort_unstable.new.self.items c.sort_unstable.ensures.permutation
