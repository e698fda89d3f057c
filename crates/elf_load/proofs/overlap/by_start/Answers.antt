use Rattle.std.proofs.Common.{rules}
use Rattle.std.proofs.lemmas.List.Sorted.{IsNonDecreasingBy-from_sort_by_key}
use Rattle.elf_load.proofs.Meeting.{has_sorted}
use Rattle.elf_load.proofs.overlap.by_start.Goals as goal

pub returns-clause-all : goal.returns-clause-all
returns-clause-all c = has_sorted _ _ _ _ c.sort_unstable_by_key.ensures.permutation c.in_ok-sorted.ensures

pub returns-clause-up : goal.returns-clause-up
returns-clause-up c = IsNonDecreasingBy-from_sort_by_key (λ e. e.start) _ c.sort_unstable_by_key.ensures.sorted (λ a r q k. search rules)
