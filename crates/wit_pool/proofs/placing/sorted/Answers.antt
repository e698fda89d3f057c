use Rattle.std.proofs.Common.{rules}
use Rattle.std.proofs.lemmas.List.Sorted.{IsNonDecreasingBy-from_sort_by_key}
use Rattle.gold.specs.declared.instances.Table.{Table}
use Rattle.wit_pool.proofs.Places.{in_order}
use Rattle.wit_pool.proofs.placing.sorted.Goals as goal

pub returns : goal.returns
returns c = λ image n are.
    in_order c.tables_of_jobs.ensures.all image n c.args.made.items c.sort_unstable_by_key.new.self.items are c.sort_unstable_by_key.ensures.permutation
    (IsNonDecreasingBy-from_sort_by_key (λ (t : Table). t.instance) _ c.sort_unstable_by_key.ensures.sorted (λ a r q k. search rules))
