use Rattle.std.proofs.Common.{◌≡◌, take}
use Rattle.std.specs.List.{flat_map}
use Rattle.chain_pool.specs.Lists.{list_of}
use Rattle.mem_rows.proofs.accesses.Accesses.ordered.Given as goal

abbrev pub invariant-loop-key : goal.invariant-loop-key
invariant-loop-key l = l.all.items ≡ flat_map (list_of l.self-inside.pool) (take l.key-index l.key-items)
