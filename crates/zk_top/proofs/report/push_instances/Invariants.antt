use Rattle.std.proofs.Common.{◌≡◌, ◌==◌, ◌++◌, codes, decimal}
use Rattle.std.specs.List.{count_by, flat_map, range_with_len}
use Rattle.zk_top.proofs.report.push_instances.Given as goal

abbrev pub invariant-loop-air : goal.invariant-loop-air
invariant-loop-air l = l.text.items ≡ l.initial.text.items ++ flat_map (λ air. codes " " ++ decimal (count_by (λ t. t.air == air) l.witness.tables)) (range_with_len 0 l.air)
