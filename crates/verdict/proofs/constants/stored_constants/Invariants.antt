use Rattle.std.proofs.Common.{◌≡◌, ◌<◌, ◌^◌, ℕ, List, map, All, length}
use Rattle.std.specs.List.{range_with_len}
use Rattle.gold.specs.Field.{AreCanonical}
use Rattle.verdict.specs.Frames.{instances_at}
use Rattle.verdict.proofs.constants.stored_constants.Given as goal

abbrev pub invariant-loop-space : goal.invariant-loop-space
invariant-loop-space l = (l.spaces ≡ map (instances_at l.fixed l.profile) (range_with_len 0 l.space)) × All (λ (x : List (List (List ℕ))). length x < 2 ^ 32) l.spaces × All (All AreCanonical) l.spaces
