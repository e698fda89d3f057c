use Rattle.std.proofs.Common.{ℕ, ◌≡◌, ◌<◌, map, slice_get}
use Rattle.pil_program.specs.Blocks.{at_lane}
use Rattle.instance_pass.proofs.scans.is_tuple.Given as goal

abbrev pub invariant-loop-place : goal.invariant-loop-place
invariant-loop-place l = (k : ℕ) → k < l.place → slice_get l.tuple k ≡ slice_get (map (at_lane l.blocks l.lane) l.terms) k
