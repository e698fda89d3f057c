use Rattle.std.proofs.Common.{ℕ, ◌≡◌, ◌<◌, map, slice_get}
use Rattle.pil_ast.specs.Tree.{term}
use Rattle.pil_checker.proofs.sameness.same_columns.Given as goal

abbrev pub invariant-loop-place : goal.invariant-loop-place
invariant-loop-place l = (k : ℕ) → k < l.place → slice_get (map term l.a) k ≡ slice_get (map term l.b) k
