use Rattle.std.proofs.Common.{◌≡◌, ℕ, map, take, length}
use Rattle.std.specs.List.{range_with_len}
use Rattle.min_trace.specs.Chunk.{Piece}
use Rattle.planner.specs.declared.job.Part.{Part}
use Rattle.run_rows.specs.Runs.{values_of}
use Rattle.run_tables.proofs.naming.chunks_at.Given as goal

abbrev pub invariant-loop-part : goal.invariant-loop-part
invariant-loop-part l = (f : ℕ → Piece) → values_of l.chunks ≡ map f (range_with_len 0 (length l.chunks)) → values_of l.found.items ≡ map (λ (p : Part). f p.chunk) (take l.part-index l.parts)
