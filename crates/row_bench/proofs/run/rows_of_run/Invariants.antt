use Rattle.std.proofs.Common.{◌≡◌, ◌-◌, ◌*◌}
use Rattle.std.specs.Arc.{arc_value}
use Rattle.min_trace.specs.Chunk.{first_step}
use Rattle.row_bench.specs.Progress.{IsAt}
use Rattle.row_bench.proofs.run.rows_of_run.Given as goal

abbrev pub invariant-loop-chunk : goal.invariant-loop-chunk
invariant-loop-chunk l = record {
  image : l.emu.image ≡ arc_value l.image;
  limit : l.emu.limit ≡ l.limit;
  progress : IsAt (arc_value l.image) (first_step l.emu.number) l.progress;
}

abbrev pub decreases-loop-chunk : goal.decreases-loop-chunk
decreases-loop-chunk l = l.limit - 1024 * l.emu.number
