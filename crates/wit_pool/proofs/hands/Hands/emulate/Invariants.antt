use Rattle.std.proofs.Common.{◌≡◌, ◌-◌, ◌*◌, ◌≤◌}
use Rattle.min_trace.specs.Chunk.{first_step}
use Rattle.job_queue.specs.Calls.{image_of}
use Rattle.wit_pool.specs.Progress.{IsAt}
use Rattle.wit_pool.specs.Serving.{IsServing, shares_of}
use Rattle.wit_pool.specs.Led.{handed_to}
use Rattle.wit_pool.proofs.hands.Hands.emulate.Given as goal

abbrev pub invariant-loop-chunk : goal.invariant-loop-chunk
invariant-loop-chunk g l = record {
  same : l.emu.image ≡ image_of l.queue;
  most : l.emu.limit ≡ l.fn.run.emu.limit;
  within : first_step l.emu.number ≤ l.emu.limit;
  progress : IsAt (image_of l.queue) (first_step l.emu.number) l.progress;
  serving : IsServing l.queue (shares_of l.fn.self) (handed_to (image_of l.queue) (first_step l.emu.number)) l.hands;
}

abbrev pub decreases-loop-chunk : goal.decreases-loop-chunk
decreases-loop-chunk g l = l.emu.limit - 1024 * l.emu.number
