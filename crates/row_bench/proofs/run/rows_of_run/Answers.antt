use Rattle.std.proofs.Common.{ap, subst, ◌∙◌}
use Rattle.rv_model.specs.Image.{Img}
use Rattle.rv_emu.specs.Answered.{Place}
use Rattle.min_trace.specs.Chunk.{first_step}
use Rattle.row_bench.specs.Progress.{IsAt}
use Rattle.row_bench.proofs.Adding.{stepped}
use Rattle.row_bench.proofs.run.rows_of_run.Goals as goal
use Rattle.std.proofs.Common.{◌+◌}

pub loop-chunk-preserved : goal.loop-chunk-preserved
loop-chunk-preserved c =
    let answered = rw c.in-Ok-Chunk.field-0-is at c.in-Ok-Chunk.ensures.answered in
    let P : Img → Type 0 = λ i. IsAt i (first_step c.in-Ok-Chunk.chunk.number + c.in-Ok-Chunk.chunk.steps) c.add.new.self in
    record {
      image = ap (λ (p : Place). p.image) answered.1 ∙ c.loop-chunk.invariant.image;
      limit = ap (λ (p : Place). p.limit) answered.1 ∙ c.loop-chunk.invariant.limit;
      progress = stepped _ c.loop-chunk.emu c.next_chunk.new.self c.in-Ok-Chunk.chunk c.add.new.self answered.0 answered.1 (subst P c.deref.ensures c.in-Ok-add.ensures);
    }
