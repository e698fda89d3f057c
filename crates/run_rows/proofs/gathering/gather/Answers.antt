use Rattle.std.proofs.Common.{◌∙◌, ap, sym, length}
use Rattle.std.specs.Arc.{arc_value}
use Rattle.std.proofs.lemmas.List.{length-map}
use Rattle.min_trace.specs.Chunk.{Piece}
use Rattle.planner.specs.declared.job.Part.{Part}
use Rattle.std.specs.declared.sync.Arc.{Arc}
use Rattle.std.specs.declared.alloc.Global.{Global}
use Rattle.run_rows.proofs.Runs.{gathered, job_long}
use Rattle.run_rows.proofs.gathering.gather.Goals as goal

pub take_parts-requires-clause-same : goal.take_parts-requires-clause-same
take_parts-requires-clause-same g c =
    sym (length-map c.args.chunks.now (λ (x : Arc Piece Global). arc_value x)) ∙ job_long _ _ _ _ c.requires.1 ∙ ap (length {A = Part}) (sym c.as_slice.ensures)

pub take_parts-requires-clause-chunks : goal.take_parts-requires-clause-chunks
take_parts-requires-clause-chunks g c = c.requires.1.each

pub returns : goal.returns
returns g c n is =
    gathered g.T.FromStep.taken c.rows_are_counted.ensures c.rows_of_a_job.ensures c.args.image.now n c.args.job.now _ _ _ _ is c.as_slice.ensures c.in_ok-found.ensures.items c.in_ok-take_parts.ensures
