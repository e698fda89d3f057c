use Rattle.run_tables.proofs.Found.{parts_inside, named_later}
use Rattle.run_tables.proofs.naming.named.Goals as goal

pub chunks_at-requires : goal.chunks_at-requires
chunks_at-requires c = parts_inside c.parts_of_a_job.ensures c.requires.0 c.requires.1 c.args.job.now c.args.chunks.now _ c.as_slice.ensures c.requires.2

pub returns : goal.returns
returns c = λ image n m plan later.
    named_later c.parts_of_a_job.ensures c.chunks_of_a_run.ensures.stays image n m c.args.job.now c.args.chunks.now c.in_ok-found.found.items _ c.as_slice.ensures c.in_ok-found.ensures plan later
