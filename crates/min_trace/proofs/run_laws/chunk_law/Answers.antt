use Rattle.min_trace.proofs.Pieces.{one_chunk, piece}
use Rattle.min_trace.proofs.run_laws.chunk_law.Goals as goal

pub returns-clause-one : goal.returns-clause-one
returns-clause-one c = one_chunk

pub returns-clause-piece : goal.returns-clause-piece
returns-clause-piece c = piece
