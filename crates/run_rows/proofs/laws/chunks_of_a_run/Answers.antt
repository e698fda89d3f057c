use Rattle.run_rows.proofs.Later.{chunk_is, chunks_pushed, counts_pushed, chunk_later, counts_more}
use Rattle.run_rows.proofs.laws.chunks_of_a_run.Goals as goal

pub returns-clause-chunk : goal.returns-clause-chunk
returns-clause-chunk c = chunk_is

pub returns-clause-chunks : goal.returns-clause-chunks
returns-clause-chunks c = chunks_pushed

pub returns-clause-counts : goal.returns-clause-counts
returns-clause-counts c = counts_pushed

pub returns-clause-stays : goal.returns-clause-stays
returns-clause-stays c = chunk_later

pub returns-clause-more : goal.returns-clause-more
returns-clause-more c = counts_more
