use Rattle.pil_text.proofs.Computed.{reads}
use Rattle.pil_text.proofs.laws.computed_reads.Goals as goal

pub returns : goal.returns
returns c = record { reads = reads c.runs_are_files.ensures.file c.ranked_have_no_cycle.ensures }
