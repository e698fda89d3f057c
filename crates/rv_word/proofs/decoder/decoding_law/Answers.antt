use Rattle.rv_word.proofs.Decoding.{found, only}
use Rattle.rv_word.proofs.Ranges.{in_range}
use Rattle.rv_word.proofs.decoder.decoding_law.Goals as goal

pub returns-clause-found : goal.returns-clause-found
returns-clause-found c = found

pub returns-clause-only : goal.returns-clause-only
returns-clause-only c = only

pub returns-clause-range : goal.returns-clause-range
returns-clause-range c = in_range
