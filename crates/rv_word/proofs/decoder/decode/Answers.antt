use Rattle.std.proofs.lemmas.Option.{IfSome_then}
use Rattle.rv_word.proofs.Decoding.{found, only}
use Rattle.rv_word.proofs.Ranges.{in_range}
use Rattle.rv_word.proofs.decoder.decode.Goals as goal

pub returns-clause-found : goal.returns-clause-found
returns-clause-found c = rw c.instruction.ensures (found c.args.word)

pub returns-clause-range : goal.returns-clause-range
returns-clause-range c = rw c.instruction.ensures (IfSome_then _ (found c.args.word) (in_range c.args.word))

pub returns-clause-only : goal.returns-clause-only
returns-clause-only c = λ i h. rw c.instruction.ensures (only c.args.word i h)
