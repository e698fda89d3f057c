use Rattle.demo_program.proofs.Octets.{demo_octets}
use Rattle.demo_program.proofs.Parts.{instructions_words}
use Rattle.demo_program.proofs.laws.demo_words.Goals as goal

pub returns-clause-words : goal.returns-clause-words
returns-clause-words c = instructions_words

pub returns-clause-bytes : goal.returns-clause-bytes
returns-clause-bytes c = demo_octets
