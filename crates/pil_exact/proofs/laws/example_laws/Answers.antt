use Rattle.pil_exact.proofs.Example.{tally_law, tally_exact, tally_complete, tally_padding}
use Rattle.pil_exact.proofs.laws.example_laws.Goals as goal

pub returns-clause-sound : goal.returns-clause-sound
returns-clause-sound c = tally_law

pub returns-clause-exact : goal.returns-clause-exact
returns-clause-exact c = tally_exact

pub returns-clause-complete : goal.returns-clause-complete
returns-clause-complete c = tally_complete

pub returns-clause-padding : goal.returns-clause-padding
returns-clause-padding c = tally_padding
