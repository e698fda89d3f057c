use Rattle.air_align.proofs.Aligns.{align_sound, align_exact}
use Rattle.air_align.proofs.Complete.{align_padding}
use Rattle.air_align.proofs.Tuple.{align_complete}
use Rattle.air_align.proofs.Whole.{align_sent, align_filled}
use Rattle.air_align.proofs.laws.align_laws.Goals as goal

pub returns-clause-sound : goal.returns-clause-sound
returns-clause-sound c = align_sound

pub returns-clause-exact : goal.returns-clause-exact
returns-clause-exact c = align_exact

pub returns-clause-complete : goal.returns-clause-complete
returns-clause-complete c = align_complete

pub returns-clause-padding : goal.returns-clause-padding
returns-clause-padding c = align_padding

pub returns-clause-tuples : goal.returns-clause-tuples
returns-clause-tuples c = align_sent

pub returns-clause-filled : goal.returns-clause-filled
returns-clause-filled c = align_filled
