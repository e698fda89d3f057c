use Rattle.air_ops.proofs.ShiftLaws.{shift_sound, shift_exact}
use Rattle.air_ops.proofs.ShiftTuple.{shift_complete}
use Rattle.air_ops.proofs.ShiftFilled.{shift_padding}
use Rattle.air_ops.proofs.ShiftWhole.{shift_tuples, shift_filled}
use Rattle.air_ops.proofs.laws.shift_laws.Goals as goal

pub returns-clause-sound : goal.returns-clause-sound
returns-clause-sound c = shift_sound

pub returns-clause-exact : goal.returns-clause-exact
returns-clause-exact c = shift_exact

pub returns-clause-complete : goal.returns-clause-complete
returns-clause-complete c = shift_complete

pub returns-clause-padding : goal.returns-clause-padding
returns-clause-padding c = shift_padding

pub returns-clause-tuples : goal.returns-clause-tuples
returns-clause-tuples c = shift_tuples

pub returns-clause-filled : goal.returns-clause-filled
returns-clause-filled c = shift_filled
