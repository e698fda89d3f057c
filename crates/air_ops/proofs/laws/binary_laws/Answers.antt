use Rattle.air_ops.proofs.BinarySound.{binary_sound}
use Rattle.air_ops.proofs.BinaryExact.{binary_exact}
use Rattle.air_ops.proofs.BinaryComplete.{binary_complete, binary_padding}
use Rattle.air_ops.proofs.BinaryWhole.{binary_tuples, binary_filled}
use Rattle.air_ops.proofs.laws.binary_laws.Goals as goal

pub returns-clause-sound : goal.returns-clause-sound
returns-clause-sound c = binary_sound

pub returns-clause-exact : goal.returns-clause-exact
returns-clause-exact c = binary_exact

pub returns-clause-complete : goal.returns-clause-complete
returns-clause-complete c = binary_complete

pub returns-clause-padding : goal.returns-clause-padding
returns-clause-padding c = binary_padding

pub returns-clause-tuples : goal.returns-clause-tuples
returns-clause-tuples c = binary_tuples

pub returns-clause-filled : goal.returns-clause-filled
returns-clause-filled c = binary_filled
