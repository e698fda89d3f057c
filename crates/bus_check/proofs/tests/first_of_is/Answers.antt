use Rattle.std.proofs.Common.{◌∙◌, sym, ap, subst}
use Rattle.pil_ast.specs.Sound.{IsSound}
use Rattle.bus_check.specs.Small.{small_text}
use Rattle.bus_check.proofs.Readable.{sound-is}
use Rattle.bus_check.proofs.tests.first_of_is.Goals as goal

pub first_broken-requires-clause-sound : goal.first_broken-requires-clause-sound
first_broken-requires-clause-sound c = subst IsSound (sym (c.in_ok-pil.ensures ∙ ap small_text c.in_ok-item.ensures)) sound-is
