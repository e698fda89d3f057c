use Rattle.std.proofs.Common.{◌∙◌, sym, ap, subst}
use Rattle.pil_ast.specs.Sound.{IsSound}
use Rattle.bus_check.specs.Small.{small_text}
use Rattle.bus_check.proofs.Readable.{sound-is}
use Rattle.bus_check.proofs.tests.difference_of_one.Goals as goal

pub new-requires : goal.new-requires
new-requires c = subst IsSound (sym (c.in_ok-pil.ensures ∙ ap small_text c.in_ok-item.ensures)) sound-is

pub add-requires-clause-sound : goal.add-requires-clause-sound
add-requires-clause-sound c = subst IsSound (sym (c.in_ok-pil.ensures ∙ ap small_text c.in_ok-item.ensures)) sound-is
