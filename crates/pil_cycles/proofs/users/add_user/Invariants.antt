use Rattle.std.proofs.Common.{take}
use Rattle.pil_cycles.specs.Users.{AddsUser}
use Rattle.pil_cycles.proofs.users.add_user.Given as goal

abbrev pub invariant-loop-name : goal.invariant-loop-name
invariant-loop-name l = AddsUser (take l.name-index l.names) l.user l.fn.users l.users
