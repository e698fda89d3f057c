use Rattle.std.proofs.Common.{map, length, sym, subst}
use Rattle.std.proofs.lemmas.List.{length-map}
use Rattle.pil_ast.specs.Tree.{line}
use Rattle.pil_cycles.specs.Cycles.{TellCycles}
use Rattle.pil_cycles.specs.Users.{AreUsers, Uses}
use Rattle.pil_cycles.specs.Finish.{IsFinished}
use Rattle.pil_cycles.specs.Verdicts.{AreVerdicts}
use Rattle.pil_cycles.proofs.Least.{users_inside, finished_users, told}
use Rattle.pil_cycles.proofs.cycles.on_cycles.Goals as goal

pub judge-requires-clause-users : goal.judge-requires-clause-users
judge-requires-clause-users c =
    users_inside (map line c.args.items.now) c.deref.result.now (subst (λ u. AreUsers (map line c.args.items.now) u) (sym c.deref.ensures.value) c.in_ok-users.ensures)

pub judge-requires-clause-order : goal.judge-requires-clause-order
judge-requires-clause-order c =
    subst (λ o. IsFinished (Uses c.deref.result.now) (length c.deref.result.now) o) (sym c.as_slice.ensures)
    (finished_users (map line c.args.items.now) c.deref.result.now c.in_ok-order.order (length c.args.items.now) (subst (λ u. AreUsers (map line c.args.items.now) u) (sym c.deref.ensures.value) c.in_ok-users.ensures) (sym (length-map c.args.items.now line)) c.in_ok-order.ensures)

pub returns : goal.returns
returns c =
    subst (λ flags. TellCycles (map line c.args.items.now) flags) (sym c.in_ok-flags.ensures)
    (told (map line c.args.items.now) c.deref.result.now c.deref-2.result.now (subst (λ u. AreUsers (map line c.args.items.now) u) (sym c.deref.ensures.value) c.in_ok-users.ensures)
    (subst (λ v. AreVerdicts (Uses c.deref.result.now) (length c.deref.result.now) v) (sym c.deref-2.ensures.value) c.in_ok-verdicts.ensures))
