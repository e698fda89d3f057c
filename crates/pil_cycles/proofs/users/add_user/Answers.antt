use Rattle.std.proofs.Common.{◌≡◌, ◌+◌, [], ◌∷◌, ◌++◌, take, length, get_or, set, sym, subst, ap, ◌∙◌, ◌<◌, arith}
use Rattle.std.proofs.lemmas.List.{take_more}
use Rattle.pil_cycles.specs.Users.{AddsUser}
use Rattle.pil_cycles.proofs.Added.{adds_more}
use Rattle.pil_cycles.proofs.users.add_user.Goals as goal

pub loop-name-preserved : goal.loop-name-preserved
loop-name-preserved c =
    let i = c.loop-name.name-index in
    let item = get_or c.args.names.now i 0 in
    let longer : take (i + 1) c.args.names.now ≡ take i c.args.names.now ++ item ∷ [] = take_more c.args.names.now i 0 c.loop-name-test.true in
    let inside : item < length c.args.users.now = c.requires i 0 c.loop-name-test.true in
    subst (λ s. AddsUser s c.args.user c.args.users.now (set c.loop-name.users item c.push.new.self)) (sym longer)
    (adds_more (take i c.args.names.now) c.args.user c.args.users.now c.loop-name.users item c.index-users-name.result c.push.new.self c.loop-name.invariant (omega (arith, c.loop-name.invariant.long)) c.index-users-name.is (c.in_ok-push.ensures.ok ∙ ap (λ l. l ++ c.args.user ∷ []) (sym c.index-users-name.is)))
