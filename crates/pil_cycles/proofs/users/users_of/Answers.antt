use Rattle.std.proofs.Common.{◌≡◌, ◌+◌, map, length, sym, subst, ap, ◌∙◌, arith, replicate, []}
use Rattle.std.proofs.lemmas.List.{length-map}
use Rattle.pil_ast.specs.Tree.{line}
use Rattle.pil_cycles.proofs.Added.{AreUsersBelow, users_begin, users_more, users_end, named_within}
use Rattle.pil_cycles.proofs.Lists.{written_back}
use Rattle.pil_cycles.proofs.users.users_of.Goals as goal

pub loop-item-init : goal.loop-item-init
loop-item-init c = users_begin (map line c.args.items.now) c.in_ok-users.users.items (c.in_ok-users.ensures ∙ ap (λ n. replicate n []) (sym (length-map c.args.items.now line)))

pub add_user-requires : goal.add_user-requires
add_user-requires c =
    named_within (map line c.args.items.now) c.loop-item.item (length c.deref_mut.result.now) c.as_slice.result.now (c.as_slice.ensures ∙ c.in_ok-names.ensures) c.requires.inside (sym c.loop-item.invariant.long ∙ ap length (sym c.deref_mut.ensures.value))

pub loop-item-preserved : goal.loop-item-preserved
loop-item-preserved c =
    let same : length c.add_user.new.users ≡ length c.loop-item.users.items = c.in_ok-add_user.ensures.long ∙ ap length c.deref_mut.ensures.value in
    subst (λ s. AreUsersBelow (map line c.args.items.now) (c.loop-item.item + 1) s) (sym (written_back c.loop-item.users.len c.loop-item.users.items c.add_user.new.users c.loop-item.users.ok.0 same))
    (users_more (map line c.args.items.now) c.loop-item.item c.as_slice.result.now c.deref_mut.result.now c.add_user.new.users (subst (λ s. AreUsersBelow (map line c.args.items.now) c.loop-item.item s) (sym c.deref_mut.ensures.value) c.loop-item.invariant) (c.as_slice.ensures ∙ c.in_ok-names.ensures) c.in_ok-add_user.ensures)

pub returns : goal.returns
returns c = users_end (map line c.args.items.now) c.loop-item.item c.loop-item.users.items c.loop-item.invariant (omega (arith, length-map c.args.items.now line))
