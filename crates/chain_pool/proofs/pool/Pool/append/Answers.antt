use Rattle.std.proofs.Common.{rules, ◌≡◌, ◌+◌, ◌-◌, take, vec_len, ℕ, Some, None, ap, sym, ◌∙◌, subst}
use Rattle.std.specs.Ordering.{nat_cmp}
use Rattle.std.specs.BTreeMap.{get, is_at, BTreeMap, Updates}
use Rattle.std.proofs.lemmas.Map.Steps.{set_value_same}
use Rattle.chain_pool.specs.declared.chain.Chain.{Chain}
use Rattle.chain_pool.proofs.Growth.{first_chains, first_list, first_others, next_chains, next_list, next_others}
use Rattle.chain_pool.proofs.Grown.{last_low, first_of, next_of, behind, same_view, same_chains, taken}
use Rattle.chain_pool.proofs.pool.Pool.append.Goals as goal

pub link-requires : goal.link-requires
link-requires g c = last_low c.self.inside.nodes.items (get nat_cmp c.self.inside.chains) c.args.key c.in-Some.chain.now c.self.invariant (sym c.in-Some.ensures.value)

pub invariant_of-self-in-Some : goal.invariant_of-self-in-Some
invariant_of-self-in-Some g c =
    let has : get nat_cmp c.self.inside.chains c.args.key ≡ Some c.in-Some.chain.now = sym c.in-Some.ensures.value in
    let made : Chain = record { first = c.in-Some.chain.now.first; last = c.len-at.result; count = c.in-Some.chain.now.count + 1 } in
    let up = (c.get_mut.follows.holds made).3 (rw has (search rules)) in
    next_chains c.self.inside.nodes.items c.link.new.nodes.items (get nat_cmp c.self.inside.chains) (get nat_cmp (c.get_mut.follows.lender made)) c.args.key c.args.value c.in-Some.chain.now c.self.invariant
    (next_of c.self.inside.nodes.items c.link.new.nodes.items c.self.inside.chains (c.get_mut.follows.lender made) c.args.key c.len-at.result c.args.value c.in-Some.chain.now (search rules) c.self.invariant
    c.in_ok-link.ensures.long c.in_ok-link.ensures.next c.in_ok-link.ensures.value c.in_ok-link.ensures.added has up)

pub returns-in-Some-clause-ok : goal.returns-in-Some-clause-ok
returns-in-Some-clause-ok g c =
    let has : get nat_cmp c.self.inside.chains c.args.key ≡ Some c.in-Some.chain.now = sym c.in-Some.ensures.value in
    let made : Chain = record { first = c.in-Some.chain.now.first; last = c.len-at.result; count = c.in-Some.chain.now.count + 1 } in
    let up = (c.get_mut.follows.holds made).3 (rw has (search rules)) in
    let next = next_of c.self.inside.nodes.items c.link.new.nodes.items c.self.inside.chains (c.get_mut.follows.lender made) c.args.key c.len-at.result c.args.value c.in-Some.chain.now (search rules) c.self.invariant
    c.in_ok-link.ensures.long c.in_ok-link.ensures.next c.in_ok-link.ensures.value c.in_ok-link.ensures.added has up in
    behind c.self.inside.nodes.items c.link.new.nodes.items c.self.inside.chains (c.get_mut.follows.lender made) c.args.self.now c.args.key c.args.value c.self.view_is
    (next_list c.self.inside.nodes.items c.link.new.nodes.items (get nat_cmp c.self.inside.chains) (get nat_cmp (c.get_mut.follows.lender made)) c.args.key c.args.value c.in-Some.chain.now c.self.invariant next)
    (next_others c.self.inside.nodes.items c.link.new.nodes.items (get nat_cmp c.self.inside.chains) (get nat_cmp (c.get_mut.follows.lender made)) c.args.key c.args.value c.in-Some.chain.now c.self.invariant next)

pub invariant_of-self : goal.invariant_of-self
invariant_of-self g c =
    let has : get nat_cmp c.self.inside.chains c.args.key ≡ Some c.in-Some.chain.now = sym c.in-Some.ensures.value in
    same_chains c.self.inside.nodes.items c.link.new.nodes.items c.self.inside.chains (c.get_mut.follows.lender c.in-Some.chain.now) c.self.invariant c.in_err-link.ensures.err
    ((c.get_mut.follows.holds c.in-Some.chain.now).0 ∙ set_value_same (is_at (nat_cmp c.args.key)) c.self.inside.chains.entries c.in-Some.chain.now has)

pub returns-in_err-link-clause-err : goal.returns-in_err-link-clause-err
returns-in_err-link-clause-err g c =
    let has : get nat_cmp c.self.inside.chains c.args.key ≡ Some c.in-Some.chain.now = sym c.in-Some.ensures.value in
    let same = same_view c.self.inside.nodes.items c.link.new.nodes.items c.self.inside.chains (c.get_mut.follows.lender c.in-Some.chain.now) c.args.self.now c.self.view_is c.in_err-link.ensures.err
    ((c.get_mut.follows.holds c.in-Some.chain.now).0 ∙ set_value_same (is_at (nat_cmp c.args.key)) c.self.inside.chains.entries c.in-Some.chain.now has) in
    search (rules, same)

pub invariant_of-self-in-Ok : goal.invariant_of-self-in-Ok
invariant_of-self-in-Ok g c =
    let absent : get nat_cmp c.self.inside.chains c.args.key ≡ None = sym c.in_default.ensures.value in
    let made : Chain = record { first = c.len-at.result; last = c.len-at.result; count = 1 } in
    let up = subst (λ (m : BTreeMap ℕ Chain). Updates nat_cmp m c.insert.new.self c.args.key (Some made)) c.get_mut.follows.holds-at-none c.in-Ok.ensures.updates in
    first_chains c.self.inside.nodes.items c.push.new.self.items (get nat_cmp c.self.inside.chains) (get nat_cmp c.insert.new.self) c.args.key c.args.value c.self.invariant
    (first_of c.self.inside.nodes.items c.push.new.self.items c.self.inside.chains c.insert.new.self c.args.key c.len-at.result c.args.value c.len-at.result (search rules) c.in_ok-push.ensures.items absent up)

pub returns-in-Ok-clause-ok : goal.returns-in-Ok-clause-ok
returns-in-Ok-clause-ok g c =
    let absent : get nat_cmp c.self.inside.chains c.args.key ≡ None = sym c.in_default.ensures.value in
    let made : Chain = record { first = c.len-at.result; last = c.len-at.result; count = 1 } in
    let up = subst (λ (m : BTreeMap ℕ Chain). Updates nat_cmp m c.insert.new.self c.args.key (Some made)) c.get_mut.follows.holds-at-none c.in-Ok.ensures.updates in
    let first = first_of c.self.inside.nodes.items c.push.new.self.items c.self.inside.chains c.insert.new.self c.args.key c.len-at.result c.args.value c.len-at.result (search rules) c.in_ok-push.ensures.items absent up in
    behind c.self.inside.nodes.items c.push.new.self.items c.self.inside.chains c.insert.new.self c.args.self.now c.args.key c.args.value c.self.view_is
    (first_list c.self.inside.nodes.items c.push.new.self.items (get nat_cmp c.self.inside.chains) (get nat_cmp c.insert.new.self) c.args.key c.args.value c.self.invariant first)
    (first_others c.self.inside.nodes.items c.push.new.self.items (get nat_cmp c.self.inside.chains) (get nat_cmp c.insert.new.self) c.args.key c.args.value c.self.invariant first)

pub invariant_of-self-in-Err : goal.invariant_of-self-in-Err
invariant_of-self-in-Err g c =
    same_chains c.self.inside.nodes.items c.pop.new.self.items c.self.inside.chains c.insert.new.self c.self.invariant
    (c.pop.ensures.rest ∙ ap (take (vec_len c.push.new.self - 1)) c.in_ok-push.ensures.items ∙ taken c.self.inside.nodes.items (vec_len c.push.new.self) _ (search rules))
    (c.in-Err.ensures.err ∙ ap (λ (m : BTreeMap ℕ Chain). m.entries) c.get_mut.follows.holds-at-none)
