use Rattle.std.proofs.Common.{rules, refl}
use Rattle.chain_pool.specs.declared.chain.Node.{Node}
use Rattle.chain_pool.proofs.Chains.{link_next, link_value, link_added}
use Rattle.chain_pool.proofs.chain.link.Goals as goal

pub returns-clause-next : goal.returns-clause-next
returns-clause-next g c =
    let x : Node g.row.T.Denot = record { value = c.args.value; next = c.len-at.result } in
    let y : Node g.row.T.Denot = record { value = c.index_mut.result.now.value; next = c.len-at.result } in
    link_next c.args.nodes.now.items c.push.new.self.items c.args.last x y c.index_mut.result.now (record { pushed = c.in_ok-push.ensures.items; low = c.requires; was = c.index_mut.ensures.value; same = refl; leads = search rules })

pub returns-clause-value : goal.returns-clause-value
returns-clause-value g c =
    let x : Node g.row.T.Denot = record { value = c.args.value; next = c.len-at.result } in
    let y : Node g.row.T.Denot = record { value = c.index_mut.result.now.value; next = c.len-at.result } in
    link_value c.args.nodes.now.items c.push.new.self.items c.args.last x y c.index_mut.result.now (record { pushed = c.in_ok-push.ensures.items; low = c.requires; was = c.index_mut.ensures.value; same = refl; leads = search rules })

pub returns-clause-added : goal.returns-clause-added
returns-clause-added g c =
    let x : Node g.row.T.Denot = record { value = c.args.value; next = c.len-at.result } in
    let y : Node g.row.T.Denot = record { value = c.index_mut.result.now.value; next = c.len-at.result } in
    link_added c.args.nodes.now.items c.push.new.self.items c.args.last x y c.index_mut.result.now (record { pushed = c.in_ok-push.ensures.items; low = c.requires; was = c.index_mut.ensures.value; same = refl; leads = search rules })
