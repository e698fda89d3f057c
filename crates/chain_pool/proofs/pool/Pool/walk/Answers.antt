use Rattle.std.proofs.Common.{List, ℕ, ap, sym, ◌∙◌}
use Rattle.chain_pool.specs.declared.chain.Node.{Node}
use Rattle.chain_pool.specs.Chain.{values}
use Rattle.chain_pool.specs.Lists.{list_of}
use Rattle.chain_pool.proofs.Chains.{listed, list_of-lists}
use Rattle.chain_pool.proofs.pool.Pool.walk.Goals as goal

pub returns-in-Some : goal.returns-in-Some
returns-in-Some g c =
    let same = list_of-lists c.self.inside.nodes.items c.self.inside.chains.entries c.args.key in
    c.new.ensures ∙ ap (λ (ns : List (Node g.row.T.Denot)). values ns c.in-Some.chain.now.first c.in-Some.chain.now.count) c.deref.ensures.value
    ∙ ap (listed c.self.inside.nodes.items) c.in-Some.ensures.value ∙ sym same ∙ ap (λ (l : List (ℕ × List g.row.T.Denot)). list_of l c.args.key) c.self.view_is

pub returns-in-None : goal.returns-in-None
returns-in-None g c =
    let same = list_of-lists c.self.inside.nodes.items c.self.inside.chains.entries c.args.key in
    c.new-in-None.ensures ∙ ap (listed c.self.inside.nodes.items) c.in-None.ensures.value ∙ sym same ∙ ap (λ (l : List (ℕ × List g.row.T.Denot)). list_of l c.args.key) c.self.view_is
