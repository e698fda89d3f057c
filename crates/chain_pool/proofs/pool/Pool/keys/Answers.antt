use Rattle.chain_pool.proofs.Keys.{ascending, exact}
use Rattle.chain_pool.proofs.pool.Pool.keys.Goals as goal

pub returns-clause-ascending : goal.returns-clause-ascending
returns-clause-ascending g c = ascending c.self.inside.chains _ c.in_ok-found.ensures.all c.keys_of.ensures.ordered

pub returns-clause-exact : goal.returns-clause-exact
returns-clause-exact g c = exact c.self.inside.nodes.items c.self.inside.chains c.args.self.now _ c.in_ok-found.ensures.all c.self.invariant c.self.view_is
