use Rattle.chain_pool.proofs.Grown.{cleared}
use Rattle.chain_pool.proofs.pool.Pool.clear.Goals as goal

pub returns : goal.returns
returns g c = cleared c.self.inside.nodes.items c.self.inside.chains c.remove.new.self c.args.self.now c.args.key c.self.view_is c.remove.ensures.updates
