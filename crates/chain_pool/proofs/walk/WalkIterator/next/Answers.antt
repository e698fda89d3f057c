use Rattle.std.proofs.Common.{sym, ◌∙◌, arith}
use Rattle.std.proofs.lemmas.Grind.{common_steps}
use Rattle.chain_pool.proofs.Chains.{walk_on, walk_left, shorter}
use Rattle.chain_pool.proofs.walk.WalkIterator.next.Goals as goal

pub invariant_of-self : goal.invariant_of-self
invariant_of-self g c = walk_left c.self.inside.nodes.now c.self.inside.at c.self.inside.left c.index-self-self.result c.if-self-eq0.false c.self.invariant

pub returns-clause-steps : goal.returns-clause-steps
returns-clause-steps g c = sym c.self.view_is ∙ walk_on c.self.inside.nodes.now c.self.inside.at c.self.inside.left c.index-self-self.result c.if-self-eq0.false c.self.invariant

pub returns-clause-goes : goal.returns-clause-goes
returns-clause-goes g c =
    let left = sym c.self.view_is ∙ walk_on c.self.inside.nodes.now c.self.inside.at c.self.inside.left c.index-self-self.result c.if-self-eq0.false c.self.invariant in
    let less = shorter _ _ _ left in grind (arith, common_steps)
