use Rattle.std.proofs.Common.{subst}
use Rattle.rv_model.specs.Image.{IsLoadable}
use Rattle.zk_top.proofs.witnessing.can_run.Goals as goal

pub returns : goal.returns
returns c = subst IsLoadable c.image.view_is c.image.invariant.loadable
