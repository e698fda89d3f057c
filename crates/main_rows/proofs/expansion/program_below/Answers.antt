use Rattle.std.proofs.Common.{subst}
use Rattle.std.specs.Prelude.{All}
use Rattle.rv_model.specs.Image.{Img, IsSegment}
use Rattle.main_rows.proofs.Program.{fetched_below}
use Rattle.main_rows.proofs.expansion.program_below.Goals as goal

pub returns : goal.returns
returns c = λ pc h. fetched_below c.args.image.now pc (subst (λ (i : Img). All IsSegment i.segments) c.image.view_is c.image.invariant.loadable.segments) h
