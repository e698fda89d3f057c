use Rattle.std.proofs.Common.{◌≡◌, ◌<◌, ◌^◌, sym, subst, ◌∙◌, arith}
use Rattle.std.specs.Arc.{arc_value}
use Rattle.gold.specs.declared.instances.Witness.{Witness}
use Rattle.gold.specs.declared.shapes.Form.TheVariants.{Two}
use Rattle.gold.specs.Shapes.{HaveShape}
use Rattle.zk_layout.specs.Air.{machine_shape_of}
use Rattle.rv_model.specs.Image.{Img, IsLoadable}
use Rattle.zk_top.specs.Parts.{IsHalted}
use Rattle.zk_top.proofs.Making.{halted_runs}
use Rattle.zk_top.proofs.demo.checked_run.Goals as goal

pub check_accepted-requires-clause-formed : goal.check_accepted-requires-clause-formed
check_accepted-requires-clause-formed c =
    let image : Img = c.args.image in
    let made = c.in_ok-made.made in
    let loadable : IsLoadable image = c.can_run.ensures in
    let same : arc_value c.in_ok-shared.shared ≡ image = c.in_ok-shared.ensures.cases ∙ c.in-Ok.ensures.ok in
    let halted : IsHalted image made = subst (λ (i : Img). IsHalted i made) same c.in_ok-made.ensures in
    let runs = halted_runs image 4294967295 made.steps made.public (c.run_law.ensures image 4294967295) halted.0 in
    let few : made.steps < 2 ^ 32 = omega (arith, runs.0) in
    subst (λ (w : Witness). HaveShape (machine_shape_of Two) w) (sym halted.1) (c.completeness.ensures.accepted image made.steps made.public loadable few runs.1).0
