use Rattle.std.proofs.Common.{◌≡◌, ◌<◌, ◌^◌, sym, subst, arith}
use Rattle.gold.specs.declared.instances.Witness.{Witness}
use Rattle.gold.specs.declared.shapes.Form.TheVariants.{Two}
use Rattle.gold.specs.Shapes.{HaveShape}
use Rattle.zk_layout.specs.Air.{machine_shape_of}
use Rattle.rv_model.specs.Image.{Img, IsLoadable}
use Rattle.rv_model.specs.Run.{Halted, end_within}
use Rattle.run_tables.specs.Sequential.{sequential_witness}
use Rattle.zk_top.proofs.Making.{halted_runs, made_so}
use Rattle.zk_top.proofs.witnessing.tables_alone.Goals as goal

pub returns-in-Ok-sequential-clause-made : goal.returns-in-Ok-sequential-clause-made
returns-in-Ok-sequential-clause-made c =
    let made = c.in-Ok-sequential.made in
    let ends : end_within c.args.image c.args.steps ≡ Halted made.steps made.public = subst (λ (i : Img). end_within i c.args.steps ≡ Halted made.steps made.public) c.in-Ok.ensures.ok c.in-Ok-sequential.ensures.0 in
    let is : made.witness ≡ sequential_witness c.args.image made.steps made.public = subst (λ (i : Img). made.witness ≡ sequential_witness i made.steps made.public) c.in-Ok.ensures.ok c.in-Ok-sequential.ensures.1 in
    made_so c.args.image c.args.steps made ends is

pub returns-in-Ok-sequential-clause-shaped : goal.returns-in-Ok-sequential-clause-shaped
returns-in-Ok-sequential-clause-shaped c =
    let made = c.in-Ok-sequential.made in
    let image = c.args.image in
    let loadable : IsLoadable image = c.can_run.ensures in
    let ends : end_within image c.args.steps ≡ Halted made.steps made.public = subst (λ (i : Img). end_within i c.args.steps ≡ Halted made.steps made.public) c.in-Ok.ensures.ok c.in-Ok-sequential.ensures.0 in
    let is : made.witness ≡ sequential_witness image made.steps made.public = subst (λ (i : Img). made.witness ≡ sequential_witness i made.steps made.public) c.in-Ok.ensures.ok c.in-Ok-sequential.ensures.1 in
    let runs = halted_runs image c.args.steps made.steps made.public (c.run_law.ensures image c.args.steps) ends in
    let few : made.steps < 2 ^ 32 = omega (arith, runs.0, c.ranges.steps.fits) in
    subst (λ (w : Witness). HaveShape (machine_shape_of Two) w) (sym is) (c.completeness.ensures.accepted image made.steps made.public loadable few runs.1).0
