use Rattle.std.proofs.Common.{◌≡◌, ◌<◌, ◌^◌, ap, arith}
use Rattle.gold.specs.declared.shapes.Profile.{Profile}
use Rattle.gold.specs.declared.shapes.Profile.TheVariants.{Small, Wide}
use Rattle.zk_layout.specs.Air.{rows_per, rows_in}
use Rattle.zk_layout.specs.declared.air.Air.TheVariants as airs
use Rattle.fixed_cols.proofs.values.FixedValues.at.Goals as goal

few_rows : (profile : Profile) → rows_in profile airs.Main < 2 ^ 16
unfolding rows_per
few_rows Small = omega arith
few_rows Wide = omega arith

pub of_main-requires : goal.of_main-requires
of_main-requires c =
    let rows = ap (λ p. p.rows) c.place.ensures in
    let few = few_rows c.args.self.now.sizes.profile in
    omega arith
