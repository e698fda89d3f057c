use Rattle.std.proofs.Common.{[], ◌∷◌, ◌++◌}
use Rattle.tab_file.specs.declared.fault.TabKind.TheVariants.{BadMagic, BadAir}
use Rattle.tab_file.specs.Items.{exactly}
use Rattle.tab_file.specs.Reading.{version_items}
use Rattle.tab_file.proofs.Going.{IfErr-passed, Pass-fail}
use Rattle.tab_file.proofs.reading.front.Goals as goal

pub returns-in_err-expect-2-clause-fail : goal.returns-in_err-expect-2-clause-fail
returns-in_err-expect-2-clause-fail c =
    let bytes = c.args.bytes.now in
    let versions = version_items c.args.form in
    let airs = exactly c.args.airs BadAir 0 ∷ [] in
    let e = c.in_err-expect-2.field-0.0 in
    IfErr-passed c.from_residual-in_err-expect-2.result e _ c.from_residual-in_err-expect-2.ensures.1
    (Pass-fail bytes 0 4 (exactly 0x5457_4b5a BadMagic 0 ∷ []) (versions ++ airs) e c.in_ok-expect.ensures.pass
    (Pass-fail bytes 4 c.in_ok-profile.at versions airs e c.in_ok-profile.ensures.pass c.in_err-expect-2.ensures.fail))
