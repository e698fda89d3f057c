use Rattle.std.proofs.Common.{[], ◌∷◌, ◌++◌, subst}
use Rattle.gold.specs.declared.shapes.Form.TheVariants.{Two}
use Rattle.tab_file.specs.declared.fault.TabKind.TheVariants.{BadMagic}
use Rattle.tab_file.specs.Items.{exactly}
use Rattle.tab_file.specs.Reading.{version_items}
use Rattle.tab_file.specs.Steps.{Fail}
use Rattle.tab_file.proofs.Going.{IfErr-passed, Pass-fail, Fail-then}
use Rattle.tab_file.proofs.header.profile_in.Goals as goal

pub returns-in_err-expect-in-Two-clause-fail : goal.returns-in_err-expect-in-Two-clause-fail
returns-in_err-expect-in-Two-clause-fail c =
    let e = c.in_err-expect-in-Two.field-0.0 in
    rw c.in-Two.is (IfErr-passed c.from_residual.result e _ c.from_residual.ensures.1 (Fail-then c.args.bytes.now 0 (exactly 0x5457_4b5a BadMagic 0 ∷ []) (version_items Two) e c.in_err-expect-in-Two.ensures.fail))

pub returns-in_err-profile-in-Two-clause-fail : goal.returns-in_err-profile-in-Two-clause-fail
returns-in_err-profile-in-Two-clause-fail c =
    let bytes = c.args.bytes.now in
    let e = c.in_err-profile-in-Two.field-0.0 in
    let fail = subst (λ form. Fail bytes 4 (version_items form) e) c.in-Two.is c.in_err-profile-in-Two.ensures.fail in
    rw c.in-Two.is (IfErr-passed c.from_residual-in_err-profile-in-Two.result e _ c.from_residual-in_err-profile-in-Two.ensures.1
    (Pass-fail bytes 0 4 (exactly 0x5457_4b5a BadMagic 0 ∷ []) (version_items Two) e c.in_ok-expect-in-Two.ensures.pass fail))
