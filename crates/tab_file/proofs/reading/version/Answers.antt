use Rattle.std.proofs.Common.{[], ◌∷◌}
use Rattle.tab_file.specs.declared.fault.TabKind.TheVariants.{BadVersion}
use Rattle.tab_file.specs.Items.{exactly, profile_item}
use Rattle.tab_file.proofs.Going.{IfErr-passed, Fail-then}
use Rattle.tab_file.proofs.reading.version.Goals as goal

pub returns-in_err-expect-in-Two-clause-fail : goal.returns-in_err-expect-in-Two-clause-fail
returns-in_err-expect-in-Two-clause-fail c =
    let e = c.in_err-expect-in-Two.field-0.0 in
    rw c.in-Two.is
    (IfErr-passed c.from_residual-in_err-expect-in-Two.result e _ c.from_residual-in_err-expect-in-Two.ensures.1
    (Fail-then c.args.bytes.now 4 (exactly 2 BadVersion 0 ∷ []) (profile_item ∷ []) e c.in_err-expect-in-Two.ensures.fail))
