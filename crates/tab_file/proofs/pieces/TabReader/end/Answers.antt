use Rattle.std.proofs.Common.{◌≡◌, ℕ, sym, ap, subst, ◌∙◌, true, false}
use Rattle.tab_file.specs.declared.fault.TabKind.TheVariants.{Short}
use Rattle.tab_file.specs.Reading.{TabFails}
use Rattle.tab_file.specs.Stands.{GoesOn}
use Rattle.tab_file.proofs.Feeding.{has_failed, goes_on, failed_here, ended, ends_short}
use Rattle.tab_file.proofs.pieces.TabReader.end.Goals as goal

pub returns-in-Some-clause-fails : goal.returns-in-Some-clause-fails
returns-in-Some-clause-fails c shape fed s =
    let r = c.args.self in
    failed_here r.profile r.body shape fed c.in-Some.e (has_failed r shape fed c.in-Some.e c.in-Some.is s)

pub returns-in-Some-body-clause-fails : goal.returns-in-Some-body-clause-fails
returns-in-Some-body-clause-fails c shape fed s =
    let r = c.args.self in
    let here = subst (λ b. GoesOn r.profile b r.header.items shape fed) c.in-Some-body.is (goes_on r shape fed c.in_default.is s) in
    subst (λ (n : ℕ). TabFails fed shape Short n) (sym c.end.ensures) (ends_short r.profile c.in-Some-body.body r.header.items shape fed here (sym c.is_going.ensures ∙ c.if-is_going.true))

pub returns-clause-reads : goal.returns-clause-reads
returns-clause-reads c shape fed s =
    let r = c.args.self in
    let here = subst (λ b. GoesOn r.profile b r.header.items shape fed) c.in-Some-body.is (goes_on r shape fed c.in_default.is s) in
    ended r.profile c.in-Some-body.body r.header.items shape fed here (sym c.is_going.ensures ∙ c.if-is_going.false)
