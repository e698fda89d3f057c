use Rattle.std.proofs.Common.{Option, subst}
use Rattle.std.specs.Prelude.{IfSome}
use Rattle.verdict.specs.declared.run.VerdictRun.{VerdictRun}
use Rattle.file_verdict.specs.Standing.{AreNext, HasBegun, IsRun, sizes_in}
use Rattle.file_verdict.proofs.adding.with_tables.Goals as goal

pub add_all-requires : goal.add_all-requires
add_all-requires c = subst (λ (o : Option VerdictRun). IfSome o (λ r. AreNext c.args.image.now r c.args.tables.now)) c.in-Some.is c.requires

pub returns-in-None : goal.returns-in-None
returns-in-None c = λ bytes before has fill. subst (λ (o : Option VerdictRun). HasBegun c.args.image.now bytes before o) c.in-None.is has

pub returns-in_ok-add_all-in-Some : goal.returns-in_ok-add_all-in-Some
returns-in_ok-add_all-in-Some c = λ bytes before has fill.
    let h : IsRun c.args.image.now bytes before c.in-Some.run' = subst (λ (o : Option VerdictRun). HasBegun c.args.image.now bytes before o) c.in-Some.is has in
    record { come = h.come; stands = c.in_ok-add_all-in-Some.ensures (sizes_in bytes) before h.stands (fill h.come) }
