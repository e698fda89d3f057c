use Rattle.std.proofs.Common.{ℕ, ◌≡◌, sym, ap, subst, ◌∙◌, MatchOption}
use Rattle.pil_ast.specs.Sound.{IsSound}
use Rattle.pil_ast.specs.Tree.{namespaces}
use Rattle.row_check.specs.Breaks.{IsFirstBroken}
use Rattle.machine_text.specs.Machine.{machine}
use Rattle.machine_columns.specs.Accepted.{AreAccepted}
use Rattle.machine_columns.specs.Values.{values_of}
use Rattle.pil_checker.specs.Standing.{IsBuilt}
use Rattle.verdict.specs.Standing.{witness_with}
use Rattle.verdict.proofs.Start.{verdict_of}
use Rattle.verdict.proofs.Whole.{one_out, published_is}
use Rattle.verdict.proofs.run.VerdictRun.finish.Goals as goal

pub finish-requires-clause-sound : goal.finish-requires-clause-sound
finish-requires-clause-sound c = subst IsSound (sym c.requires.stands.text) c.requires.stands.sound

pub finish-requires-clause-built : goal.finish-requires-clause-built
finish-requires-clause-built c = subst (λ ns. IsBuilt ns c.args.self.checker) (sym c.requires.stands.text) c.requires.stands.built

pub returns-in-Some : goal.returns-in-Some
returns-in-Some c = λ image sizes tables st all.
    subst (λ o. MatchOption o (AreAccepted image (witness_with sizes tables)) (λ b. IsFirstBroken (machine sizes.profile) (values_of image (witness_with sizes tables)) b)) c.in-Some.is
    (verdict_of image sizes tables c.args.self c.in_ok-found.found st all c.in_ok-found.ensures)

pub returns : goal.returns
returns c = λ image sizes tables st all. (
  subst (λ o. MatchOption o (AreAccepted image (witness_with sizes tables)) (λ b. IsFirstBroken (machine sizes.profile) (values_of image (witness_with sizes tables)) b)) c.in-None.is
      (verdict_of image sizes tables c.args.self c.in_ok-found.found st all c.in_ok-found.ensures),
  published_is c.columns_laws.ensures.tables c.publics_laws.ensures.outs image (witness_with sizes tables) all.formed (one_out image (witness_with sizes tables) (c.publics_laws.ensures.one image (witness_with sizes tables) all.formed)) c.args.self.public st.told,
)
