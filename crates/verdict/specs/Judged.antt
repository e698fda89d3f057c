-- What is judged of tables (docs/CONSTRAINTS.md).
use Rattle.std.specs.Prelude.{◌≡◌}
use Rattle.gold.specs.declared.instances.Witness.{Witness}
use Rattle.rv_model.specs.Image.{Img}
use Rattle.row_check.specs.Breaks.{IsFirstBroken}
use Rattle.machine_text.specs.Machine.{machine}
use Rattle.machine_columns.specs.Values.{values_of}
use Rattle.machine_columns.specs.Accepted.{AreAccepted, public_of}
use Rattle.verdict.specs.declared.judgement.Judgement.{Judgement}
use Rattle.verdict.specs.declared.judgement.Judgement.TheVariants.{Accepted, Broken}

-- the tables are accepted and have this public output, or this is where the first line is broken
abbrev pub IsJudged : Img → Witness → Judgement → Type 0
IsJudged image witness (Accepted public) = AreAccepted image witness × (public ≡ public_of image witness)
IsJudged image witness (Broken broken) = IsFirstBroken (machine witness.profile) (values_of image witness) broken
