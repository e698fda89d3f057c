use Rattle.std.proofs.Common.{refl, arith}
use Rattle.pil_token.specs.Tokens.{begins}
use Rattle.pil_token.specs.Spelling.{word_of, mark_of}
use Rattle.gold.specs.declared.shapes.Profile.TheVariants.{Small, Wide}
use Rattle.machine_text.proofs.source.parts.Goals as goal

pub returns-clause-computed : goal.returns-clause-computed
unfolding begins word_of mark_of
returns-clause-computed c Small = refl
returns-clause-computed c Wide = refl

pub returns-clause-short : goal.returns-clause-short
returns-clause-short c Small = omega arith
returns-clause-short c Wide = omega arith
