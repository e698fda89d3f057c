use Rattle.pil_syntax.specs.Grammar.{limits}
use Rattle.pil_syntax.proofs.Unique.{decided}
use Rattle.pil_syntax.proofs.laws.files_are_decided.Goals as goal

pub returns : goal.returns
returns c = record { decided = λ ts end. decided limits ts end }
