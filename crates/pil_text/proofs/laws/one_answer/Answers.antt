use Rattle.pil_text.proofs.Texts.{decided}
use Rattle.pil_text.proofs.laws.one_answer.Goals as goal

pub returns : goal.returns
returns c = record { decided = λ text. decided c.files_are_decided.ensures.decided c.least_is_least.ensures.least c.cycles_are_decided.ensures.each text }
