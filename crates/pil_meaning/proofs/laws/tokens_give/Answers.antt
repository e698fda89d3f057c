use Rattle.pil_meaning.proofs.Seen.{has_numbers, has_signs}
use Rattle.pil_meaning.proofs.Texts.{text_signs}
use Rattle.pil_meaning.proofs.Counts.{countable}
use Rattle.pil_meaning.proofs.laws.tokens_give.Goals as goal

pub returns : goal.returns
returns c = record { numbers = has_numbers; signs = has_signs; text = text_signs; countable = countable }
