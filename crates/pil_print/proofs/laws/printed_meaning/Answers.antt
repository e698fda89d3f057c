use Rattle.pil_print.proofs.Roundtrip.{keeps_meaning}
use Rattle.pil_print.proofs.laws.printed_meaning.Goals as goal

pub returns : goal.returns
returns c = record { meaning = keeps_meaning c.limit_laws.ensures.declared c.printed_parentheses.ensures.dressing c.meaning_is_reading.ensures.reading c.unbroken_is_sound.ensures.sound }
