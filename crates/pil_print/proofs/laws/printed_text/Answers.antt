use Rattle.pil_print.proofs.Readings.{reads_back}
use Rattle.pil_print.proofs.laws.printed_text.Goals as goal

pub returns : goal.returns
returns c = record { text = reads_back c.spelled_tokens.ensures.spelling c.spelled_tokens.ensures.blank c.spelled_tokens.ensures.apart c.spelled_tokens.ensures.whole c.spelled_tokens.ensures.continues c.moved_tokens.ensures.placeless c.limit_laws.ensures.declared c.printed_parentheses.ensures.dressing c.meaning_is_reading.ensures.reading c.unbroken_is_sound.ensures.sound }
