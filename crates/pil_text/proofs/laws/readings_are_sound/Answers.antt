use Rattle.pil_text.proofs.Printed.{sound_text}
use Rattle.pil_text.proofs.laws.readings_are_sound.Goals as goal

pub returns : goal.returns
returns c = record { sound = sound_text c.tokens_give.ensures.numbers c.tokens_give.ensures.signs c.tokens_give.ensures.text c.named_is_closed.ensures.closed c.without_cycle_are_ranked.ensures c.lexed_tokens.ensures.tokens c.unbroken_is_sound.ensures.sound }
