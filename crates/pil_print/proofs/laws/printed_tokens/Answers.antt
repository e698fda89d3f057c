use Rattle.pil_print.proofs.Lexed.{whole_text}
use Rattle.pil_print.proofs.laws.printed_tokens.Goals as goal

pub returns : goal.returns
returns c = record { tokens = whole_text c.spelled_tokens.ensures.spelling c.spelled_tokens.ensures.blank c.spelled_tokens.ensures.apart c.spelled_tokens.ensures.whole c.spelled_tokens.ensures.continues }
