use Rattle.pil_token.proofs.Spelled.{spelling_lexes, blank_lexes, append_lexes, lexes_whole, spelling_continues}
use Rattle.pil_token.proofs.laws.spelled_tokens.Goals as goal

pub returns : goal.returns
returns c = record { spelling = spelling_lexes; blank = blank_lexes; apart = append_lexes; whole = lexes_whole; continues = spelling_continues }
