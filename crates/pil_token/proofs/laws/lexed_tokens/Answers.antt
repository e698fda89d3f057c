use Rattle.std.proofs.Common.{subst}
use Rattle.pil_token.proofs.Valid.{AllValid, lexed_valid}
use Rattle.pil_token.proofs.laws.lexed_tokens.Goals as goal

pub returns : goal.returns
returns c = record { tokens = λ text ts e. subst AllValid e (lexed_valid 0 0 text) }
