use Rattle.std.proofs.Common.{refl}
use Rattle.pil_token.specs.Tokens.{begins}
use Rattle.pil_token.proofs.Longest.{front_of}
use Rattle.pil_token.proofs.Passing.{piece_at}
use Rattle.pil_token.proofs.laws.longest_token.Goals as goal

pub returns-clause-longest : goal.returns-clause-longest
returns-clause-longest c = front_of c.args.text.now

pub returns-clause-within : goal.returns-clause-within
returns-clause-within c = λ some. let h = piece_at c.args.text.now (begins c.args.text.now) some refl in (h.some, h.fits)
