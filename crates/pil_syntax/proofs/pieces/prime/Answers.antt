use Rattle.std.proofs.Common.{rules}
use Rattle.pil_syntax.specs.Grammar.{limits}
use Rattle.pil_syntax.proofs.Resuming.{unprimed}
use Rattle.pil_syntax.proofs.pieces.prime.Goals as goal

pub returns-in_default-clause-leads : goal.returns-in_default-clause-leads
returns-in_default-clause-leads c = λ d h s x n. unprimed limits d h s x n c.args.tokens.now (search rules)
