use Rattle.std.proofs.Common.{rules, refl}
use Rattle.pil_token.specs.declared.token.Word.TheVariants.{Constant, Namespace}
use Rattle.pil_token.specs.declared.token.Token.TheVariants as tokens
use Rattle.pil_syntax.specs.Grammar.{limits}
use Rattle.pil_syntax.specs.State.{between, constant_word, namespace_word}
use Rattle.pil_syntax.proofs.Stepping.{stepped}
use Rattle.pil_syntax.proofs.reading.statement.Goals as goal

pub returns-in-Word-clause-ends : goal.returns-in-Word-clause-ends
returns-in-Word-clause-ends c = λ d h. rw (stepped limits d between constant_word (tokens.Word Constant) c.args.tokens.now (search rules) (λ i. refl)) (c.constant.ensures.ends d)

pub returns-in-Word-2-clause-ends : goal.returns-in-Word-2-clause-ends
returns-in-Word-2-clause-ends c = λ d h. rw (stepped limits d between namespace_word (tokens.Word Namespace) c.args.tokens.now (search rules) (λ i. refl)) (c.namespace.ensures.ends d)
