use Rattle.std.proofs.Common.{rules, refl}
use Rattle.pil_token.specs.declared.token.Mark.TheVariants.{Percent, Colon}
use Rattle.pil_token.specs.declared.token.Token.TheVariants as tokens
use Rattle.pil_syntax.specs.Grammar.{limits}
use Rattle.pil_syntax.specs.Spelling.{name}
use Rattle.pil_syntax.specs.State.{want, in_fact, ref_name, fact_percent, fact_colon}
use Rattle.pil_syntax.proofs.Stepping.{stepped, stepped_at}
use Rattle.pil_syntax.proofs.expression.operand.Goals as goal

pub returns-in-Mark-clause-leads : goal.returns-in-Mark-clause-leads
returns-in-Mark-clause-leads c = λ d k n. rw (stepped limits d (want k n) (fact_percent k n) (tokens.Mark Percent) c.args.tokens.now (search rules) (λ i. refl)) (c.constant.ensures.leads d k n)

pub returns-in-Mark-2-clause-leads : goal.returns-in-Mark-2-clause-leads
returns-in-Mark-2-clause-leads c = λ d k n. rw (stepped limits d (want k n) (fact_colon k n) (tokens.Mark Colon) c.args.tokens.now (search rules) (λ i. refl)) (c.public.ensures.leads d k n)

pub returns-in_ok-copied-in-Name-clause-leads : goal.returns-in_ok-copied-in-Name-clause-leads
returns-in_ok-copied-in-Name-clause-leads c = λ d k n. rw (stepped_at limits d (want k n) (ref_name (in_fact k n) c.in_ok-copied-in-Name.field-0) (name c.in_ok-copied-in-Name.field-0) c.args.tokens.now (search rules) refl) (c.column.ensures.leads d k n)
