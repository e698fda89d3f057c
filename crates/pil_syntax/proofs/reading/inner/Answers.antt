use Rattle.std.proofs.Common.{rules, [], ap, get_or, Bool}
use Rattle.pil_token.specs.declared.token.Word.TheVariants.{Pol, Public}
use Rattle.pil_token.specs.declared.token.Mark.TheVariants.{OpenBrace}
use Rattle.pil_token.specs.declared.token.Token.TheVariants as tokens
use Rattle.pil_syntax.specs.Grammar.{limits}
use Rattle.pil_syntax.specs.Tree.{every}
use Rattle.pil_syntax.specs.Spelling.{marked}
use Rattle.pil_syntax.specs.State.{between, pol_word, public_word, opening, entering}
use Rattle.pil_syntax.specs.Machine.{opened_move}
use Rattle.pil_syntax.proofs.Stepping.{stepped, stepped_at, line_begins}
use Rattle.pil_syntax.proofs.reading.inner.Goals as goal

pub returns-in-Word-clause-ends : goal.returns-in-Word-clause-ends
returns-in-Word-clause-ends c = λ d h. rw (stepped limits d between pol_word (tokens.Word Pol) c.args.tokens.now (search rules) (λ i. ap (λ (b : Bool). opened_move b (tokens.Word Pol) i) h)) (c.pol.ensures.ends d)

pub returns-in-Word-2-clause-ends : goal.returns-in-Word-2-clause-ends
returns-in-Word-2-clause-ends c = λ d h. rw (stepped limits d between public_word (tokens.Word Public) c.args.tokens.now (search rules) (λ i. ap (λ (b : Bool). opened_move b (tokens.Word Public) i) h)) (c.public.ensures.ends d)

pub returns-in-Mark-clause-ends : goal.returns-in-Mark-clause-ends
returns-in-Mark-clause-ends c = λ d h. rw (stepped_at limits d between (entering opening every (get_or c.args.tokens.now 0 c.index-tokens-0.result).at []) (marked OpenBrace (get_or c.args.tokens.now 0 c.index-tokens-0.result).at) c.args.tokens.now (search rules) (ap (λ (b : Bool). opened_move b (tokens.Mark OpenBrace) (get_or c.args.tokens.now 0 c.index-tokens-0.result).at) h)) (c.line_of_brace.ensures.ends d)

pub returns-in_default-clause-ends : goal.returns-in_default-clause-ends
returns-in_default-clause-ends c = λ d h. rw (line_begins limits d c.args.tokens.now h (search rules)) (c.line.ensures.ends d)
