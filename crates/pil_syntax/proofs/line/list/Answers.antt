use Rattle.std.proofs.Common.{rules, [], refl, get_or}
use Rattle.pil_token.specs.declared.token.Mark.TheVariants.{OpenBrace, OpenParen}
use Rattle.pil_token.specs.declared.token.Token.TheVariants as tokens
use Rattle.pil_syntax.specs.Grammar.{limits}
use Rattle.pil_syntax.specs.Tree.{every}
use Rattle.pil_syntax.specs.Spelling.{name, marked}
use Rattle.pil_syntax.specs.State.{picked, first, plain, want, in_filter, ref_name, list_wanted, entering}
use Rattle.pil_syntax.proofs.Stepping.{stepped_at, stepped_nest}
use Rattle.pil_syntax.proofs.line.list.Goals as goal

pub returns-in-Mark-clause-leads : goal.returns-in-Mark-clause-leads
returns-in-Mark-clause-leads c = λ d j. rw (stepped_at limits d (list_wanted j) (entering j every (get_or c.args.tokens.now 0 c.index-tokens-0.result).at []) (marked OpenBrace (get_or c.args.tokens.now 0 c.index-tokens-0.result).at) c.args.tokens.now (search rules) refl) (c.list_of_brace.ensures.leads d j)

pub returns-in_ok-copied-in-Name-clause-leads : goal.returns-in_ok-copied-in-Name-clause-leads
returns-in_ok-copied-in-Name-clause-leads c = λ d j. rw (stepped_at limits d (list_wanted j) (ref_name (in_filter j) c.in_ok-copied-in-Name.field-0) (name c.in_ok-copied-in-Name.field-0) c.args.tokens.now (search rules) refl) (c.list_of_column.ensures.leads d j)

pub returns-in-Mark-2-clause-leads : goal.returns-in-Mark-2-clause-leads
returns-in-Mark-2-clause-leads c = λ d j. rw (stepped_nest limits d (list_wanted j) (want (plain (first (picked j))) 0) 0 (tokens.Mark OpenParen) c.args.tokens.now refl (search rules) (λ i. refl)) (c.list_of_group.ensures.leads d j)
