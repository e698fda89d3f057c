use Rattle.std.proofs.Common.{rules, [], refl, ap, sym, get_or, Option}
use Rattle.pil_token.specs.declared.token.Mark.TheVariants.{Equals, OpenBrace}
use Rattle.pil_token.specs.declared.token.Token.TheVariants as tokens
use Rattle.pil_syntax.specs.Grammar.{limits}
use Rattle.pil_syntax.specs.Shown.{term, filter_of}
use Rattle.pil_syntax.specs.Spelling.{marked}
use Rattle.pil_syntax.specs.Tree.{Filter}
use Rattle.pil_syntax.specs.State.{opening, leftmost, right, first, plain, want, have, entering}
use Rattle.pil_syntax.specs.Machine.{selected}
use Rattle.pil_syntax.proofs.Stepping.{stepped, stepped_at}
use Rattle.pil_syntax.proofs.line.line_of.Goals as goal

pub returns-in-Mark-clause-ends : goal.returns-in-Mark-clause-ends
returns-in-Mark-clause-ends c = λ d n. rw (stepped limits d (have (first leftmost) (term c.args.left) n) (want (plain (first (right (term c.args.left)))) 0) (tokens.Mark Equals) c.args.tokens.now (search rules) (λ i. refl)) (c.identity.ensures.ends d)

pub returns-in-Some-clause-ends : goal.returns-in-Some-clause-ends
returns-in-Some-clause-ends c = λ d n.
    rw (stepped_at limits d (have (first leftmost) (term c.args.left) n) (entering opening (filter_of c.in-Some.selector) (get_or c.args.tokens.now 0 c.index-tokens-0.result).at []) (marked OpenBrace (get_or c.args.tokens.now 0 c.index-tokens-0.result).at) c.args.tokens.now (search rules)
    (ap (λ (o : Option Filter). selected o (get_or c.args.tokens.now 0 c.index-tokens-0.result).at) (sym c.in-Some.ensures)))
    (c.line_of_brace.ensures.ends d)
