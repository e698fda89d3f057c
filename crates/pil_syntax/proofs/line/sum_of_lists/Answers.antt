use Rattle.std.proofs.Common.{rules, [], refl, map, ◌∙◌}
use Rattle.pil_token.specs.declared.token.Word.TheVariants.{Is}
use Rattle.pil_token.specs.declared.token.Token.TheVariants as tokens
use Rattle.pil_syntax.specs.Grammar.{limits}
use Rattle.pil_syntax.specs.Shown.{tuple}
use Rattle.pil_syntax.specs.State.{against, list_wanted, left_lists}
use Rattle.pil_syntax.proofs.Stepping.{stepped}
use Rattle.pil_syntax.proofs.line.sum_of_lists.Goals as goal

pub returns-in-Word-clause-ends : goal.returns-in-Word-clause-ends
returns-in-Word-clause-ends c = λ d. rw (c.in_ok-left.ensures.left d ∙ stepped limits d (left_lists (map tuple c.in_ok-left.left)) (list_wanted (against (map tuple c.in_ok-left.left) [])) (tokens.Word Is) c.in_ok-left.rest.now (search rules) (λ i. refl)) (c.bus.ensures.ends d)
