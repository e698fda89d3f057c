use Rattle.std.proofs.Common.{rules, [], refl}
use Rattle.pil_token.specs.declared.token.Word.TheVariants.{Constant, Commit}
use Rattle.pil_token.specs.declared.token.Token.TheVariants as tokens
use Rattle.pil_syntax.specs.declared.tree.ColumnKind.TheVariants as kinds
use Rattle.pil_syntax.specs.Grammar.{limits}
use Rattle.pil_syntax.specs.Spelling.{name}
use Rattle.pil_syntax.specs.State.{pol_word, columns_word, intermediate_name}
use Rattle.pil_syntax.proofs.Stepping.{stepped, stepped_at}
use Rattle.pil_syntax.proofs.declaring.pol.Goals as goal

pub returns-in-Word-clause-ends : goal.returns-in-Word-clause-ends
returns-in-Word-clause-ends c = λ d. rw (stepped limits d pol_word (columns_word kinds.Constant []) (tokens.Word Constant) c.args.tokens.now (search rules) (λ i. refl)) (c.columns.ensures.ends d)

pub returns-in-Word-2-clause-ends : goal.returns-in-Word-2-clause-ends
returns-in-Word-2-clause-ends c = λ d. rw (stepped limits d pol_word (columns_word kinds.Commit []) (tokens.Word Commit) c.args.tokens.now (search rules) (λ i. refl)) (c.columns-in-Word-2.ensures.ends d)

pub returns-in_ok-copied-in-Name-clause-ends : goal.returns-in_ok-copied-in-Name-clause-ends
returns-in_ok-copied-in-Name-clause-ends c = λ d. rw (stepped_at limits d pol_word (intermediate_name c.in_ok-copied-in-Name.field-0) (name c.in_ok-copied-in-Name.field-0) c.args.tokens.now (search rules) refl) (c.intermediate.ensures.ends d)
