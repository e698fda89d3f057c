use Rattle.std.proofs.Common.{length, ap, sym, ◌∙◌, List, []}
use Rattle.pil_syntax.specs.Grammar.{limits}
use Rattle.pil_syntax.specs.Shown.{tuple}
use Rattle.pil_syntax.specs.Tree.{Tuple}
use Rattle.pil_syntax.specs.State.{among, against, list_wanted}
use Rattle.pil_syntax.specs.Machine.{run}
use Rattle.pil_syntax.proofs.Stepping.{first_stops, fails_by}
use Rattle.pil_syntax.proofs.line.line_of_lists.Goals as goal

pub returns-in-None-clause-ends : goal.returns-in-None-clause-ends
returns-in-None-clause-ends c = λ d. fails_by c.unexpected.result (length c.args.tokens.now) _ c.unexpected.ensures (first_stops limits d (tuple c.args.list) c.args.tokens.now c.in-None.ensures.joiner)

pub returns-in-Some-In-default-clause-ends : goal.returns-in-Some-In-default-clause-ends
returns-in-Some-In-default-clause-ends c = λ d. rw (rw c.in-Some-In-default.field-0-0-is at (c.in-Some-In-default.ensures.joiner d (tuple c.args.list))) (c.lookup.ensures.ends d)

pub returns-in_ok-one-in-Some-Is-default-clause-ends : goal.returns-in_ok-one-in-Some-Is-default-clause-ends
returns-in_ok-one-in-Some-Is-default-clause-ends c = λ d. rw (rw c.in-Some-Is-default.field-0-0-is at (c.in-Some-Is-default.ensures.joiner d (tuple c.args.list)) ∙ ap (λ (ls : List Tuple). run limits d (list_wanted (against ls [])) c.in-Some-Is-default.rest.now) (sym c.in_ok-one-in-Some-Is-default.ensures)) (c.bus.ensures.ends d)

pub returns-in_ok-one-in-Some-Plus-default-clause-ends : goal.returns-in_ok-one-in-Some-Plus-default-clause-ends
returns-in_ok-one-in-Some-Plus-default-clause-ends c = λ d. rw (rw c.in-Some-Plus-default.field-0-0-is at (c.in-Some-Plus-default.ensures.joiner d (tuple c.args.list)) ∙ ap (λ (ls : List Tuple). run limits d (list_wanted (among ls)) c.in-Some-Plus-default.rest.now) (sym c.in_ok-one-in-Some-Plus-default.ensures)) (c.sum_of_lists.ensures.ends d)
