use Rattle.std.proofs.Common.{[]}
use Rattle.zk_top.proofs.Checks.{some_outcome, one_outcome}
use Rattle.zk_top.proofs.laws.one_check.Goals as goal

pub returns-clause-some : goal.returns-clause-some
returns-clause-some c = some_outcome c.one_verdict.ensures.some c.reads_or_fails.ensures.one (λ file. c.one_answer.ensures.some file [])

pub returns-clause-one : goal.returns-clause-one
returns-clause-one c =
    one_outcome c.one_verdict.ensures.one c.one_verdict.ensures.not_both c.one_text.ensures.witness c.reads_or_fails.ensures.not_both
    (λ file. c.one_answer.ensures.one_image file []) (λ file. c.one_answer.ensures.not_both file []) c.one_answer.ensures.one_refusal
