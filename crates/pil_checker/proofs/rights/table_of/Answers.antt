use Rattle.std.proofs.Common.{◌∙◌, ap}
use Rattle.std.proofs.lemmas.Result.{IfOk-weaker}
use Rattle.pil_ast.specs.Holds.{times}
use Rattle.pil_checker.proofs.rights.table_of.Goals as goal

pub returns : goal.returns
returns g c = IfOk-weaker c.new.result _ _ (λ table h a of t. h t ∙ ap (times t) (c.in_ok-tuples.ensures a of)) c.new.ensures
