use Rattle.pil_ast.proofs.Limits.{columns-few, few_columns}
use Rattle.pil_ast.proofs.laws.limit_laws.Goals as goal

pub returns-clause-declared : goal.returns-clause-declared
returns-clause-declared c = columns-few

pub returns-clause-columns : goal.returns-clause-columns
returns-clause-columns c = few_columns
