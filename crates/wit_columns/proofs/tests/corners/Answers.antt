use Rattle.std.proofs.Common.{◌<◌, sym, subst, arith}
use Rattle.wit_columns.specs.Index.{Shaped}
use Rattle.wit_columns.specs.Values.{instances_of}
use Rattle.wit_columns.proofs.tests.corners.Goals as goal

pub at-requires-clause-instance : goal.at-requires-clause-instance
at-requires-clause-instance c = subst (λ (v : Shaped). 0 < instances_of v.witness.tables 0) (sym c.requires) (omega arith)

pub at-requires-2-clause-instance : goal.at-requires-2-clause-instance
at-requires-2-clause-instance c = subst (λ (v : Shaped). 0 < instances_of v.witness.tables 0) (sym c.requires) (omega arith)

pub at-requires-3-clause-instance : goal.at-requires-3-clause-instance
at-requires-3-clause-instance c = subst (λ (v : Shaped). 0 < instances_of v.witness.tables 0) (sym c.requires) (omega arith)

pub at-requires-4-clause-instance : goal.at-requires-4-clause-instance
at-requires-4-clause-instance c = subst (λ (v : Shaped). 1 < instances_of v.witness.tables 0) (sym c.requires) (omega arith)

pub at-requires-5-clause-instance : goal.at-requires-5-clause-instance
at-requires-5-clause-instance c = subst (λ (v : Shaped). 1 < instances_of v.witness.tables 0) (sym c.requires) (omega arith)
