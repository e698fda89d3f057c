use Rattle.wit_columns.proofs.Starts.{Begun}
use Rattle.wit_columns.proofs.table_columns.starts.Given as goal

abbrev pub invariant-loop-air : goal.invariant-loop-air
invariant-loop-air l = Begun l.shape l.witness l.air l.start l.starts
