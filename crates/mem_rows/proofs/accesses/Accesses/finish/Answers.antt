use Rattle.mem_rows.proofs.Walked.{finished, run_tables}
use Rattle.mem_rows.proofs.accesses.Accesses.finish.Goals as goal

pub returns : goal.returns
returns c = λ image n keeps. run_tables image n c.args.public.now _ _ _ c.in_ok-tables.ensures c.deref.ensures.value (c.in_ok-all.ensures.ordered _ (finished image n c.args.public.now _ _ c.in_ok-push_last.ensures keeps))
