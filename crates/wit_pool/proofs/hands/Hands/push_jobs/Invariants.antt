use Rattle.std.proofs.Common.{◌++◌}
use Rattle.wit_pool.specs.Serving.{IsServing, shares_of, pushed_of}
use Rattle.wit_pool.proofs.hands.Hands.push_jobs.Given as goal

abbrev pub invariant-loop-job : goal.invariant-loop-job
invariant-loop-job g l = IsServing l.queue (shares_of l.fn.self) (pushed_of l.fn.self ++ l.yielded) l.hands
