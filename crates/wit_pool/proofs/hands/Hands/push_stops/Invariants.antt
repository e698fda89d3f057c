use Rattle.wit_pool.specs.Serving.{IsServing, shares_of, pushed_of}
use Rattle.wit_pool.proofs.hands.Hands.push_stops.Given as goal

abbrev pub invariant-loop : goal.invariant-loop
invariant-loop g l = IsServing l.queue (shares_of l.fn.self) (pushed_of l.fn.self) l.hands
