use Rattle.wit_pool.specs.Serving.{IsServing, shares_of, pushed_of}
use Rattle.wit_pool.proofs.hands.Hands.work.Given as goal

abbrev pub invariant-loop : goal.invariant-loop
invariant-loop g l =
    (goal.iterator-loop g).can_next l.iterator' × (goal.iterator-loop g).is_finite l.iterator' × IsServing l.queue (shares_of l.fn.self) (pushed_of l.fn.self) l.hands
