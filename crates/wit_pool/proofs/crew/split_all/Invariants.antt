use Rattle.std.proofs.Common.{◌-◌, ◌≡◌, ◌≤◌, vec_len, vec_capacity}
use Rattle.std.specs.List.{All}
use Rattle.wit_pool.specs.Crew.{IsWorker}
use Rattle.wit_pool.specs.Serving.{IsServing, shares_of, pushed_of}
use Rattle.wit_pool.proofs.crew.split_all.Given as goal

abbrev pub invariant-loop : goal.invariant-loop
invariant-loop l =
    (vec_len l.all ≡ l.counter) × (l.workers ≤ vec_capacity l.all) × All (IsWorker l.queue) l.all.items × IsServing l.queue (shares_of l.fn.mine - l.counter) (pushed_of l.fn.mine) l.mine
