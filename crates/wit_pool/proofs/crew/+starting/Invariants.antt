use Rattle.std.proofs.Common.{◌*◌, ◌+◌, vec_len}
use Rattle.wit_pool.proofs.crew.+starting.Given as goal

abbrev pub decreases-start_one-scope : goal.decreases-start_one-scope
decreases-start_one-scope g l = 3 * vec_len l.crew.waiting + 1

abbrev pub decreases-start_one : goal.decreases-start_one
decreases-start_one g l = 3 * vec_len l.crew.waiting + 2

abbrev pub decreases-with_workers : goal.decreases-with_workers
decreases-with_workers g l = 3 * vec_len l.crew.waiting
