use Rattle.std.proofs.Common.{ℕ, ◌≢◌, [], List, sym, subst, arith}
use Rattle.pil_ast.specs.Holds.{times}
use Rattle.pil_laws.proofs.Times.{times_somewhere}
use Rattle.bus_check.specs.Bus.{held}
use Rattle.bus_check.proofs.tuples.TupleList.get.Goals as goal

pub returns-then-place-len-clause-stands : goal.returns-then-place-len-clause-stands
returns-then-place-len-clause-stands c =
    subst (λ (ts : List (List ℕ)). times c.at.result.now ts ≢ 0) c.self.view_is
    (times_somewhere c.at.result.now (held c.self.inside.kept) c.args.place [] (let l = c.if-place-len.true in let n = c.len.ensures in omega arith) (sym c.at.ensures))
