use Rattle.std.proofs.Common.{◌≡◌, ◌-◌, ℕ, nat_le, get_or, arith, rules, of_calls, AllPairs}
use Rattle.std.proofs.lemmas.Fn.{always_returns_same}
use Rattle.rv_model.specs.Image.{EndsBefore, runs_at, has}
use Rattle.rv_model.proofs.Holder.{find_before, find_last, runs_at-address, has-address, starts_partitioned, Splits}
use Rattle.rv_model.proofs.image.Image.last_from.Goals as goal

pub returns-then-count-eq0 : goal.returns-then-count-eq0
returns-then-count-eq0 c =
    let a : ℕ = c.args.address in
    let ascending : AllPairs EndsBefore c.deref.result.now = rw c.deref.ensures.value c.self.invariant.loadable.ascending in
    let splits : Splits a c.deref.result.now c.partition_point-count.result =
    c.partition_point-count.ensures.partitioned (λ s. nat_le s.start a) (always_returns_same _ _ _ (λ x r f k. search (rules, of_calls))) (starts_partitioned _ a ascending) in
    rw (← c.self.view_is, ← c.deref.ensures.value) record {
      runs = find_before (runs_at a) a _ _ (runs_at-address a) splits c.if-count-eq0.true;
      has = find_before (has a) a _ _ (has-address a) splits c.if-count-eq0.true;
    }

pub returns-else-count-eq0 : goal.returns-else-count-eq0
returns-else-count-eq0 c =
    let a : ℕ = c.args.address in
    let ascending : AllPairs EndsBefore c.deref.result.now = rw c.deref.ensures.value c.self.invariant.loadable.ascending in
    let splits : Splits a c.deref.result.now c.partition_point-count.result =
    c.partition_point-count.ensures.partitioned (λ s. nat_le s.start a) (always_returns_same _ _ _ (λ x r f k. search (rules, of_calls))) (starts_partitioned _ a ascending) in
    let is : c.index.result.now ≡ get_or c.deref.result.now (c.partition_point-count.result - 1) c.index.result.now = rw c.deref.ensures.value c.index.ensures in
    rw (← c.self.view_is, ← c.deref.ensures.value) record {
      runs = find_last (runs_at a) a _ _ _ (runs_at-address a) ascending splits (omega arith) (omega arith) is;
      has = find_last (has a) a _ _ _ (has-address a) ascending splits (omega arith) (omega arith) is;
    }
