use Rattle.std.proofs.Common.{ℕ, zero, suc, ◌≡◌, replicate, slice_index, refl, ◌∙◌, ap, arith}
use Rattle.pil_ast.specs.Tree.{namespaces}
use Rattle.pil_ast.specs.Term.{item_at}
use Rattle.pil_ast.specs.Holds.{lines}
use Rattle.instance_pass.specs.Checks.{home}
use Rattle.pil_checker.proofs.Finished.{tabled-alike, none-sent}
use Rattle.pil_checker.proofs.checker.Checker.new.Goals as goal

zeros : (n t : ℕ) → slice_index (replicate n 0) t ≡ 0
zeros zero t = refl
zeros (suc n) zero = refl
zeros (suc n) (suc t) = zeros n t

pub returns-clause-stands : goal.returns-clause-stands
returns-clause-stands g c = λ cs alike.
    let ns = namespaces c.args.pil.now in
    let d = g.C.Columns.values c.args.constants.now in
    let plan = c.in_ok-plan.plan in
    let none : (t : ℕ) → slice_index c.in_ok-counts.counts.items t ≡ 0 = λ t. ap (λ xs. slice_index xs t) (c.in_ok-counts.ensures.items_if_clones_equal (λ y e. e)) ∙ zeros c.len.result t in
    record {
      tabled = λ k check is. tabled-alike ns d cs plan.tables.items check (item_at (lines ns) k) (alike k) (c.in_ok-plan.ensures.tabled k check is);
      parts = λ j p a is of. none-sent ns cs (slice_index c.in_ok-counts.counts.items a.space) a p.tuples (c.in_ok-plan.ensures.idle j p is) (none a.space);
      found = λ k i r l li lr. absurd (let z = none (home (item_at (lines ns) k)) in omega arith);
    }
