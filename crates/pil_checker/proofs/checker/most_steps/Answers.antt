use Rattle.std.proofs.Common.{◌≡◌, ◌≤◌, length, inl, inr, sym, ◌∙◌, ap, subst, arith}
use Rattle.std.proofs.lemmas.Bool.{cases_lt}
use Rattle.pil_checker.specs.Programs.{nodes_at}
use Rattle.pil_checker.proofs.Elements.{read-found}
use Rattle.pil_checker.proofs.Grown.{nodes-found, nodes-past}
use Rattle.pil_checker.proofs.checker.most_steps.Goals as goal

pub loop-program-preserved : goal.loop-program-preserved
loop-program-preserved c = λ s l.
    let top = c.max-most.ensures in
    elim (cases_lt s c.loop-program.program-index) [
      | inl b ↦ (let h = c.loop-program.invariant s b in omega arith)
      | inr b ↦
          let at = nodes-found c.args.programs.now c.loop-program.program-index c.program-item.result (read-found c.args.programs.now c.loop-program.program-index c.program-item.result c.loop-program-test.true c.program-item.is) in
          let here : c.loop-program.program-index ≡ s = omega arith in
          subst (λ k. length (nodes_at c.args.programs.now k) ≤ c.max-most.result) here
          (let e = ap length (at ∙ sym c.as_slice.ensures) in omega arith)
    ]

pub returns : goal.returns
returns c = λ s. elim (cases_lt s c.loop-program.program-index) [
  | inl b ↦ c.loop-program.invariant s b
  | inr b ↦ (let past = c.loop-program-test.false in let e = ap length (nodes-past c.args.programs.now s (omega arith)) in omega arith)
]
