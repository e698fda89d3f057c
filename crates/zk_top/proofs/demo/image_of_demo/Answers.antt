use Rattle.std.proofs.Common.{◌≡◌, ℕ, List, [], inl, inr, rules, arith, subst, ◌∙◌}
use Rattle.elf_load.specs.Refusal.{Refused}
use Rattle.demo_program.specs.Demo.{demo_file}
use Rattle.zk_top.proofs.demo.image_of_demo.Goals as goal

pub unreachable-requires : goal.unreachable-requires
unreachable-requires c =
    let file : List ℕ = demo_file c.args.number c.args.kind c.args.size in
    let loaded = c.demo_runs.ensures.loads c.args.number c.args.kind c.args.size c.requires in
    let same : c.deref.result.now ≡ file = c.deref.ensures.value ∙ c.in_ok-file.ensures in
    elim c.in-Err.ensures.err [
      | inl none ↦ first_of (cc, search rules, grind arith)
      | inr refused ↦ c.one_answer.ensures.not_both file [] loaded.0 c.in-Err.field-0 loaded.1 (subst (λ (f : List ℕ). Refused f c.in-Err.field-0) same refused)
    ]
