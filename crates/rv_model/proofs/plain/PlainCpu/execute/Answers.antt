use Rattle.std.proofs.Common.{◌≡◌, ℕ, List, Some, true, false, sym, subst, ◌∙◌}
use Rattle.rv_model.specs.Image.{Img}
use Rattle.rv_model.specs.State.{executed}
use Rattle.rv_model.specs.Cpu.{access, IsGood}
use Rattle.rv_model.specs.Plain.{word_of, state_of, Leads}
use Rattle.rv_model.proofs.Steps.{plain, step_bad}
use Rattle.rv_model.proofs.plain.PlainCpu.execute.Goals as goal

pub returns-then-not-is_good-clause-ok : goal.returns-then-not-is_good-clause-ok
returns-then-not-is_good-clause-ok c =
    let image : Img = c.self.inside.image.now in
    let words : List (ℕ × ℕ) = c.self.inside.words.entries in
    let is : access c.args.instr.now (state_of (plain image c.self.inside.cpu words)) ≡ Some c.in-Some.touch = sym (c.access.ensures (word_of image words)) ∙ c.in-Some.is in
    let bad : IsGood c.in-Some.touch → ⊥ = λ good. let clash : false ≡ true = sym c.if-not-is_good.true ∙ c.is_good.ensures.1 good in cc in
    subst (λ m. Leads (executed c.args.instr.now (state_of m)) c.apply-then-not-is_good.result m (plain image c.apply-then-not-is_good.new.self words)) c.self.view_is
    (step_bad c.args.instr.now image c.self.inside.cpu c.apply-then-not-is_good.new.self words c.apply-then-not-is_good.result c.in-Some.touch is bad c.apply-then-not-is_good.ensures.does c.apply-then-not-is_good.ensures.kept)
