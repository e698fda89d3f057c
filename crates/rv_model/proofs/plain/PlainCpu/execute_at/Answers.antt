use Rattle.std.proofs.Common.{◌≡◌, ◌/◌, ◌%◌, ℕ, List, Some, true, sym, subst, ◌∙◌}
use Rattle.rv_model.specs.Image.{Img, initial_word}
use Rattle.rv_model.specs.State.{executed, with_word}
use Rattle.rv_model.specs.Align.{aligned}
use Rattle.rv_model.specs.Cpu.{access, is_store}
use Rattle.rv_model.specs.Plain.{word_of, state_of, Leads}
use Rattle.rv_model.proofs.Steps.{plain, step_store}
use Rattle.rv_model.proofs.plain.PlainCpu.execute_at.Goals as goal

pub returns-in_ok-set_word-clause-ok : goal.returns-in_ok-set_word-clause-ok
returns-in_ok-set_word-clause-ok c =
    let image : Img = c.self.inside.image.now in
    let words : List (ℕ × ℕ) = c.self.inside.words.entries in
    let written : List (ℕ × ℕ) = c.set_word.new.words.entries in
    let touch = c.args.touch.now in
    let old : ℕ = c.word-old.result in
    let is : access c.args.instr.now (state_of (plain image c.self.inside.cpu words)) ≡ Some touch = subst (λ m. access c.args.instr.now (state_of m) ≡ Some touch) (sym c.self.view_is) c.requires.access in
    let here : old ≡ word_of image words (touch.address / 8) = rw c.index-index.ensures.index at c.word-old.ensures in
    let store_is : is_store c.args.instr.now ≡ true = sym c.is_store.ensures ∙ c.if-is_store.true in
    let each : (k : ℕ) → word_of image written k ≡ with_word (word_of image words) (touch.address / 8) (aligned touch.kind (touch.address % 8) old touch.value) k =
    λ k. rw (c.index-index.ensures.index, c.result.ensures.aligned) at (c.in_ok-set_word.ensures.ok (initial_word image) k) in
    subst (λ m. Leads (executed c.args.instr.now (state_of m)) c.apply.result m (plain image c.apply.new.self written)) c.self.view_is
    (step_store c.args.instr.now image c.self.inside.cpu c.apply.new.self words written c.apply.result touch old is c.requires.good store_is here each c.apply.ensures.does)
