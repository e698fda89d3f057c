use Rattle.std.proofs.Common.{◌≡◌, ap, sym, ◌∙◌, arith}
use Rattle.std.specs.Arc.{arc_value}
use Rattle.rv_model.specs.Image.{Img, initial_word}
use Rattle.mem_pages.specs.Memory.{word_of}
use Rattle.rv_emu.proofs.Answers.{begins}
use Rattle.rv_emu.proofs.emu.Emu.new.Goals as goal

pub invariant_of-result : goal.invariant_of-result
invariant_of-result c =
    let entry = ap (λ (i : Img). i.entry) (c.behind-image.view_is ∙ c.deref.ensures) in
    let memory : word_of c.in_ok-memory.memory ≡ initial_word (arc_value c.args.image) = c.in_ok-memory.ensures in
    begins (arc_value c.args.image) c.args.limit _ (word_of c.in_ok-memory.memory) _ (omega arith) entry memory c.in_ok-olds.ensures.items
