use Rattle.std.proofs.Common.{not, ap, ◌∙◌, sym}
use Rattle.pil_names.specs.Least.{least}
use Rattle.pil_names.specs.Wrongs.{unless}
use Rattle.pil_names.specs.Shown.{outlined}
use Rattle.pil_meaning.proofs.Doubles.{double-is}
use Rattle.pil_meaning.proofs.double.double_at.Goals as goal

pub returns-then-is_marked : goal.returns-then-is_marked
returns-then-is_marked c =
    ap (λ b. least (unless (not b) c.args.at)) (sym c.if-is_marked.true)
    ∙ ap least (double-is (outlined c.args.outline.now) c.args.marks.now c.requires.marks c.args.home c.args.reference.now c.args.at c.home.result c.unwrap_or-space.result c.in-Some.item c.is_marked.result c.home.ensures c.unwrap_or-space.ensures c.in-Some.ensures c.is_marked.ensures)

pub returns-else-is_marked : goal.returns-else-is_marked
returns-else-is_marked c =
    ap (λ b. least (unless (not b) c.args.at)) (sym c.if-is_marked.false)
    ∙ ap least (double-is (outlined c.args.outline.now) c.args.marks.now c.requires.marks c.args.home c.args.reference.now c.args.at c.home.result c.unwrap_or-space.result c.in-Some.item c.is_marked.result c.home.ensures c.unwrap_or-space.ensures c.in-Some.ensures c.is_marked.ensures)
