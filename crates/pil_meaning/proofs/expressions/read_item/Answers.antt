use Rattle.std.proofs.Common.{◌+◌, ap, ◌∙◌, arith}
use Rattle.pil_ast.specs.Term.{mid, col}
use Rattle.pil_names.specs.Shown.{outlined}
use Rattle.pil_meaning.specs.Meaning.{column_number, number_or_zero}
use Rattle.pil_meaning.proofs.Numbering.{column-read, other-read}
use Rattle.pil_meaning.proofs.expressions.read_item.Goals as goal

pub element-requires : goal.element-requires
element-requires c =
    omega (arith, c.requires.fits, ap column_number (column-read (outlined c.args.outline.now) c.args.firsts.now c.args.space c.args.item c.in-Some.first c.args.reference.now c.requires.firsts c.in-Some.ensures))

pub returns-in-Some : goal.returns-in-Some
returns-in-Some c =
    c.element.ensures
    ∙ ap (λ b. col c.args.space (c.in-Some.first + number_or_zero c.args.reference.now.index) b) c.is_some-next.ensures
    ∙ column-read (outlined c.args.outline.now) c.args.firsts.now c.args.space c.args.item c.in-Some.first c.args.reference.now c.requires.firsts c.in-Some.ensures

pub returns-in-None : goal.returns-in-None
returns-in-None c =
    c.inter.ensures
    ∙ ap (λ b. mid c.args.space c.args.item b) c.is_some-next.ensures
    ∙ other-read (outlined c.args.outline.now) c.args.firsts.now c.args.space c.args.item c.args.reference.now c.requires.firsts c.in-None.ensures
