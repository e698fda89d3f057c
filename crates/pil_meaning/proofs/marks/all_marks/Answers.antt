use Rattle.std.proofs.Common.{◌≡◌, ◌<◌, ◌≤◌, List, length, get_or, map, sym, ap, subst, ◌∙◌, arith}
use Rattle.std.proofs.lemmas.List.{length-map}
use Rattle.std.proofs.lemmas.List.Elements.{All-get_or}
use Rattle.pil_ast.specs.declared.tree.Space.{Space}
use Rattle.pil_ast.specs.declared.tree.Item.{Item}
use Rattle.pil_ast.specs.Term.{Namespace}
use Rattle.pil_ast.specs.Tree.{line, namespace}
use Rattle.pil_meaning.specs.Marks.{AreMarks, IsWritable}
use Rattle.pil_meaning.proofs.Mapped.{all-mapped}
use Rattle.pil_meaning.proofs.Marking.{first-marks-more, first-marks-all, space-here}
use Rattle.pil_meaning.proofs.marks.all_marks.Goals as goal

pub marks_of-requires : goal.marks_of-requires
marks_of-requires c =
    let all = c.as_slice-space-items.result.now in
    let i = c.loop-space.space-index in
    let x = c.space-item.result in
    let each = all-mapped (λ (n : Namespace). IsWritable n.items) namespace c.args.pil.now.spaces c.requires in
    let within : i < length c.args.pil.now.spaces = subst (λ (s : List Space). i < length s) c.as_slice-space-items.ensures c.loop-space-test.true in
    let here : x ≡ get_or c.args.pil.now.spaces i x = c.space-item.is ∙ ap (λ (s : List Space). get_or s i x) c.as_slice-space-items.ensures in
    subst (λ (s : List Item). IsWritable (map line s)) (sym c.as_slice.ensures)
    (subst (λ (s : Space). IsWritable (namespace s).items) (sym here) (All-get_or (λ (s : Space). IsWritable (namespace s).items) c.args.pil.now.spaces i x within each))

pub loop-space-preserved : goal.loop-space-preserved
loop-space-preserved c =
    let spaces = c.args.pil.now.spaces in
    let i = c.loop-space.space-index in
    let x = c.space-item.result in
    let at = space-here spaces c.as_slice-space-items.result.now i x c.as_slice-space-items.ensures c.loop-space-test.true c.space-item.is in
    let here : AreMarks (map line x.items) c.in_ok-marks_of.field-0 = subst (λ (s : List Item). AreMarks (map line s) c.in_ok-marks_of.field-0) c.as_slice.ensures c.in_ok-marks_of.ensures in
    first-marks-more (map namespace spaces) i c.loop-space.marks c.push.new.self c.in_ok-marks_of.field-0 c.loop-space.invariant (subst (λ (n : Namespace). AreMarks n.items c.in_ok-marks_of.field-0) (sym at) here) c.in_ok-push.ensures.ok

pub returns : goal.returns
returns c =
    let spaces = c.args.pil.now.spaces in
    let long : length (map namespace spaces) ≤ c.loop-space.space-index = omega (arith, length-map spaces namespace, ap length c.as_slice-space-items.ensures, c.loop-space-test.false) in
    first-marks-all (map namespace spaces) c.loop-space.space-index c.loop-space.marks c.loop-space.invariant long
