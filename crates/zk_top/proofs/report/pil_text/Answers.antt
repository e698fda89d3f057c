use Rattle.std.proofs.Common.{◌<◌, ◌++◌, codes, length, map, flat_map, get_or, sym, ◌∙◌, ap, subst, All}
use Rattle.pil_ast.specs.Tree.{line, namespace, namespaces}
use Rattle.pil_ast.specs.Term.{Line, Namespace}
use Rattle.pil_laws.proofs.Loops.{mapped-at, pieces-more}
use Rattle.zk_top.specs.Outcome.{public_line}
use Rattle.zk_top.specs.Parts.{IsPublicIn}
use Rattle.zk_top.proofs.Publics.{publics_in}
use Rattle.zk_top.proofs.report.pil_text.Goals as goal

pub push_publics-requires : goal.push_publics-requires
push_publics-requires g c =
    let spaces = c.args.pil.now.spaces in
    let values = g.C.Columns.values c.args.columns.now in
    let within : c.loop-space.space-index < length spaces = subst (λ all. c.loop-space.space-index < length all) c.as_slice-space-items.ensures c.loop-space-test.true in
    let at = c.space-item.is ∙ ap (λ all. get_or all c.loop-space.space-index c.space-item.result) c.as_slice-space-items.ensures in
    subst (All (IsPublicIn values)) (sym (ap (map line) c.as_slice.ensures))
    (mapped-at namespace (λ n. All (IsPublicIn values) n.items) spaces c.loop-space.space-index c.space-item.result within at (publics_in (namespaces c.args.pil.now) values c.requires.sound c.requires.fits))

pub loop-space-preserved : goal.loop-space-preserved
loop-space-preserved g c =
    let spaces = c.args.pil.now.spaces in
    let f : Line → _ = public_line (g.C.Columns.values c.args.columns.now) in
    let within : c.loop-space.space-index < length spaces = subst (λ all. c.loop-space.space-index < length all) c.as_slice-space-items.ensures c.loop-space-test.true in
    let at = c.space-item.is ∙ ap (λ all. get_or all c.loop-space.space-index c.space-item.result) c.as_slice-space-items.ensures in
    pieces-more namespace spaces c.loop-space.space-index c.space-item.result within at (λ (n : Namespace). flat_map f n.items)
    (codes "accepted\n") _ _ c.loop-space.invariant (c.in_ok-push_publics.ensures ∙ ap (λ items. c.loop-space.text.items ++ flat_map f (map line items)) c.as_slice.ensures)
