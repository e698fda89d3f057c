use Rattle.std.proofs.Common.{List, ◌++◌, map, filter, take, ap, sym, ◌∙◌, arith}
use Rattle.pil_ast.specs.declared.tree.Item.{Item}
use Rattle.pil_ast.specs.Tree.{line, namespace}
use Rattle.pil_ast.specs.Term.{Line, Namespace}
use Rattle.pil_print.specs.Statements.{is_public, published}
use Rattle.pil_print.proofs.Texts.{flat-one-more}
use Rattle.pil_print.proofs.tables.publics.Goals as goal

pub loop-space-preserved : goal.loop-space-preserved
loop-space-preserved c =
    let xs = c.args.spaces.now in
    let i = c.loop-space.space-index in
    c.in_ok-add_publics.ensures
    ∙ (ap (λ (s : List Line). s ++ filter is_public (map line c.as_slice.result.now)) c.loop-space.invariant
    ∙ (ap (λ (s : List Item). published (map namespace (take i xs)) ++ filter is_public (map line s)) c.as_slice.ensures
    ∙ sym (flat-one-more (λ (n : Namespace). filter is_public n.items) namespace xs i c.space-item.result (omega arith) c.space-item.is)))
