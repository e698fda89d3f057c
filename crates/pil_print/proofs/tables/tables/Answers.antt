use Rattle.std.proofs.Common.{◌<◌, List, [], ◌∷◌, map, length, slice_get, ap, sym, ◌∙◌, subst, arith, inl, inr, length-append}
use Rattle.std.proofs.lemmas.List.{length-map}
use Rattle.pil_ast.specs.declared.tree.Item.{Item}
use Rattle.pil_ast.specs.Tree.{line, namespace}
use Rattle.pil_ast.specs.Term.{Namespace, space_at, width}
use Rattle.pil_print.specs.declared.tables.Columns.{Columns}
use Rattle.pil_print.specs.Statements.{declared}
use Rattle.pil_print.specs.Tables.{IsTable}
use Rattle.pil_print.proofs.Starts.{space-here, get-pushed}
use Rattle.pil_print.proofs.tables.tables.Goals as goal

pub table-requires : goal.table-requires
table-requires c =
    let i = c.loop-space.space-index in
    let inside : i < length (map namespace c.args.spaces.now) = omega (arith, length-map c.args.spaces.now namespace) in
    let here = space-here namespace c.args.spaces.now i c.space-item.result (omega arith) c.space-item.is in
    subst (λ (xs : List Item). width (map line xs) < 4294967296) (sym c.as_slice.ensures)
    (subst (λ (n : Namespace). width n.items < 4294967296) here (c.limit_laws.ensures.columns (map namespace c.args.spaces.now) i c.requires inside))

pub loop-space-preserved : goal.loop-space-preserved
loop-space-preserved c =
    let i = c.loop-space.space-index in
    let ns = map namespace c.args.spaces.now in
    let t = c.in_ok-table.field-0 in
    let here = space-here namespace c.args.spaces.now i c.space-item.result (omega arith) c.space-item.is in
    let mine : IsTable (declared (space_at ns i).items) t
    = subst (λ (n : Namespace). IsTable (declared n.items) t) (sym here) (subst (λ (xs : List Item). IsTable (declared (map line xs)) t) c.as_slice.ensures c.in_ok-table.ensures) in
    record {
      long = omega (arith, ap length c.in_ok-push.ensures.ok, length-append c.loop-space.tables (t ∷ []), c.loop-space.invariant.long);
      each = λ s x h. elim (get-pushed c.loop-space.tables t x s (sym (ap (λ (ts : List Columns). slice_get ts s) c.in_ok-push.ensures.ok) ∙ h)) [
        | inl a ↦ c.loop-space.invariant.each s x a
        | inr b ↦ subst (λ k. IsTable (declared (space_at ns k).items) x) (sym (b.0 ∙ c.loop-space.invariant.long)) (subst (IsTable (declared (space_at ns i).items)) b.1 mine)
      ];
    }
