use Rattle.std.proofs.Common.{◌≡◌, map, length, sym, ap, ◌∙◌, subst, arith}
use Rattle.pil_ast.specs.Tree.{line, namespace}
use Rattle.pil_ast.specs.Order.{NamesInside}
use Rattle.pil_names.specs.Shown.{draft, outlined, home}
use Rattle.std.proofs.lemmas.List.{length-map}
use Rattle.pil_ast.specs.declared.tree.Space.{Space}
use Rattle.pil_cycles.specs.Cycles.{TellCycles}
use Rattle.pil_names.specs.declared.outline.Home as H
use Rattle.pil_text.specs.Cyclic.{IsLeastOf, IsFlagged}
use Rattle.pil_text.proofs.Spaces.{as_many, same_count, closed_here, home_found, all_found}
use Rattle.pil_text.proofs.cycles.least_cyclic.Goals as goal

pub bounds-spaces-space : goal.bounds-spaces-space
bounds-spaces-space c =
    let l = c.loop-space-test.true in
    let n = as_many (outlined c.args.outline.now) (c.meaning_is_reading.ensures.reading (outlined c.args.outline.now)) c.as_slice-homes.result.now c.as_slice-spaces.result.now (ap (map home) (sym c.as_slice-homes.ensures)) (ap (map namespace) c.as_slice-spaces.ensures ∙ c.requires.meant) in
    omega (arith, l, n)

pub on_cycles-requires-clause-few : goal.on_cycles-requires-clause-few
on_cycles-requires-clause-few c =
    let l = c.loop-space-test.true in
    let closed = closed_here (outlined c.args.outline.now) (c.meaning_is_reading.ensures.reading (outlined c.args.outline.now)) c.as_slice-homes.result.now c.as_slice-spaces.result.now (ap (map home) (sym c.as_slice-homes.ensures)) (ap (map namespace) c.as_slice-spaces.ensures ∙ c.requires.meant) c.loop-space.space c.index-spaces-space.result c.requires.closed l c.index-spaces-space.is in
    let items : c.as_slice.result.now ≡ c.index-spaces-space.result.items = c.as_slice.ensures ∙ ap (λ (x : Space). x.items) (sym c.index-spaces-space.is) in
    let few = closed.few in
    let long : length c.as_slice.result.now ≡ length (map line c.index-spaces-space.result.items) = ap length items ∙ sym (length-map c.index-spaces-space.result.items line) in
    omega (arith, few, long)

pub on_cycles-requires-clause-inside : goal.on_cycles-requires-clause-inside
on_cycles-requires-clause-inside c =
    let l = c.loop-space-test.true in
    let closed = closed_here (outlined c.args.outline.now) (c.meaning_is_reading.ensures.reading (outlined c.args.outline.now)) c.as_slice-homes.result.now c.as_slice-spaces.result.now (ap (map home) (sym c.as_slice-homes.ensures)) (ap (map namespace) c.as_slice-spaces.ensures ∙ c.requires.meant) c.loop-space.space c.index-spaces-space.result c.requires.closed l c.index-spaces-space.is in
    let items : c.as_slice.result.now ≡ c.index-spaces-space.result.items = c.as_slice.ensures ∙ ap (λ (x : Space). x.items) (sym c.index-spaces-space.is) in
    subst (λ xs. NamesInside (map line xs)) (sym items) closed.inside

pub least_flagged-requires : goal.least_flagged-requires
least_flagged-requires c =
    let l = c.loop-space-test.true in
    let items : c.as_slice.result.now ≡ c.index-spaces-space.result.items = c.as_slice.ensures ∙ ap (λ (x : Space). x.items) (sym c.index-spaces-space.is) in
    let drafts : c.as_slice-in-loop-space.result.now ≡ c.index-homes-space.result.items = c.as_slice-in-loop-space.ensures ∙ ap (λ (x : H.Home). x.items) (sym c.index-homes-space.is) in
    let same = same_count (outlined c.args.outline.now) (c.meaning_is_reading.ensures.reading (outlined c.args.outline.now)) c.as_slice-homes.result.now c.as_slice-spaces.result.now (ap (map home) (sym c.as_slice-homes.ensures)) (ap (map namespace) c.as_slice-spaces.ensures ∙ c.requires.meant) c.loop-space.space c.index-spaces-space.result c.index-homes-space.result l c.index-spaces-space.is c.index-homes-space.is in
    ap length c.deref.ensures.value ∙ c.in_ok-flags.ensures.long ∙ length-map c.as_slice.result.now line ∙ ap length items ∙ same ∙ ap length (sym drafts)

pub loop-space-preserved : goal.loop-space-preserved
loop-space-preserved c =
    let l = c.loop-space-test.true in
    let items : c.as_slice.result.now ≡ c.index-spaces-space.result.items = c.as_slice.ensures ∙ ap (λ (x : Space). x.items) (sym c.index-spaces-space.is) in
    let drafts : c.as_slice-in-loop-space.result.now ≡ c.index-homes-space.result.items = c.as_slice-in-loop-space.ensures ∙ ap (λ (x : H.Home). x.items) (sym c.index-homes-space.is) in
    let tells : TellCycles (map line c.index-spaces-space.result.items) c.deref.result.now = subst (λ xs. TellCycles (map line xs) c.deref.result.now) items (subst (λ fs. TellCycles (map line c.as_slice.result.now) fs) (sym c.deref.ensures.value) c.in_ok-flags.ensures) in
    home_found (outlined c.args.outline.now) (c.meaning_is_reading.ensures.reading (outlined c.args.outline.now)) c.as_slice-homes.result.now c.as_slice-spaces.result.now (ap (map home) (sym c.as_slice-homes.ensures)) (ap (map namespace) c.as_slice-spaces.ensures ∙ c.requires.meant) c.loop-space.space c.index-spaces-space.result c.index-homes-space.result c.deref.result.now c.loop-space.found c.least_flagged.result c.lesser-found.result l c.index-spaces-space.is c.index-homes-space.is tells
    (subst (λ ds. IsLeastOf (IsFlagged (map draft ds) c.deref.result.now (length ds)) c.least_flagged.result) drafts c.least_flagged.ensures) c.lesser-found.ensures c.loop-space.invariant

pub returns : goal.returns
returns c = all_found (outlined c.args.outline.now) (c.meaning_is_reading.ensures.reading (outlined c.args.outline.now)) c.as_slice-homes.result.now c.as_slice-spaces.result.now (ap (map home) (sym c.as_slice-homes.ensures)) (ap (map namespace) c.as_slice-spaces.ensures ∙ c.requires.meant) c.loop-space.space c.loop-space.found c.loop-space-test.false c.loop-space.invariant
