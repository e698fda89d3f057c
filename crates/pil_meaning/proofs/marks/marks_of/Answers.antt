use Rattle.std.proofs.Common.{ℕ, ◌≡◌, List, get_or, set, map, take, slice_index_or, false, not, sym, subst, arith}
use Rattle.std.proofs.lemmas.List.{get_or_default, take_all}
use Rattle.pil_ast.specs.declared.turns.Turn.{Turn}
use Rattle.pil_ast.specs.Term.{Line}
use Rattle.pil_ast.specs.Tree.{line}
use Rattle.pil_ast.specs.Turns.{items_of, IsPlan}
use Rattle.pil_meaning.specs.Marks.{AreMarks}
use Rattle.pil_meaning.proofs.Marking.{Marks, marks-more, marks-all, turned-more, turn-is}
use Rattle.pil_meaning.proofs.marks.marks_of.Goals as goal

pub index_mut-requires : goal.index_mut-requires
index_mut-requires c =
    let items : List Line = map line c.args.items.now in
    let ts : List Turn = c.as_slice-turn-items.result.now in
    let i = c.loop-turn.turn-index in
    let t : Turn = slice_index_or ts i record { item = 0; ahead = false } in
    let here : t ≡ get_or ts i t = get_or_default ts i (record { item = 0; ahead = false }) t c.loop-turn-test.true in
    omega (arith, (turn-is items ts i t (subst (IsPlan items) (sym c.as_slice-turn-items.ensures) c.in_ok-turns.ensures) c.loop-turn-test.true here).within, c.loop-turn.invariant.long)

pub loop-turn-preserved : goal.loop-turn-preserved
loop-turn-preserved c =
    let items : List Line = map line c.args.items.now in
    let ts : List Turn = c.as_slice-turn-items.result.now in
    let i = c.loop-turn.turn-index in
    let t : Turn = slice_index_or ts i record { item = 0; ahead = false } in
    let here : t ≡ get_or ts i t = get_or_default ts i (record { item = 0; ahead = false }) t c.loop-turn-test.true in
    let turn = turn-is items ts i t (subst (IsPlan items) (sym c.as_slice-turn-items.ensures) c.in_ok-turns.ensures) c.loop-turn-test.true here in
    subst (λ (ks : List ℕ). Marks items ks (set c.loop-turn.marks.items t.item (not t.ahead))) (sym (turned-more ts i t c.loop-turn-test.true here))
    (marks-more items (items_of (take i ts)) c.loop-turn.marks.items t.item (not t.ahead) c.loop-turn.invariant turn.within turn.mark)

pub returns : goal.returns
returns c =
    let items : List Line = map line c.args.items.now in
    let ts : List Turn = c.as_slice-turn-items.result.now in
    let i = c.loop-turn.turn-index in
    let plan = subst (IsPlan items) (sym c.as_slice-turn-items.ensures) c.in_ok-turns.ensures in
    let marks : Marks items (items_of ts) c.loop-turn.marks.items = subst (λ (us : List Turn). Marks items (items_of us) c.loop-turn.marks.items) (take_all i ts c.loop-turn-test.false) c.loop-turn.invariant in
    subst (AreMarks items) (sym c.from_vec.ensures) (marks-all items (items_of ts) c.loop-turn.marks.items marks plan.whole.all)
