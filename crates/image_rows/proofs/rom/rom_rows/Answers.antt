use Rattle.std.proofs.Common.{◌≡◌, ◌+◌, ◌*◌, ◌^◌, ◌≤◌, ◌<◌, ◌⊎◌, inl, inr, ⊎_elim, ℕ, max, List, length, get_or, true, false, arith, subst, ap, sym, ◌∙◌}
use Rattle.std.specs.Prelude.{All, AllPairs}
use Rattle.rv_model.specs.Image.{Img, Seg, EndsBefore, IsLoadable}
use Rattle.rv_model.specs.declared.machine.TheConstants.{MEMORY_END}
use Rattle.step_rows.specs.declared.rom_row.RomRow.{RomRow}
use Rattle.image_rows.proofs.RomRows.{few_rows, rows_in_memory}
use Rattle.image_rows.specs.Found.{HasAllRows, first_word, end_word}
use Rattle.image_rows.proofs.Words.{IsPast, none_past, none_to_segment, below_first, past_executable, past_other, rows_same, all_rows, no_rows}
use Rattle.image_rows.proofs.rom.rom_rows.Goals as goal
use Rattle.image_rows.proofs.rom.rom_rows.Goals.{then-segment+in_ok-add_rows, else-segment}

pub loop-segment-init : goal.loop-segment-init
loop-segment-init c = record {
  below = 0;
  found = no_rows c.args.image.now c.new-rows.result.items c.new-rows.ensures.items;
  most = omega arith;
  past = λ j d lt. absurd (omega arith);
  before = λ j d low lt. omega arith;
}

pub add_rows-requires-clause-found : goal.add_rows-requires-clause-found
add_rows-requires-clause-found c =
    let v = c.loop-segment.invariant in
    let items = c.deref-segment-items.result.now in
    let past : IsPast c.args.image.now items c.loop-segment.segment-index v.below = record {
      same = c.deref-segment-items.ensures.value ∙ ap (λ (i : Img). i.segments) c.image.view_is;
      ascending = let P : List Seg → Type 0 = λ l. AllPairs EndsBefore l in subst P (sym c.deref-segment-items.ensures.value) c.image.invariant.loadable.ascending;
      past = v.past;
      before = v.before;
    } in
    let e = c.first_word.ensures in
    let first = below_first c.args.image.now items c.loop-segment.segment-index v.below past c.segment-item.result c.loop-segment-test.true c.segment-item.is in
    rows_same c.args.image.now c.loop-segment.rows.items v.below c.first_word.result (omega arith) v.found
    (λ k low high. none_to_segment c.args.image.now items c.loop-segment.segment-index v.below past c.segment-item.result c.loop-segment-test.true c.segment-item.is k low (omega arith))

pub loop-segment-preserved : goal.loop-segment-preserved
loop-segment-preserved c =
    let v = c.loop-segment.invariant in
    let items = c.deref-segment-items.result.now in
    let s = c.segment-item.result in
    let past : IsPast c.args.image.now items c.loop-segment.segment-index v.below = record {
      same = c.deref-segment-items.ensures.value ∙ ap (λ (i : Img). i.segments) c.image.view_is;
      ascending = let P : List Seg → Type 0 = λ l. AllPairs EndsBefore l in subst P (sym c.deref-segment-items.ensures.value) c.image.invariant.loadable.ascending;
      past = v.past;
      before = v.before;
    } in
    elim c.if-segment.branch [
      | then-segment+in_ok-add_rows w ↦
          let fits : length c.segment-item.result.bytes ≤ c.segment-item.result.len =
          let P : Seg → Type 0 = λ x. length x.bytes ≤ x.len in subst P c.segment.view_is c.segment.invariant.bytes_fit in
          let next = past_executable c.args.image.now items c.loop-segment.segment-index v.below past c.segment-item.result c.loop-segment-test.true c.segment-item.is fits in
          rw w.rows-is (record {
            below = max (first_word c.segment-item.result) (end_word c.segment-item.result);
            found = rw (sym w.first_word.ensures, sym w.end_word.ensures.value) w.in_ok-add_rows.ensures;
            most =
                let P : Seg → Type 0 = λ x. x.start + x.len ≤ MEMORY_END in
                let below : c.segment-item.result.start + c.segment-item.result.len ≤ MEMORY_END = subst P c.segment.view_is c.segment.invariant.below in
                let Q : Seg → Type 0 = λ x. 0 < x.len in
                let some : 0 < c.segment-item.result.len = subst Q c.segment.view_is c.segment.invariant.some in
                omega arith;
            past = next.past;
            before = next.before;
          })
      | else-segment w ↦
          let no : c.segment-item.result.exec ≡ false = ap (λ (x : Seg). x.exec) (sym c.segment.view_is) ∙ w.if-segment.false in
          let next = past_other c.args.image.now items c.loop-segment.segment-index v.below past c.segment-item.result c.loop-segment-test.true c.segment-item.is no in
          rw w.rows-is (record { below = v.below; found = v.found; most = v.most; past = next.past; before = next.before })
    ]

pub returns : goal.returns
returns c =
    let v = c.loop-segment.invariant in
    let items = c.deref-segment-items.result.now in
    let past : IsPast c.args.image.now items c.loop-segment.segment-index v.below = record {
      same = c.deref-segment-items.ensures.value ∙ ap (λ (i : Img). i.segments) c.image.view_is;
      ascending = let P : List Seg → Type 0 = λ l. AllPairs EndsBefore l in subst P (sym c.deref-segment-items.ensures.value) c.image.invariant.loadable.ascending;
      past = v.past;
      before = v.before;
    } in
    let e = all_rows c.args.image.now c.loop-segment.rows.items v.below v.most v.found (none_past c.args.image.now items c.loop-segment.segment-index v.below past c.loop-segment-test.false) in
    record {
      value = e;
      few = let P : List RomRow → Type 0 = λ l. length l ≤ 2 ^ 30 in subst P (sym e) (few_rows c.args.image.now);
      in_memory =
          let P : List RomRow → Type 0 = λ l. All (λ (row : RomRow). row.pc < MEMORY_END) l in
          let Q : Img → Type 0 = IsLoadable in
          subst P (sym e) (rows_in_memory c.args.image.now (subst Q c.image.view_is c.image.invariant.loadable));
    }
