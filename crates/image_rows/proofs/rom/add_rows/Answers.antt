use Rattle.std.proofs.Common.{◌≡◌, ◌≤◌, ◌++◌, ℕ, [], ◌∷◌, None, Some, max, arith, subst, ap, sym, ◌∙◌, refl}
use Rattle.std.proofs.lemmas.List.{append-nil}
use Rattle.image_rows.specs.Found.{HasAllRows}
use Rattle.image_rows.proofs.Words.{row_found, rows_same}
use Rattle.image_rows.proofs.rom.add_rows.Goals as goal
use Rattle.image_rows.proofs.rom.add_rows.Goals.{in-Some+in_ok-push, in_default}

pub loop-k-preserved : goal.loop-k-preserved
loop-k-preserved c =
    let h = c.loop-k.invariant in
    let image = c.args.image.now in
    elim c.match-row_at.branch [
      | in-Some+in_ok-push w ↦ rw w.rows-is (record {
        found = row_found image c.loop-k.rows.items _ c.loop-k.k (Some w.in-Some.row) h.found w.in-Some.ensures w.in_ok-push.ensures.items;
        at_most = omega arith;
      })
      | in_default w ↦ rw w.rows-is (record {
        found = row_found image c.loop-k.rows.items c.loop-k.rows.items c.loop-k.k None h.found (sym w.in_default.is ∙ c.row_at.ensures) (sym (append-nil c.loop-k.rows.items));
        at_most = omega arith;
      })
    ]

pub returns : goal.returns
returns c =
    let h = c.loop-k.invariant in
    let e : c.loop-k.k ≡ max c.args.from c.args.to = omega arith in
    let P : ℕ → Type 0 = λ n. HasAllRows c.args.image.now c.loop-k.rows.items n in
    subst P e h.found
