-- The laws of Align over all rows.
use Rattle.std.proofs.Common.{ℕ, ◌≡◌, ◌≢◌, inl, inr, eqb, not, true, refl, sym, ap, subst, ◌∙◌}
use Rattle.std.proofs.lemmas.Bool.{true≢false}
use Rattle.pil_ast.specs.Term.{item_at}
use Rattle.pil_ast.specs.Holds.{Holds}
use Rattle.pil_laws.proofs.Sent.{from_sent}
use Rattle.pil_laws.proofs.Lines.{space_holds, row_meets, all_hold}
use Rattle.machine_text.specs.Align.{items, access}
use Rattle.step_rows.specs.Tuples.{IsAccess}
use Rattle.air_align.specs.Laws.{AlignSent, AlignFilled}
use Rattle.air_align.proofs.Aligns.{align_sound}
use Rattle.air_align.proofs.Complete.{align_padding}
use Rattle.air_align.proofs.Tuple.{align_complete}

is_set : (v : ℕ) → not (eqb v 0) ≡ true → v ≢ 0
is_set v h z = true≢false (sym h ∙ ap (λ v. not (eqb v 0)) z)

pub align_sent : AlignSent
align_sent ns c t has holds sent =
    let s = from_sent ns c access t sent in
    let lines : (k : ℕ) → Holds ns c (item_at items k) = λ k. subst (λ n. Holds ns c (item_at n.items k)) has.stands (space_holds ns c holds 9 k) in
    subst IsAccess s.is_tuple (align_sound ns c s.instance s.row has (row_meets ns c 9 items refl lines s.instance s.row s.is_instance s.is_row) (is_set _ s.is_selected))

pub align_filled : AlignFilled
align_filled ns c has rows =
    all_hold ns c 9 items refl tt (λ i r m n. elim (rows i r m n) [
      | inl z ↦ align_padding ns c i r has z
      | inr w ↦ (align_complete ns c i r w.0 w.1 w.2 w.3 has w.4 w.5 w.6 w.7 w.8).0
    ])
