-- The laws of Shift over all rows.
use Rattle.std.proofs.Common.{ℕ, ◌^◌, ◌<◌, ◌≡◌, ◌≢◌, inl, inr, eqb, not, true, refl, ap, subst, sym, ◌∙◌}
use Rattle.std.specs.Prelude.{slice_index}
use Rattle.std.proofs.lemmas.Bool.{true≢false}
use Rattle.pil_ast.specs.Term.{item_at}
use Rattle.pil_ast.specs.Holds.{Holds}
use Rattle.pil_laws.proofs.Sent.{from_sent}
use Rattle.pil_laws.proofs.Lines.{space_holds, row_meets, all_hold}
use Rattle.zk_layout.specs.declared.air.Air.TheVariants as airs
use Rattle.step_rows.specs.Tuples.{IsOperationOf}
use Rattle.machine_text.specs.Shift.{items, operation}
use Rattle.air_ops.specs.Shift.{SendsOperations, HoldsFilled}
use Rattle.air_ops.proofs.ShiftLaws.{shift_sound}
use Rattle.air_ops.proofs.ShiftFilled.{shift_padding}
use Rattle.air_ops.proofs.ShiftTuple.{shift_complete}

set_from : (v : ℕ) → not (eqb v 0) ≡ true → v ≢ 0
set_from v h z = true≢false (sym h ∙ ap (λ v. not (eqb v 0)) z)

pub shift_tuples : SendsOperations
shift_tuples ns c t has holds sent small =
    let s = from_sent ns c operation t sent in
    let lines : (k : ℕ) → Holds ns c (item_at items k) = λ k. subst (λ n. Holds ns c (item_at n.items k)) has.stands (space_holds ns c holds 11 k) in
    let high : c.at 11 s.instance 6 s.row < 2 ^ 32 = subst (λ u. slice_index u 4 < 2 ^ 32) (sym s.is_tuple) small in
    subst (IsOperationOf airs.Shift) s.is_tuple (shift_sound ns c s.instance s.row has (row_meets ns c 11 items refl lines s.instance s.row s.is_instance s.is_row) (set_from _ s.is_selected) high)

pub shift_filled : HoldsFilled
shift_filled ns c has rows =
    all_hold ns c 11 items refl tt (λ i r m n. elim (rows i r m n) [
      | inl z ↦ shift_padding ns c i r has z
      | inr w ↦ (shift_complete ns c i r w.0 w.1 w.2 has w.3 w.4 w.5 w.6).0
    ])
