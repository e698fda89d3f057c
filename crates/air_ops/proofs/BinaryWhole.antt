-- The laws of Binary over all rows.
use Rattle.std.proofs.Common.{ℕ, ◌≡◌, ◌≢◌, inl, inr, eqb, not, true, refl, ap, subst, sym, ◌∙◌}
use Rattle.std.proofs.lemmas.Bool.{true≢false}
use Rattle.pil_ast.specs.Term.{item_at}
use Rattle.pil_ast.specs.Holds.{Holds}
use Rattle.pil_laws.proofs.Sent.{from_sent}
use Rattle.pil_laws.proofs.Lines.{space_holds, row_meets, all_hold}
use Rattle.air_ops.proofs.BinarySound.{binary_sound}
use Rattle.air_ops.proofs.BinaryComplete.{binary_complete, binary_padding}
use Rattle.machine_text.specs.Binary.{items, operation}
use Rattle.zk_layout.specs.declared.air.Air.TheVariants as airs
use Rattle.step_rows.specs.Tuples.{IsOperationOf}
use Rattle.air_ops.specs.Binary.{SendsOperations, HoldsFilled}

set_from : (v : ℕ) → not (eqb v 0) ≡ true → v ≢ 0
set_from v h z = true≢false (sym h ∙ ap (λ v. not (eqb v 0)) z)

pub binary_tuples : SendsOperations
binary_tuples ns c t has holds sent =
    let s = from_sent ns c operation t sent in
    let lines : (k : ℕ) → Holds ns c (item_at items k) = λ k. subst (λ n. Holds ns c (item_at n.items k)) has.stands (space_holds ns c holds 10 k) in
    subst (IsOperationOf airs.Binary) s.is_tuple (binary_sound ns c s.instance s.row has (row_meets ns c 10 items refl lines s.instance s.row s.is_instance s.is_row) (set_from _ s.is_selected))

pub binary_filled : HoldsFilled
binary_filled ns c has rows =
    all_hold ns c 10 items refl tt (λ i r m n. elim (rows i r m n) [
      | inl z ↦ binary_padding ns c i r has z
      | inr w ↦ (binary_complete ns c i r w.0 w.1 w.2 has w.3 w.4 w.5 w.6).0
    ])
