-- No identity of Binary wraps.
use Rattle.std.proofs.Common.{inl, inr, [], ◌∷◌, refl}
use Rattle.std.proofs.lemmas.Bool.{cases_eq}
use Rattle.pil_ast.specs.Value.{around}
use Rattle.pil_ast.specs.Holds.{sent}
use Rattle.pil_exact.proofs.Row.{is, row_at, exact_lines, equation}
use Rattle.pil_ast.specs.Term.{item_at}
use Rattle.air_ops.proofs.BinarySelected.{says, row}
use Rattle.machine_text.specs.Binary.{items}
use Rattle.air_ops.specs.Binary.{IsExact}

pub binary_exact : IsExact
binary_exact ns c i r has meets k =
    elim (cases_eq (c.at 10 i 0 r) 0) [
      | inl z ↦ exact_lines (row_at items ns c 10 i r ((0, is 0) ∷ []) has.in_field (z, tt)) items refl (λ k. equation items (around ns c 10 i r) (sent ns c) (item_at items k) (says ns c i r has meets k)) k
      | inr on ↦ exact_lines (row ns c i r has meets on) items refl (λ k. equation items (around ns c 10 i r) (sent ns c) (item_at items k) (says ns c i r has meets k)) k
    ]
