-- The laws of Arith.
use Rattle.std.proofs.Common.{ℕ, zero, suc, ◌<◌, ◌≤◌, ◌≡◌, inl, inr, true, List, [], ◌∷◌, map, refl, sym, subst, arith as numbers}
use Rattle.std.proofs.lemmas.Bool.{cases_eq}
use Rattle.pil_ast.specs.Value.{Cells, value, around}
use Rattle.pil_exact.proofs.Row.{row_at, Fact, is, AllMeet, here, exact_lines, all_settled}
use Rattle.pil_exact.proofs.Flags.{flags}
use Rattle.air_arith.proofs.Operation.{IsOf}
use Rattle.machine_text.specs.Arith.{items, operation, op, alo, ahi, blo, bhi, clo, chi}
use Rattle.zk_layout.specs.declared.air.Air.TheVariants as airs
use Rattle.step_rows.specs.Tuples.{IsOperationOf}
use Rattle.air_arith.specs.Laws.{ArithSound, ArithExact}
use Rattle.air_arith.proofs.Numbered.{products_and_quotients}
use Rattle.air_arith.proofs.Exactly.{is_operation}
use Rattle.air_arith.proofs.Known.{Selected, selected, all_sides, told, base, one_flag}
use Rattle.air_arith.proofs.Rows.{Op}
use Rattle.air_arith.proofs.Mul.{mul, mulhu, mulw}
use Rattle.air_arith.proofs.Mulh.{mulh}
use Rattle.air_arith.proofs.Mulhsu.{mulhsu}
use Rattle.air_arith.proofs.Div.{div}
use Rattle.air_arith.proofs.Divu.{divu}
use Rattle.air_arith.proofs.Rem.{rem}
use Rattle.air_arith.proofs.Remu.{remu}
use Rattle.air_arith.proofs.Divw.{divw}
use Rattle.air_arith.proofs.Divuw.{divuw}
use Rattle.air_arith.proofs.Remw.{remw}
use Rattle.air_arith.proofs.Remuw.{remuw}

too_many : (k : ℕ) → suc (suc (suc (suc (suc (suc (suc (suc (suc (suc (suc (suc (suc k)))))))))))) < 13 → ⊥
too_many k l = omega numbers

module _ (x : Cells) where
  abbrev pub IsTuple : Type 0
  IsTuple = IsOf products_and_quotients (value items x op) (value items x alo) (value items x ahi) (value items x blo) (value items x bhi) (value items x clo) (value items x chi) 0

  by_flag : (k : ℕ) → k < 13 → Op x k → IsTuple
  by_flag zero l o = mul x o
  by_flag (suc zero) l o = mulh x o
  by_flag (suc (suc zero)) l o = mulhsu x o
  by_flag (suc (suc (suc zero))) l o = mulhu x o
  by_flag (suc (suc (suc (suc zero)))) l o = div x o
  by_flag (suc (suc (suc (suc (suc zero))))) l o = divu x o
  by_flag (suc (suc (suc (suc (suc (suc zero)))))) l o = rem x o
  by_flag (suc (suc (suc (suc (suc (suc (suc zero))))))) l o = remu x o
  by_flag (suc (suc (suc (suc (suc (suc (suc (suc zero)))))))) l o = mulw x o
  by_flag (suc (suc (suc (suc (suc (suc (suc (suc (suc zero))))))))) l o = divw x o
  by_flag (suc (suc (suc (suc (suc (suc (suc (suc (suc (suc zero)))))))))) l o = divuw x o
  by_flag (suc (suc (suc (suc (suc (suc (suc (suc (suc (suc (suc zero))))))))))) l o = remw x o
  by_flag (suc (suc (suc (suc (suc (suc (suc (suc (suc (suc (suc (suc zero)))))))))))) l o = remuw x o
  by_flag (suc (suc (suc (suc (suc (suc (suc (suc (suc (suc (suc (suc (suc k))))))))))))) l o = absurd (too_many k l)

  by_place : (s : Selected x) (k : ℕ) → 1 ≤ k → k < 14 → AllMeet (flags k 1 13) (x.column 0 12) → IsTuple
  by_place s zero h l a = absurd (omega numbers)
  by_place s (suc k) h l a = by_flag k (omega numbers) (record { selected = s; flag = a })

  pub tuple_holds : Selected x → IsTuple
  tuple_holds s = let w = one_flag x s in by_place s w.0 w.1 w.2 w.3

pub arith_sound : ArithSound
arith_sound ns c i r has meets on =
    subst (λ n. IsOperationOf airs.Arith (map (value n.items (around ns c 12 i r)) operation.terms)) (sym has.stands) (is_operation _ _ _ _ _ _ _ _ (tuple_holds (around ns c 12 i r) (selected ns c i r has meets on)))

-- No wrap.
abbrev chosen_facts : List (ℕ × Fact)
chosen_facts = (0, is 1) ∷ told

abbrev other_facts : List (ℕ × Fact)
other_facts = (0, is 0) ∷ []

settled_chosen : (x : Cells) → all_settled items x 12 (here chosen_facts) items ≡ true
settled_chosen x = refl

settled_other : (x : Cells) → all_settled items x 12 (here other_facts) items ≡ true
settled_other x = refl

pub arith_exact : ArithExact
arith_exact ns c i r has meets = elim (cases_eq (c.at 12 i 0 r) 0) [
  | inl z ↦ exact_lines (row_at items ns c 12 i r other_facts has.in_field (z, tt)) items (settled_other (around ns c 12 i r)) (all_sides ns c i r has meets)
  | inr z ↦ (let s = selected ns c i r has meets z in exact_lines (base (around ns c 12 i r) s) items (settled_chosen (around ns c 12 i r)) s.meets)
]
