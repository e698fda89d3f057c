-- The laws of Shift.
use Rattle.std.proofs.Common.{ℕ, ◌%◌, ◌/◌, ◌≤◌, ◌≡◌, ◌≢◌, inl, inr, Bool, true, false, cond, ◌==◌, nat_lt, List, [], ◌∷◌, map, refl, sym, subst, arith}
use Rattle.std.proofs.lemmas.Bool.{cases_eq}
use Rattle.pil_ast.specs.Term.{Namespace, item_at}
use Rattle.pil_ast.specs.Columns.{Columns}
use Rattle.pil_ast.specs.Value.{Cells, value, around}
use Rattle.pil_ast.specs.Holds.{sent}
use Rattle.pil_exact.proofs.Row.{row_at, equation, Fact, is, most, AllMeet, here, exact_said, all_settled}
use Rattle.step_rows.specs.ShiftRow.{amount as shift_amount}
use Rattle.zk_layout.specs.declared.air.Air.TheVariants as airs
use Rattle.step_rows.specs.Tuples.{IsOperationOf}
use Rattle.machine_text.specs.Shift.{items, operation}
use Rattle.air_ops.specs.Tables.{Meets}
use Rattle.air_ops.specs.Shift.{HasShift, IsSound, IsExact}
use Rattle.air_ops.proofs.ShiftKnown.{told, Asks, says, entry, within, one_here, row_asks}
use Rattle.air_ops.proofs.ShiftSound.{Selected, one_tells, factor_small}

pub selected : (ns : List Namespace) (c : Columns) (i r : ℕ) (has : HasShift ns c) (meets : Meets ns c i r items) → c.at 11 i 0 r ≢ 0 → Selected (around ns c 11 i r)
selected ns c i r has meets on = record {
  row = (λ es h. row_at items ns c 11 i r es has.in_field h);
  meets = λ k. equation items (around ns c 11 i r) (sent ns c) (item_at items k) (says ns c i r has meets k);
  within = within ns c i r has meets on;
  one = one_here ns c i r has meets on;
  asks = row_asks ns c i r has meets on;
  xr = entry ns c i r has meets on 46;
  rr = entry ns c i r has meets on 48;
  top = entry ns c i r has meets on 42;
}

pub shift_sound : IsSound
shift_sound ns c i r has meets on b =
    subst (λ n. IsOperationOf airs.Shift (map (value n.items (around ns c 11 i r)) operation.terms)) (sym has.stands) (one_tells (around ns c 11 i r) (selected ns c i r has meets on) b)

-- No wrap.
bit : (b : Bool) → cond b 1 0 ≤ 1
bit true = omega arith
bit false = omega arith

bit' : (b : Bool) → cond b 0 1 ≤ 1
bit' true = omega arith
bit' false = omega arith

abbrev chosen_facts : List (ℕ × Fact)
chosen_facts = (0, is 1) ∷ (10, most 1) ∷ (11, most 1) ∷ (12, most 1) ∷ (13, most 1) ∷ (14, most 1) ∷ (15, most 1) ∷ (16, most 1) ∷ (17, most 65536) ∷ told

abbrev other_facts : List (ℕ × Fact)
other_facts = (0, is 0) ∷ []

settled_chosen : (x : Cells) → all_settled items x 11 (here chosen_facts) items ≡ true
settled_chosen x = refl

settled_other : (x : Cells) → all_settled items x 11 (here other_facts) items ≡ true
settled_other x = refl

facts_hold : (f : ℕ → ℕ) → f 0 ≡ 1 → Asks f → AllMeet told f → AllMeet chosen_facts f
facts_hold f o a t =
    let le : (u v : ℕ) → u ≡ v → v ≤ 1 → u ≤ 1 = λ u v e l. subst (λ z. z ≤ 1) (sym e) l in
    let k = shift_amount a.o (f 7) / 16 in
    (o, (le _ _ a.rt (bit' (a.o % 3 == 0)), (le _ _ a.ar (bit (a.o % 3 == 2)), (le _ _ a.ww (bit' (nat_lt a.o 3)), (le _ _ a.u0 (bit (k == 0)), (le _ _ a.u1 (bit (k == 1)), (le _ _ a.u2 (bit (k == 2)), (le _ _ a.u3 (bit (k == 3)), (subst (λ z. z ≤ 65536) (sym a.m) (factor_small a.o (shift_amount a.o (f 7))), t)))))))))

pub shift_exact : IsExact
shift_exact ns c i r has meets = elim (cases_eq (c.at 11 i 0 r) 0) [
  | inl z ↦ exact_said (row_at items ns c 11 i r other_facts has.in_field (z, tt)) (sent ns c) items (settled_other (around ns c 11 i r)) (says ns c i r has meets)
  | inr z ↦ (let s = selected ns c i r has meets z in exact_said (s.row chosen_facts (facts_hold ((around ns c 11 i r).column 0 11) s.one s.asks s.within)) (sent ns c) items (settled_chosen (around ns c 11 i r)) (says ns c i r has meets))
]
