-- The row of a shift meets the lines of Shift, where those of its digits do.
use Rattle.std.proofs.Common.{ℕ, ◌+◌, ◌*◌, ◌<◌, ◌≡◌, not, eqb, true, List, [], ◌∷◌, map, refl, sym, ◌∙◌, arith}
use Rattle.std.proofs.lemmas.Bool.Decides.{nat_tests}
use Rattle.pil_ast.specs.Term.{lookup, Namespace}
use Rattle.pil_ast.specs.Columns.{Columns}
use Rattle.pil_ast.specs.Value.{Cells, around, value}
use Rattle.pil_ast.specs.Holds.{sent}
use Rattle.pil_exact.specs.Row.{Says}
use Rattle.pil_exact.proofs.Row.{Fact, is, AllMeet, row_at, here, all_hold}
use Rattle.pil_laws.proofs.Sent.{into_sent}
use Rattle.pil_exact.proofs.Follows.{all_said, Rest}
use Rattle.machine_text.specs.ShiftTab
use Rattle.machine_text.specs.Shift.{space, items, sel}
use Rattle.air_ops.specs.Tables.{Meets}
use Rattle.air_ops.specs.Shift.{HasShift, AllowsPadding}
use Rattle.air_ops.proofs.ShiftKnown.{IsCell, asked, small}

is_on : (v : ℕ) → v ≡ 1 → not (eqb v 0) ≡ true
is_on v h = grind (arith, nat_tests)

ten_same : (a0 a1 a2 a3 a4 a5 a6 a7 a8 a9 b0 b1 b2 b3 b4 b5 b6 b7 b8 b9 : ℕ) → a0 ≡ b0 → a1 ≡ b1 → a2 ≡ b2 → a3 ≡ b3 → a4 ≡ b4 → a5 ≡ b5 → a6 ≡ b6 → a7 ≡ b7 → a8 ≡ b8 → a9 ≡ b9 → a0 ∷ a1 ∷ a2 ∷ a3 ∷ a4 ∷ a5 ∷ a6 ∷ a7 ∷ a8 ∷ a9 ∷ [] ≡ b0 ∷ b1 ∷ b2 ∷ b3 ∷ b4 ∷ b5 ∷ b6 ∷ b7 ∷ b8 ∷ b9 ∷ []
ten_same a0 a1 a2 a3 a4 a5 a6 a7 a8 a9 b0 b1 b2 b3 b4 b5 b6 b7 b8 b9 e0 e1 e2 e3 e4 e5 e6 e7 e8 e9 = λ i. e0 i ∷ e1 i ∷ e2 i ∷ e3 i ∷ e4 i ∷ e5 i ∷ e6 i ∷ e7 i ∷ e8 i ∷ e9 i ∷ []

module _ (ns : List Namespace) (c : Columns) (i r : ℕ) (has : HasShift ns c) where
  abbrev x : Cells
  x = around ns c 11 i r

  abbrev f : ℕ → ℕ
  f k = c.at 11 i k r

  -- a row of ShiftTab with the columns that are asked
  pub found : (n s : ℕ) → n < 6 → s < 64 → IsCell (λ k. c.at 3 0 k (64 * n + s)) n s → (f 1 ≡ 11 + n) × (f 7 ≡ s) × (f 10 ≡ c.at 3 0 3 (64 * n + s)) × (f 11 ≡ c.at 3 0 4 (64 * n + s)) × (f 12 ≡ c.at 3 0 5 (64 * n + s)) × (f 13 ≡ c.at 3 0 6 (64 * n + s)) × (f 14 ≡ c.at 3 0 7 (64 * n + s)) × (f 15 ≡ c.at 3 0 8 (64 * n + s)) × (f 16 ≡ c.at 3 0 9 (64 * n + s)) × (f 17 ≡ c.at 3 0 10 (64 * n + s)) → Says items x (sent ns c) (lookup asked ShiftTab.shift)
  found n s l m h e = λ o. into_sent ns c ShiftTab.shift (map (value items x) asked.terms) (record {
    instance = 0;
    row = 64 * n + s;
    is_instance = omega (arith, has.amounts.single.instances);
    is_row = omega (arith, has.amounts.single.rows);
    is_selected = is_on (c.at 3 0 0 (64 * n + s)) h.0;
    is_tuple = ten_same _ _ _ _ _ _ _ _ _ _ _ _ _ _ _ _ _ _ _ _ (h.1 ∙ sym e.0) (h.2 ∙ sym e.1) (sym e.2) (sym e.3) (sym e.4) (sym e.5) (sym e.6) (sym e.7) (sym e.8) (sym e.9);
  })

  -- the lines, where what doesn't follow is shown
  pub filled : (fs : List (ℕ × Fact)) → AllMeet fs f → Rest items x 11 (here fs) (sent ns c) items → Meets ns c i r items
  filled fs h rest = all_hold ns c 11 i r space has.stands items refl (all_said ns c has.tables (row_at items ns c 11 i r fs has.in_field h) sel items small rest)

pub shift_padding : AllowsPadding
shift_padding ns c i r has z = filled ns c i r has ((0, is 0) ∷ []) (z, tt) tt
