-- What the look-ups of a selected row of Shift say.
use Rattle.std.proofs.Common.{ℕ, ◌+◌, ◌/◌, ◌%◌, ◌<◌, ◌≤◌, ◌≡◌, ◌≢◌, inl, inr, true, not, eqb, List, [], ◌∷◌, Some, refl, sym, ap, ◌∙◌, subst, mod-lt, lit<, arith}
use Rattle.std.specs.Prelude.{slice_index}
use Rattle.std.proofs.lemmas.Bool.Decides.{nat_tests}
use Rattle.std.proofs.lemmas.Bool.{cases_lt}
use Rattle.pil_ast.specs.Term.{Tuples, Namespace, item_at}
use Rattle.pil_ast.specs.Columns.{Columns}
use Rattle.pil_ast.specs.Value.{Cells, around}
use Rattle.pil_ast.specs.Holds.{sent}
use Rattle.pil_ast.specs.Holds.{chosen}
use Rattle.pil_exact.specs.Row.{Says}
use Rattle.pil_exact.proofs.Row.{Fact, AllMeet, all_say}
use Rattle.pil_laws.proofs.Sent.{from_sent}
use Rattle.pil_exact.proofs.Small.{AllSmall, AllLook, all_look, look, Looks, bounds, meets_bounds, bit_entry}
use Rattle.step_rows.specs.ShiftRow.{right, signed, wide, amount, at_place, factor, table_row}
use Rattle.machine_text.specs.Words.{rows_with}
use Rattle.machine_text.specs.ShiftTab
use Rattle.machine_text.specs.Shift.{space, items, sel, op, s, rt, ar, ww, u, m}
use Rattle.air_ops.specs.Tables.{Meets}
use Rattle.air_ops.specs.Shift.{HasShift}

-- the cells of the row of the shift o by s
abbrev pub IsCell : (ℕ → ℕ) → ℕ → ℕ → Type 0
IsCell f o s =
    (f 0 ≡ 1) × (f 1 ≡ 11 + o) × (f 2 ≡ s) × (f 3 ≡ right o) × (f 4 ≡ signed o) × (f 5 ≡ wide o)
    × (f 6 ≡ at_place (amount o s / 16) 0) × (f 7 ≡ at_place (amount o s / 16) 1) × (f 8 ≡ at_place (amount o s / 16) 2) × (f 9 ≡ at_place (amount o s / 16) 3)
    × (f 10 ≡ factor o (amount o s))

pub cells_of : (f : ℕ → ℕ) (o s : ℕ) → ((k : ℕ) → k < 11 → f k ≡ slice_index (table_row o s) k) → IsCell f o s
cells_of f o s h = (h 0 (lit< tt), h 1 (lit< tt), h 2 (lit< tt), h 3 (lit< tt), h 4 (lit< tt), h 5 (lit< tt), h 6 (lit< tt), h 7 (lit< tt), h 8 (lit< tt), h 9 (lit< tt), h 10 (lit< tt))

-- the row is that of the shift o, by the low six bits s of b, with these columns
pub record Asks (f : ℕ → ℕ) : Type 0 where
  pub o : ℕ
  pub o_small : o < 6
  pub s_small : f 7 < 64
  pub op : f 1 ≡ 11 + o
  pub rt : f 10 ≡ right o
  pub ar : f 11 ≡ signed o
  pub ww : f 12 ≡ wide o
  pub u0 : f 13 ≡ at_place (amount o (f 7) / 16) 0
  pub u1 : f 14 ≡ at_place (amount o (f 7) / 16) 1
  pub u2 : f 15 ≡ at_place (amount o (f 7) / 16) 2
  pub u3 : f 16 ≡ at_place (amount o (f 7) / 16) 3
  pub m : f 17 ≡ factor o (amount o (f 7))

not_zero : (v : ℕ) → not (eqb v 0) ≡ true → v ≢ 0
not_zero v h = grind (arith, nat_tests)

is_chosen : (v : ℕ) → v ≢ 0 → not (eqb v 0) ≡ true
is_chosen v h = grind (arith, nat_tests)

ten : (a0 a1 a2 a3 a4 a5 a6 a7 a8 a9 b0 b1 b2 b3 b4 b5 b6 b7 b8 b9 : ℕ) → a0 ∷ a1 ∷ a2 ∷ a3 ∷ a4 ∷ a5 ∷ a6 ∷ a7 ∷ a8 ∷ a9 ∷ [] ≡ b0 ∷ b1 ∷ b2 ∷ b3 ∷ b4 ∷ b5 ∷ b6 ∷ b7 ∷ b8 ∷ b9 ∷ [] → (a0 ≡ b0) × (a1 ≡ b1) × (a2 ≡ b2) × (a3 ≡ b3) × (a4 ≡ b4) × (a5 ≡ b5) × (a6 ≡ b6) × (a7 ≡ b7) × (a8 ≡ b8) × (a9 ≡ b9)
ten a0 a1 a2 a3 a4 a5 a6 a7 a8 a9 b0 b1 b2 b3 b4 b5 b6 b7 b8 b9 h = (cc, cc, cc, cc, cc, cc, cc, cc, cc, cc)

asks : (f g : ℕ → ℕ) (o s : ℕ) → o < 6 → s < 64 → IsCell g o s → (g 1 ≡ f 1) × (g 2 ≡ f 7) × (g 3 ≡ f 10) × (g 4 ≡ f 11) × (g 5 ≡ f 12) × (g 6 ≡ f 13) × (g 7 ≡ f 14) × (g 8 ≡ f 15) × (g 9 ≡ f 16) × (g 10 ≡ f 17) → Asks f
asks f g o s lo ls c e =
    let q : s ≡ f 7 = sym c.2 ∙ e.1 in
    record {
      o = o;
      o_small = lo;
      s_small = subst (λ z. z < 64) q ls;
      op = sym e.0 ∙ c.1;
      rt = sym e.2 ∙ c.3;
      ar = sym e.3 ∙ c.4;
      ww = sym e.4 ∙ c.5;
      u0 = sym e.5 ∙ c.6 ∙ ap (λ z. at_place (amount o z / 16) 0) q;
      u1 = sym e.6 ∙ c.7 ∙ ap (λ z. at_place (amount o z / 16) 1) q;
      u2 = sym e.7 ∙ c.8 ∙ ap (λ z. at_place (amount o z / 16) 2) q;
      u3 = sym e.8 ∙ c.9 ∙ ap (λ z. at_place (amount o z / 16) 3) q;
      m = sym e.9 ∙ c.10 ∙ ap (λ z. factor o (amount o z)) q;
    }

-- what a row looks up in ShiftTab
abbrev pub asked : Tuples
asked = rows_with 11 sel (op ∷ s ∷ rt ∷ ar ∷ ww ∷ u 0 ∷ u 1 ∷ u 2 ∷ u 3 ∷ m ∷ [])

-- the facts that the small tables tell
abbrev pub told : List (ℕ × Fact)
told = bounds 11 items

pub small : AllSmall sel items
small = assumption

module _ (ns : List Namespace) (c : Columns) (i r : ℕ) (has : HasShift ns c) (meets : Meets ns c i r items) where
  abbrev pub cells : Cells
  cells = around ns c 11 i r

  abbrev pub columns : ℕ → ℕ
  columns = cells.column 0 11

  pub says : (k : ℕ) → Says items cells (sent ns c) (item_at items k)
  says = all_say ns c 11 i r space has.stands items refl meets

  module _ (on : c.at 11 i 0 r ≢ 0) where
    here_chosen : chosen items cells (Some sel) ≡ true
    here_chosen = is_chosen _ on

    looked : AllLook items cells items
    looked = all_look ns c has.tables items cells sel here_chosen items small says

    pub entry : (k : ℕ) → Looks items cells (item_at items k)
    entry = look items cells items looked

    pub within : AllMeet told columns
    within = meets_bounds items cells 11 items looked

    -- the selector is 1
    pub one_here : columns 0 ≡ 1
    one_here = exactly_one (columns 0) on (bit_entry ns c has.tables _ (says 34 refl))
      where
        exactly_one : (v : ℕ) → v ≢ 0 → v ≤ 1 → v ≡ 1
        exactly_one v h l = omega arith

    -- what is found in ShiftTab
    pub row_asks : Asks columns
    row_asks =
        let s = from_sent ns c ShiftTab.shift _ (says 35 here_chosen) in
        let v = not_zero _ s.is_selected in
        let i0 : s.instance ≡ 0 = first_instance s.instance (c.instances 3) has.amounts.single.instances s.is_instance in
        let l : s.row < 384 = filled s.row (subst (λ j. c.at 3 j 0 s.row ≢ 0) i0 v) (subst (λ n. s.row < n) has.amounts.single.rows s.is_row) in
        asks columns (λ k. c.at 3 0 k s.row) (s.row / 64) (s.row % 64) (omega arith) (mod-lt s.row {m = 64} (lit< tt)) (cells_of _ _ _ (λ k m. has.amounts.row s.row k l m)) (subst (λ j. Found j s.row) i0 (ten _ _ _ _ _ _ _ _ _ _ _ _ _ _ _ _ _ _ _ _ s.is_tuple))
      where
        Found : ℕ → ℕ → Type 0
        Found j q = (c.at 3 j 1 q ≡ columns 1) × (c.at 3 j 2 q ≡ columns 7) × (c.at 3 j 3 q ≡ columns 10) × (c.at 3 j 4 q ≡ columns 11) × (c.at 3 j 5 q ≡ columns 12) × (c.at 3 j 6 q ≡ columns 13) × (c.at 3 j 7 q ≡ columns 14) × (c.at 3 j 8 q ≡ columns 15) × (c.at 3 j 9 q ≡ columns 16) × (c.at 3 j 10 q ≡ columns 17)

        first_instance : (j n : ℕ) → n ≡ 1 → j < n → j ≡ 0
        first_instance j n e l = omega arith

        filled : (q : ℕ) → c.at 3 0 0 q ≢ 0 → q < 512 → q < 384
        filled q v l = elim (cases_lt q 384) [ inl z ↦ z | inr z ↦ absurd (v (has.amounts.rest q z l)) ]
