-- The worked example: Tally's lines in both directions.
use Rattle.std.proofs.Common.{ℕ, ◌≤◌, ◌≡◌, ◌≢◌, ◌⊎◌, inl, inr, not, eqb, List, [], ◌∷◌, refl, ap, arith}
use Rattle.std.proofs.lemmas.Bool.{cases_eq}
use Rattle.pil_ast.specs.Term.{Namespace, item_at}
use Rattle.pil_ast.specs.Columns.{Columns}
use Rattle.pil_ast.specs.Value.{around}
use Rattle.pil_ast.specs.Holds.{sent}
use Rattle.pil_exact.specs.Row.{Says}
use Rattle.pil_exact.specs.Example.{items, tally, sel, HasTally, Meets, TallyLaw, TallyExact, TallyComplete, TallyPadding}
use Rattle.pil_exact.proofs.Row.{Fact, is, most, Row, here, row_at, line, exact_said, all_say, all_hold}
use Rattle.pil_exact.proofs.Small.{AllSmall, AllLook, all_look, look, bit_entry, bounds, meets_bounds}
use Rattle.pil_exact.proofs.Follows.{all_said}

-- each look-up is in a small table, with the selector `sel` or none
small : AllSmall sel items
small = assumption

-- lemmas on numbers stand outside the record of a row
zero_or_one : (v : ℕ) → v ≤ 1 → (v ≡ 0) ⊎ (v ≡ 1)
zero_or_one v h = elim (cases_eq v 0) [ inl z ↦ inl z | inr n ↦ inr (one v h n) ]
  where
    one : (v : ℕ) → v ≤ 1 → v ≢ 0 → v ≡ 1
    one v h n = omega arith

-- what is known of a selected row: its flags, and what the look-ups say of columns
abbrev known : ℕ → List (ℕ × Fact)
known last = (0, is last) ∷ (1, is 1) ∷ bounds 3 items

module _ (ns : List Namespace) (c : Columns) (i r : ℕ) (has : HasTally ns c) (meets : Meets ns c i r) where
  -- what each item says of this row's cells
  says : (k : ℕ) → Says items (around ns c 3 i r) (sent ns c) (item_at items k)
  says = all_say ns c 3 i r tally has.tally items refl meets

  sel_bit : c.at 3 i 1 r ≤ 1
  sel_bit = bit_entry ns c has.tables _ (says 5 refl)

  module _ (on : c.at 3 i 1 r ≡ 1) where
    looked : AllLook items (around ns c 3 i r) items
    looked = all_look ns c has.tables items (around ns c 3 i r) sel (ap (λ z. not (eqb z 0)) on) items small says

    row : (last : ℕ) → c.at 3 i 0 r ≡ last → Row items (around ns c 3 i r) 3 (here (known last))
    row last e = row_at items ns c 3 i r (known last) has.in_field (e, (on, meets_bounds items (around ns c 3 i r) 3 items looked))

pub tally_law : TallyLaw
tally_law ns c i r has meets on last =
    let entry = look items (around ns c 3 i r) items (looked ns c i r has meets on) in
    (entry 6, entry 7, line (row ns c i r has meets on 0 last) (item_at items 8) (says ns c i r has meets 8) refl)

pub tally_exact : TallyExact
tally_exact ns c i r has meets k = elim (zero_or_one _ (sel_bit ns c i r has meets)) [
  | inl off ↦ exact_said (row_at items ns c 3 i r ((1, is 0) ∷ []) has.in_field (off, tt)) (sent ns c) items refl (says ns c i r has meets) k
  | inr on ↦
      elim (zero_or_one _ (has.last i r)) [
        | inl e ↦ exact_said (row ns c i r has meets on 0 e) (sent ns c) items refl (says ns c i r has meets) k
        | inr e ↦ exact_said (row ns c i r has meets on 1 e) (sent ns c) items refl (says ns c i r has meets) k
      ]
]

-- what is left to show is the identity
pub tally_complete : TallyComplete
tally_complete ns c i r has on last number sum adds =
    all_hold ns c 3 i r tally has.tally items refl
    (all_said ns c has.tables (row_at items ns c 3 i r ((0, is 0) ∷ (1, is 1) ∷ (2, most 65535) ∷ (3, most 65535) ∷ []) has.in_field (last, (on, (number, (sum, tt))))) sel items small ((adds, refl), tt))

-- and here nothing
pub tally_padding : TallyPadding
tally_padding ns c i r has off =
    all_hold ns c 3 i r tally has.tally items refl (all_said ns c has.tables (row_at items ns c 3 i r ((1, is 0) ∷ []) has.in_field (off, tt)) sel items small tt)
