-- What the look-ups of a selected row of Arith say.
use Rattle.std.proofs.Common.{ℕ, ◌+◌, ◌*◌, ◌<◌, ◌≤◌, ◌≡◌, ◌≢◌, true, not, eqb, List, ◌∷◌, refl, subst, arith}
use Rattle.std.proofs.lemmas.Bool.Decides.{nat_tests}
use Rattle.pil_ast.specs.Term.{num, ◌⊗◌, Namespace, item_at}
use Rattle.pil_ast.specs.Columns.{Columns}
use Rattle.pil_ast.specs.Value.{Cells, around, value}
use Rattle.pil_ast.specs.Holds.{sent}
use Rattle.pil_exact.specs.Row.{Says}
use Rattle.pil_exact.proofs.Row.{row_at, equation, Fact, is, AllMeet, Row, here, line, amount, fact, all_say, left_term, right_term}
use Rattle.pil_exact.proofs.Small.{AllLook, AllSmall, all_look, look, bounds, meets_bounds}
use Rattle.pil_exact.proofs.Flags.{flags, one_set}
use Rattle.machine_text.specs.Arith.{space, items, sel, ra, rb, rw'}
use Rattle.air_arith.specs.Laws.{HasArith, Meets}

-- the facts that the small tables tell
abbrev pub told : List (ℕ × Fact)
told = bounds 12 items

-- what is known of a selected row
pub record Selected (x : Cells) : Type 0 where
  pub row : (es : List (ℕ × Fact)) → AllMeet es (x.column 0 12) → Row items x 12 (here es)
  pub meets : (k : ℕ) → value items x (left_term (item_at items k)) ≡ value items x (right_term (item_at items k))
  pub within : AllMeet told (x.column 0 12)
  pub one : x.column 0 12 0 ≡ 1
  pub ra : value items x (num 2 ⊗ ra) ≤ 65535
  pub rb : value items x (num 2 ⊗ rb) ≤ 65535
  pub rw' : value items x (num 2 ⊗ rw') ≤ 65535

is_chosen : (v : ℕ) → v ≢ 0 → not (eqb v 0) ≡ true
is_chosen v h = grind (arith, nat_tests)

exactly_one : (v : ℕ) → v ≢ 0 → v ≤ 1 → v ≡ 1
exactly_one v h l = omega arith

pub small : AllSmall sel items
small = assumption

module _ (ns : List Namespace) (c : Columns) (i r : ℕ) (has : HasArith ns c) (meets : Meets ns c i r) where
  abbrev cells : Cells
  cells = around ns c 12 i r

  pub says : (k : ℕ) → Says items cells (sent ns c) (item_at items k)
  says = all_say ns c 12 i r space has.stands items refl meets

  pub all_sides : (k : ℕ) → value items cells (left_term (item_at items k)) ≡ value items cells (right_term (item_at items k))
  all_sides k = equation items cells (sent ns c) (item_at items k) (says k)

  module _ (on : c.at 12 i 0 r ≢ 0) where
    looks : AllLook items cells items
    looks = all_look ns c has.tables items cells sel (is_chosen _ on) items small says

    pub selected : Selected cells
    selected =
        let seen = look items cells items looks in
        let within = meets_bounds items cells 12 items looks in
        record {
          row = (λ es h. row_at items ns c 12 i r es has.in_field h);
          meets = all_sides;
          within = within;
          one = exactly_one _ on (fact told (cells.column 0 12) within 0);
          ra = seen 131;
          rb = seen 133;
          rw' = seen 135;
        }

below : (v : ℕ) → 2 * v ≤ 65535 → v ≤ 32767
below v h = omega arith

module _ (x : Cells) (s : Selected x) where
  abbrev f : ℕ → ℕ
  f = x.column 0 12

  pub base : Row items x 12 (here ((0, is 1) ∷ told))
  base = s.row _ (s.one, s.within)

  pub ra_small : f 57 ≤ 32767
  ra_small = below _ (subst (λ z. z ≤ 65535) (amount base (num 2 ⊗ ra) refl) s.ra)

  pub rb_small : f 59 ≤ 32767
  rb_small = below _ (subst (λ z. z ≤ 65535) (amount base (num 2 ⊗ rb) refl) s.rb)

  pub rw_small : f 78 ≤ 32767
  rw_small = below _ (subst (λ z. z ≤ 65535) (amount base (num 2 ⊗ rw') refl) s.rw')

  -- one flag is set
  pub one_flag : (k : ℕ) × (1 ≤ k) × (k < 14) × AllMeet (flags k 1 13) f
  one_flag = one_set f 13 1 (turn (f 1) (f 2) (f 3) (f 4) (f 5) (f 6) (f 7) (f 8) (f 9) (f 10) (f 11) (f 12) (f 13) (line base (item_at items 77) (s.meets 77) refl))
    where
      turn : (a b c d e f g h i j k l m : ℕ) → a + b + c + d + e + f + g + h + i + j + k + l + m ≡ 1 → a + (b + (c + (d + (e + (f + (g + (h + (i + (j + (k + (l + (m + 0)))))))))))) ≡ 1
      turn a b c d e f g h i j k l m q = omega arith
