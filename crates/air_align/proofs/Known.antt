-- What the look-ups of a selected row of Align say.
use Rattle.std.proofs.Common.{ℕ, ◌+◌, ◌*◌, ◌<◌, ◌≤◌, ◌≡◌, ◌≢◌, true, not, eqb, List, ◌∷◌, refl, subst, arith}
use Rattle.std.proofs.lemmas.Bool.Decides.{nat_tests}
use Rattle.pil_ast.specs.Term.{num, ◌⊗◌, Namespace, item_at}
use Rattle.pil_ast.specs.Columns.{Columns}
use Rattle.pil_ast.specs.Value.{Cells, around, value}
use Rattle.pil_ast.specs.Holds.{sent}
use Rattle.pil_exact.specs.Row.{Says}
use Rattle.pil_exact.proofs.Row.{row_at, equation, Fact, is, AllMeet, Row, here, line, amount, fact, found, MeetsFound, all_say, left_term, right_term}
use Rattle.pil_exact.proofs.Small.{AllLook, AllSmall, all_look, look, bounds, meets_bounds}
use Rattle.pil_exact.proofs.Flags.{flags, one_set}
use Rattle.machine_text.specs.Align.{space, items, sel, rs}
use Rattle.air_align.specs.Laws.{HasAlign, Meets}

-- the facts that the small tables tell
abbrev pub told : List (ℕ × Fact)
told = bounds 9 items

-- what is known of a selected row
pub record Selected (x : Cells) : Type 0 where
  pub row : (es : List (ℕ × Fact)) → AllMeet es (x.column 0 9) → Row items x 9 (here es)
  pub meets : (k : ℕ) → value items x (left_term (item_at items k)) ≡ value items x (right_term (item_at items k))
  pub within : AllMeet told (x.column 0 9)
  pub one : x.column 0 9 0 ≡ 1
  pub rs : value items x (num 512 ⊗ rs) ≤ 65535

is_chosen : (v : ℕ) → v ≢ 0 → not (eqb v 0) ≡ true
is_chosen v h = grind (arith, nat_tests)

exactly_one : (v : ℕ) → v ≢ 0 → v ≤ 1 → v ≡ 1
exactly_one v h l = omega arith

pub small : AllSmall sel items
small = assumption

module _ (ns : List Namespace) (c : Columns) (i r : ℕ) (has : HasAlign ns c) (meets : Meets ns c i r) where
  abbrev cells : Cells
  cells = around ns c 9 i r

  pub says : (k : ℕ) → Says items cells (sent ns c) (item_at items k)
  says = all_say ns c 9 i r space has.stands items refl meets

  pub all_sides : (k : ℕ) → value items cells (left_term (item_at items k)) ≡ value items cells (right_term (item_at items k))
  all_sides k = equation items cells (sent ns c) (item_at items k) (says k)

  module _ (on : c.at 9 i 0 r ≢ 0) where
    looks : AllLook items cells items
    looks = all_look ns c has.tables items cells sel (is_chosen _ on) items small says

    pub selected : Selected cells
    selected =
        let within = meets_bounds items cells 9 items looks in
        record {
          row = (λ es h. row_at items ns c 9 i r es has.in_field h);
          meets = all_sides;
          within = within;
          one = exactly_one _ on (fact told (cells.column 0 9) within 0);
          rs = look items cells items looks 56;
        }

below : (v : ℕ) → 512 * v ≤ 65535 → v ≤ 127
below v h = omega arith

module _ (x : Cells) (s : Selected x) where
  abbrev f : ℕ → ℕ
  f = x.column 0 9

  pub base : Row items x 9 (here ((0, is 1) ∷ told))
  base = s.row _ (s.one, s.within)

  pub bound : (k : ℕ) → MeetsFound (f k) (found told k)
  bound = fact told f s.within

  pub rs_small : f 37 ≤ 127
  rs_small = below _ (subst (λ z. z ≤ 65535) (amount base (num 512 ⊗ rs) refl) s.rs)

  -- one kind and one offset
  pub one_kind : (k : ℕ) × (1 ≤ k) × (k < 12) × AllMeet (flags k 1 11) f
  one_kind = one_set f 11 1 (turn (f 1) (f 2) (f 3) (f 4) (f 5) (f 6) (f 7) (f 8) (f 9) (f 10) (f 11) (line base (item_at items 48) (s.meets 48) refl))
    where
      turn : (a b c d e f g h i j k : ℕ) → a + b + c + d + e + f + g + h + i + j + k ≡ 1 → a + (b + (c + (d + (e + (f + (g + (h + (i + (j + (k + 0)))))))))) ≡ 1
      turn a b c d e f g h i j k q = omega arith

  pub one_offset : (k : ℕ) × (12 ≤ k) × (k < 20) × AllMeet (flags k 12 8) f
  one_offset = one_set f 8 12 (turn (f 12) (f 13) (f 14) (f 15) (f 16) (f 17) (f 18) (f 19) (line base (item_at items 49) (s.meets 49) refl))
    where
      turn : (a b c d e f g h : ℕ) → a + b + c + d + e + f + g + h ≡ 1 → a + (b + (c + (d + (e + (f + (g + (h + 0))))))) ≡ 1
      turn a b c d e f g h q = omega arith
