-- What is known of each selected row of Binary.
use Rattle.std.proofs.Common.{ℕ, ◌+◌, ◌*◌, ◌%◌, ◌<◌, ◌≤◌, ◌≡◌, ◌≢◌, not, eqb, length, List, ◌∷◌, refl, ap, arith}
use Rattle.gold.specs.Field.{p}
use Rattle.pil_ast.specs.Term.{Namespace, item_at}
use Rattle.pil_ast.specs.Columns.{Columns}
use Rattle.pil_ast.specs.Value.{value, around}
use Rattle.pil_ast.specs.Holds.{sent}
use Rattle.pil_exact.specs.Row.{Says}
use Rattle.pil_exact.proofs.Row.{Fact, is, most, AllMeet, Row, row_at, here, line, amount, all_say, fact, found, MeetsFound}
use Rattle.pil_exact.proofs.Small.{AllSmall, AllLook, all_look, look, Looks, bounds, meets_bounds, bit_entry}
use Rattle.pil_exact.proofs.Flags.{total, flags, one_set}
use Rattle.machine_text.specs.Binary.{space, items, sel, alo, ahi, blo, bhi}
use Rattle.air_ops.specs.Tables.{Meets}
use Rattle.air_ops.specs.Binary.{HasBinary}

count : length items ≡ 92
count = refl

pub small : AllSmall sel items
small = assumption

-- limbs of bytes, and of numbers of 16 bits, from the column k on
abbrev pub bytes : (ℕ → ℕ) → ℕ → ℕ
bytes f k = f k + 256 * f (1 + k) + 65536 * f (2 + k) + 16777216 * f (3 + k)

abbrev pub halves : (ℕ → ℕ) → ℕ → ℕ
halves f k = f k + 65536 * f (1 + k)

-- what the look-ups say of columns: sharper where a number is looked up with a factor
abbrev pub known : List (ℕ × Fact)
known = (0, is 1) ∷ (49, most 127) ∷ (51, most 127) ∷ (53, most 32767) ∷ bounds 10 items

sharper_512 : (x : ℕ) → 512 * x % p ≤ 65535 → x ≤ 65535 → x ≤ 127
sharper_512 x h k = omega arith

sharper_2 : (x : ℕ) → 2 * x % p ≤ 65535 → x ≤ 65535 → x ≤ 32767
sharper_2 x h k = omega arith

set : (x : ℕ) → x ≤ 1 → x ≢ 0 → x ≡ 1
set x h k = omega arith

hot_total : (f : ℕ → ℕ) → f 1 + f 2 + f 3 + f 4 + f 5 + f 6 + f 7 + f 8 + f 9 + f 10 + f 11 + f 12 + f 13 + f 14 + f 15 ≡ 1 → total f 1 15 ≡ 1
hot_total f h = omega arith

module _ (ns : List Namespace) (c : Columns) (i r : ℕ) (has : HasBinary ns c) (meets : Meets ns c i r items) where
  abbrev pub cell : ℕ → ℕ
  cell k = c.at 10 i k r

  pub says : (k : ℕ) → Says items (around ns c 10 i r) (sent ns c) (item_at items k)
  says = all_say ns c 10 i r space has.stands items refl meets

  pub sel_bit : c.at 10 i 0 r ≤ 1
  sel_bit = bit_entry ns c has.tables _ (says 38 refl)

  module _ (on : c.at 10 i 0 r ≢ 0) where
    one : c.at 10 i 0 r ≡ 1
    one = set _ sel_bit on

    looked : AllLook items (around ns c 10 i r) items
    looked = all_look ns c has.tables items (around ns c 10 i r) sel (ap (λ z. not (eqb z 0)) one) items small says

    pub entry : (k : ℕ) → Looks items (around ns c 10 i r) (item_at items k)
    entry = look items (around ns c 10 i r) items looked

    met : AllMeet known cell
    met = (one, (sharper_512 _ (entry 74) (entry 73), (sharper_512 _ (entry 76) (entry 75), (sharper_2 _ (entry 78) (entry 77), meets_bounds items (around ns c 10 i r) 10 items looked))))

    -- what is known of the column k
    pub within : (k : ℕ) → MeetsFound (cell k) (found known k)
    within = fact known cell met

    pub row : Row items (around ns c 10 i r) 10 (here known)
    row = row_at items ns c 10 i r known has.in_field met

    -- one flag is set
    pub hot : (k : ℕ) × (1 ≤ k) × (k < 16) × AllMeet (flags k 1 15) cell
    hot = one_set cell 15 1 (hot_total cell (line row (item_at items 54) (says 54) refl))

    pub alo_is : value items (around ns c 10 i r) alo ≡ bytes cell 16
    alo_is = amount row alo refl

    pub ahi_is : value items (around ns c 10 i r) ahi ≡ bytes cell 20
    ahi_is = amount row ahi refl

    pub blo_is : value items (around ns c 10 i r) blo ≡ bytes cell 24
    blo_is = amount row blo refl

    pub bhi_is : value items (around ns c 10 i r) bhi ≡ bytes cell 28
    bhi_is = amount row bhi refl
