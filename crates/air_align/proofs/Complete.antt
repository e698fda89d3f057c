-- The row of an access meets the lines of Align.
use Rattle.std.proofs.Common.{ℕ, zero, suc, ◌+◌, ◌*◌, ◌/◌, ◌%◌, ◌^◌, ◌<◌, ◌≤◌, ◌≡◌, true, ltb, List, [], ◌∷◌, ◌++◌, refl, ◌∙◌, arith}
use Rattle.std.specs.Prelude.{slice_index}
use Rattle.std.specs.Int.{byte_at}
use Rattle.std.proofs.lemmas.Bool.{ltb-true}
use Rattle.rv_word.specs.declared.instr.Kind.{Kind}
use Rattle.rv_word.specs.declared.instr.Kind.TheVariants as kinds
use Rattle.rv_word.specs.Numbers.{kind_number}
use Rattle.rv_model.specs.Align.{width}
use Rattle.pil_ast.specs.Term.{Namespace}
use Rattle.pil_ast.specs.Columns.{Columns}
use Rattle.pil_ast.specs.Value.{around}
use Rattle.pil_ast.specs.Holds.{sent}
use Rattle.pil_exact.proofs.Row.{is, AllMeet, row_at, all_hold}
use Rattle.pil_exact.proofs.Flags.{each}
use Rattle.pil_exact.proofs.Follows.{all_said}
use Rattle.machine_text.specs.Align.{space, items, sel}
use Rattle.step_rows.specs.AlignRow.{align_row, highest}
use Rattle.air_align.specs.Laws.{AlignPadding, HasAlign, IsRowOf, Meets}
use Rattle.air_align.proofs.Known.{small}
use Rattle.air_align.proofs.Steps.{known, sign_byte, step}

pub align_padding : AlignPadding
align_padding ns c i r has z =
    all_hold ns c 9 i r space has.stands items refl (all_said ns c has.tables (row_at items ns c 9 i r ((0, is 0) ∷ []) has.in_field (z, tt)) sel items small tt)

byte_le : (x v : ℕ) → x ≡ v % 256 → x ≤ 255
byte_le x v e = omega arith

sign_le : (x b : ℕ) → x ≡ b / 128 → b ≤ 255 → x ≤ 1
sign_le x b e l = omega arith

rest_le : (x b : ℕ) → x ≡ b % 128 → x ≤ 127
rest_le x b e = omega arith

parts : (x s r b : ℕ) → x ≡ b → s ≡ b / 128 → r ≡ b % 128 → x ≡ 128 * s + r
parts x s r b e f g = omega arith

low_byte : (x : ℕ) → x % 256 ≤ 255
low_byte x = omega arith

a_byte : (i v : ℕ) → byte_at i v ≤ 255
a_byte zero v = low_byte v
a_byte (suc i) v = low_byte (v / 256 ^ suc i)

highest_le : (k : Kind) (off old : ℕ) → highest k off old ≤ 255
highest_le kinds.Lb off old = a_byte off old
highest_le kinds.Lh off old = a_byte (off + 1) old
highest_le kinds.Lw off old = a_byte (off + 3) old
highest_le _ off old = omega arith

second : (off : ℕ) → off < 8 → off % 2 ≡ 0 → off + 1 < 8
second off l e = omega arith

fourth : (off : ℕ) → off < 8 → off % 4 ≡ 0 → off + 3 < 8
fourth off l e = omega arith

module _ (c : Columns) (i r : ℕ) (k : Kind) (off old value : ℕ) (given : IsRowOf c i r k off old value) where
  abbrev f : ℕ → ℕ
  f j = c.at 9 i j r

  pub at : (j : ℕ) → ltb j 38 ≡ true → f j ≡ slice_index (align_row k off old value) j
  at j h = given j (ltb-true j 38 h)

  known_met : AllMeet (known (kind_number k) off) f
  known_met = (at 0 refl, (at 1 refl, (at 2 refl, (at 3 refl, (at 4 refl, (at 5 refl, (at 6 refl, (at 7 refl, (at 8 refl, (at 9 refl, (at 10 refl, (at 11 refl, (at 12 refl, (at 13 refl, (at 14 refl, (at 15 refl, (at 16 refl, (at 17 refl, (at 18 refl, (at 19 refl, (byte_le _ _ (at 20 refl), (byte_le _ _ (at 21 refl), (byte_le _ _ (at 22 refl), (byte_le _ _ (at 23 refl), (byte_le _ _ (at 24 refl), (byte_le _ _ (at 25 refl), (byte_le _ _ (at 26 refl), (byte_le _ _ (at 27 refl), (byte_le _ _ (at 28 refl), (byte_le _ _ (at 29 refl), (byte_le _ _ (at 30 refl), (byte_le _ _ (at 31 refl), (byte_le _ _ (at 32 refl), (byte_le _ _ (at 33 refl), (byte_le _ _ (at 34 refl), (byte_le _ _ (at 35 refl), (sign_le _ _ (at 36 refl) (highest_le k off old), (rest_le _ _ (at 37 refl), tt))))))))))))))))))))))))))))))))))))))

  bytes : (j : ℕ) → j < 8 → f (20 + j) ≡ byte_at j old
  bytes j l = each (λ j. f (20 + j) ≡ byte_at j old) 8 (at 20 refl, (at 21 refl, (at 22 refl, (at 23 refl, (at 24 refl, (at 25 refl, (at 26 refl, (at 27 refl, tt)))))))) j l

-- the sign's byte is in its columns
sign_shown : (c : Columns) (i r : ℕ) (k : Kind) (off old value : ℕ) → IsRowOf c i r k off old value → off < 8 → off % width k ≡ 0 → sign_byte k (λ j. c.at 9 i j r) off ≡ 128 * c.at 9 i 36 r + c.at 9 i 37 r
sign_shown c i r kinds.Lb off old value h l e = parts _ _ _ (highest kinds.Lb off old) (bytes c i r kinds.Lb off old value h off l) (at c i r kinds.Lb off old value h 36 refl) (at c i r kinds.Lb off old value h 37 refl)
sign_shown c i r kinds.Lh off old value h l e = parts _ _ _ (highest kinds.Lh off old) (bytes c i r kinds.Lh off old value h (off + 1) (second off l e)) (at c i r kinds.Lh off old value h 36 refl) (at c i r kinds.Lh off old value h 37 refl)
sign_shown c i r kinds.Lw off old value h l e = parts _ _ _ (highest kinds.Lw off old) (bytes c i r kinds.Lw off old value h (off + 3) (fourth off l e)) (at c i r kinds.Lw off old value h 36 refl) (at c i r kinds.Lw off old value h 37 refl)
sign_shown c i r kinds.Ld off old value h l e = parts _ _ _ 0 refl (at c i r kinds.Ld off old value h 36 refl) (at c i r kinds.Ld off old value h 37 refl)
sign_shown c i r kinds.Lbu off old value h l e = parts _ _ _ 0 refl (at c i r kinds.Lbu off old value h 36 refl) (at c i r kinds.Lbu off old value h 37 refl)
sign_shown c i r kinds.Lhu off old value h l e = parts _ _ _ 0 refl (at c i r kinds.Lhu off old value h 36 refl) (at c i r kinds.Lhu off old value h 37 refl)
sign_shown c i r kinds.Lwu off old value h l e = parts _ _ _ 0 refl (at c i r kinds.Lwu off old value h 36 refl) (at c i r kinds.Lwu off old value h 37 refl)
sign_shown c i r kinds.Sb off old value h l e = parts _ _ _ 0 refl (at c i r kinds.Sb off old value h 36 refl) (at c i r kinds.Sb off old value h 37 refl)
sign_shown c i r kinds.Sh off old value h l e = parts _ _ _ 0 refl (at c i r kinds.Sh off old value h 36 refl) (at c i r kinds.Sh off old value h 37 refl)
sign_shown c i r kinds.Sw off old value h l e = parts _ _ _ 0 refl (at c i r kinds.Sw off old value h 36 refl) (at c i r kinds.Sw off old value h 37 refl)
sign_shown c i r kinds.Sd off old value h l e = parts _ _ _ 0 refl (at c i r kinds.Sd off old value h 36 refl) (at c i r kinds.Sd off old value h 37 refl)

pub row_meets : (ns : List Namespace) (c : Columns) (i r : ℕ) (k : Kind) (off old value : ℕ) → HasAlign ns c → off < 8 → off % width k ≡ 0 → IsRowOf c i r k off old value → Meets ns c i r
row_meets ns c i r k off old value has l e h =
    let ready = step k off l e (around ns c 9 i r) (sent ns c) (sign_shown c i r k off old value h l e) in
    all_hold ns c 9 i r space has.stands items refl (all_said ns c has.tables (row_at items ns c 9 i r (known (kind_number k) off) has.in_field (known_met c i r k off old value h)) sel items small ready)
