-- What a selected row says of a kind and an offset: its number, its offset, and the limbs of its result.
use Rattle.std.proofs.Common.{ℕ, zero, suc, ◌+◌, ◌-◌, ◌*◌, ◌/◌, ◌%◌, ◌<◌, ◌≤◌, ◌≡◌, ◌&&◌, Bool, true, false, cond, List, [], ◌∷◌, ◌++◌, refl, sym, ap, ◌∙◌, subst, arith}
use Rattle.std.specs.Prelude.{nat_le, nat_lt}
use Rattle.rv_word.specs.declared.instr.Kind.{Kind}
use Rattle.rv_word.specs.declared.instr.Kind.TheVariants as kinds
use Rattle.rv_word.specs.Numbers.{kind_number}
use Rattle.rv_model.specs.Align.{width}
use Rattle.pil_ast.specs.Term.{item_at}
use Rattle.pil_ast.specs.Value.{Cells, value}
use Rattle.pil_exact.proofs.Row.{Fact, is, AllMeet, Row, here, line, amount, number, meet_both, fact, found, MeetsFound}
use Rattle.pil_exact.proofs.Flags.{flags, flag_at, Each, each}
use Rattle.machine_text.specs.Align as A
use Rattle.machine_text.specs.Align.{items}
use Rattle.air_align.proofs.Known.{Selected, told}
use Rattle.air_align.proofs.Bytes.{four, written}
use Rattle.air_align.proofs.Steps.{sign_byte, multiple, places}

-- a byte after a store of n bytes at this offset: the value's, or the old one
abbrev pub stored : ℕ → ℕ → (ℕ → ℕ) → ℕ → ℕ
stored n off f m = cond (nat_le off m && nat_lt m (off + n)) (f (28 + (m - off))) (f (20 + m))

abbrev pub low_four : (ℕ → ℕ) → ℕ
low_four b = four (b 0) (b 1) (b 2) (b 3)

abbrev pub high_four : (ℕ → ℕ) → ℕ
high_four b = four (b 4) (b 5) (b 6) (b 7)

-- the old bytes from an offset on, as a number
abbrev pub one_byte : (ℕ → ℕ) → ℕ → ℕ
one_byte f off = f (20 + off)

abbrev pub two_bytes : (ℕ → ℕ) → ℕ → ℕ
two_bytes f off = f (20 + off) + 256 * f (20 + (off + 1))

abbrev pub four_bytes : (ℕ → ℕ) → ℕ → ℕ
four_bytes f off = four (f (20 + off)) (f (20 + (off + 1))) (f (20 + (off + 2))) (f (20 + (off + 3)))

-- the limbs of the result
abbrev pub low_result : Kind → ℕ → (ℕ → ℕ) → ℕ
low_result kinds.Lb off f = one_byte f off + f 36 * 4294967040
low_result kinds.Lh off f = two_bytes f off + f 36 * 4294901760
low_result kinds.Lw off f = four_bytes f off
low_result kinds.Ld off f = low_four (λ m. f (20 + m))
low_result kinds.Lbu off f = one_byte f off
low_result kinds.Lhu off f = two_bytes f off
low_result kinds.Lwu off f = four_bytes f off
low_result kinds.Sb off f = low_four (stored 1 off f)
low_result kinds.Sh off f = low_four (stored 2 off f)
low_result kinds.Sw off f = low_four (stored 4 off f)
low_result kinds.Sd off f = low_four (stored 8 off f)

abbrev pub high_result : Kind → ℕ → (ℕ → ℕ) → ℕ
high_result kinds.Lb off f = f 36 * 4294967295
high_result kinds.Lh off f = f 36 * 4294967295
high_result kinds.Lw off f = f 36 * 4294967295
high_result kinds.Ld off f = high_four (λ m. f (20 + m))
high_result kinds.Lbu off f = 0
high_result kinds.Lhu off f = 0
high_result kinds.Lwu off f = 0
high_result kinds.Sb off f = high_four (stored 1 off f)
high_result kinds.Sh off f = high_four (stored 2 off f)
high_result kinds.Sw off f = high_four (stored 4 off f)
high_result kinds.Sd off f = high_four (stored 8 off f)

-- a selected row whose kind has the number n, at the offset j
pub record Op (x : Cells) (n j : ℕ) : Type 0 where
  pub selected : Selected x
  pub kind : AllMeet (flags n 1 11) (x.column 0 9)
  pub offset : AllMeet (flags (12 + j) 12 8) (x.column 0 9)

abbrev hot : ℕ → ℕ → List (ℕ × Fact)
hot n j = (0, is 1) ∷ flags n 1 11 ++ (flags (12 + j) 12 8 ++ told)

row : (x : Cells) (n j : ℕ) → Op x n j → Row items x 9 (here (hot n j))
row x n j o = o.selected.row _ (o.selected.one, meet_both (flags n 1 11) (flags (12 + j) 12 8 ++ told) (x.column 0 9) o.kind (meet_both (flags (12 + j) 12 8) told (x.column 0 9) o.offset o.selected.within))

pub record Said (k : Kind) (off : ℕ) (x : Cells) : Type 0 where
  pub number : value items x A.kind ≡ kind_number k
  pub offset : value items x A.off ≡ off
  pub low : value items x A.mlo ≡ low_result k off (x.column 0 9)
  pub high : value items x A.mhi ≡ high_result k off (x.column 0 9)
  pub sign : sign_byte k (x.column 0 9) off ≡ 128 * x.column 0 9 36 + x.column 0 9 37

abbrev pub Says : Kind → ℕ → Type 0
Says k off = (x : Cells) → Op x (kind_number k) off → Said k off x

lb : Each (λ j. Says kinds.Lb (1 * j)) 8
unfolding kind_number
lb = (
  λ x o. let r = row x 1 0 o in record { number = amount r A.kind refl; offset = amount r A.off refl; low = amount r A.mlo refl; high = amount r A.mhi refl; sign = line r (item_at items 53) (o.selected.meets 53) refl },
  (
    λ x o. let r = row x 1 1 o in record { number = amount r A.kind refl; offset = amount r A.off refl; low = amount r A.mlo refl; high = amount r A.mhi refl; sign = line r (item_at items 53) (o.selected.meets 53) refl },
    (
      λ x o. let r = row x 1 2 o in record { number = amount r A.kind refl; offset = amount r A.off refl; low = amount r A.mlo refl; high = amount r A.mhi refl; sign = line r (item_at items 53) (o.selected.meets 53) refl },
      (
        λ x o. let r = row x 1 3 o in record { number = amount r A.kind refl; offset = amount r A.off refl; low = amount r A.mlo refl; high = amount r A.mhi refl; sign = line r (item_at items 53) (o.selected.meets 53) refl },
        (
          λ x o. let r = row x 1 4 o in record { number = amount r A.kind refl; offset = amount r A.off refl; low = amount r A.mlo refl; high = amount r A.mhi refl; sign = line r (item_at items 53) (o.selected.meets 53) refl },
          (
            λ x o. let r = row x 1 5 o in record { number = amount r A.kind refl; offset = amount r A.off refl; low = amount r A.mlo refl; high = amount r A.mhi refl; sign = line r (item_at items 53) (o.selected.meets 53) refl },
            (
              λ x o. let r = row x 1 6 o in record { number = amount r A.kind refl; offset = amount r A.off refl; low = amount r A.mlo refl; high = amount r A.mhi refl; sign = line r (item_at items 53) (o.selected.meets 53) refl },
              (
                λ x o. let r = row x 1 7 o in record { number = amount r A.kind refl; offset = amount r A.off refl; low = amount r A.mlo refl; high = amount r A.mhi refl; sign = line r (item_at items 53) (o.selected.meets 53) refl },
                tt,
              ),
            ),
          ),
        ),
      ),
    ),
  ),
)

lh : Each (λ j. Says kinds.Lh (2 * j)) 4
unfolding kind_number
lh = (
  λ x o. let r = row x 2 0 o in record { number = amount r A.kind refl; offset = amount r A.off refl; low = amount r A.mlo refl; high = amount r A.mhi refl; sign = line r (item_at items 53) (o.selected.meets 53) refl },
  (
    λ x o. let r = row x 2 2 o in record { number = amount r A.kind refl; offset = amount r A.off refl; low = amount r A.mlo refl; high = amount r A.mhi refl; sign = line r (item_at items 53) (o.selected.meets 53) refl },
    (
      λ x o. let r = row x 2 4 o in record { number = amount r A.kind refl; offset = amount r A.off refl; low = amount r A.mlo refl; high = amount r A.mhi refl; sign = line r (item_at items 53) (o.selected.meets 53) refl },
      (
        λ x o. let r = row x 2 6 o in record { number = amount r A.kind refl; offset = amount r A.off refl; low = amount r A.mlo refl; high = amount r A.mhi refl; sign = line r (item_at items 53) (o.selected.meets 53) refl },
        tt,
      ),
    ),
  ),
)

lw : Each (λ j. Says kinds.Lw (4 * j)) 2
unfolding kind_number
lw = (
  λ x o. let r = row x 3 0 o in record { number = amount r A.kind refl; offset = amount r A.off refl; low = amount r A.mlo refl; high = amount r A.mhi refl; sign = line r (item_at items 53) (o.selected.meets 53) refl },
  (
    λ x o. let r = row x 3 4 o in record { number = amount r A.kind refl; offset = amount r A.off refl; low = amount r A.mlo refl; high = amount r A.mhi refl; sign = line r (item_at items 53) (o.selected.meets 53) refl },
    tt,
  ),
)

ld : Each (λ j. Says kinds.Ld (8 * j)) 1
unfolding kind_number
ld = (
  λ x o. let r = row x 4 0 o in record { number = amount r A.kind refl; offset = amount r A.off refl; low = amount r A.mlo refl; high = amount r A.mhi refl; sign = line r (item_at items 53) (o.selected.meets 53) refl },
  tt,
)

lbu : Each (λ j. Says kinds.Lbu (1 * j)) 8
unfolding kind_number
lbu = (
  λ x o. let r = row x 5 0 o in record { number = amount r A.kind refl; offset = amount r A.off refl; low = amount r A.mlo refl; high = amount r A.mhi refl; sign = line r (item_at items 53) (o.selected.meets 53) refl },
  (
    λ x o. let r = row x 5 1 o in record { number = amount r A.kind refl; offset = amount r A.off refl; low = amount r A.mlo refl; high = amount r A.mhi refl; sign = line r (item_at items 53) (o.selected.meets 53) refl },
    (
      λ x o. let r = row x 5 2 o in record { number = amount r A.kind refl; offset = amount r A.off refl; low = amount r A.mlo refl; high = amount r A.mhi refl; sign = line r (item_at items 53) (o.selected.meets 53) refl },
      (
        λ x o. let r = row x 5 3 o in record { number = amount r A.kind refl; offset = amount r A.off refl; low = amount r A.mlo refl; high = amount r A.mhi refl; sign = line r (item_at items 53) (o.selected.meets 53) refl },
        (
          λ x o. let r = row x 5 4 o in record { number = amount r A.kind refl; offset = amount r A.off refl; low = amount r A.mlo refl; high = amount r A.mhi refl; sign = line r (item_at items 53) (o.selected.meets 53) refl },
          (
            λ x o. let r = row x 5 5 o in record { number = amount r A.kind refl; offset = amount r A.off refl; low = amount r A.mlo refl; high = amount r A.mhi refl; sign = line r (item_at items 53) (o.selected.meets 53) refl },
            (
              λ x o. let r = row x 5 6 o in record { number = amount r A.kind refl; offset = amount r A.off refl; low = amount r A.mlo refl; high = amount r A.mhi refl; sign = line r (item_at items 53) (o.selected.meets 53) refl },
              (
                λ x o. let r = row x 5 7 o in record { number = amount r A.kind refl; offset = amount r A.off refl; low = amount r A.mlo refl; high = amount r A.mhi refl; sign = line r (item_at items 53) (o.selected.meets 53) refl },
                tt,
              ),
            ),
          ),
        ),
      ),
    ),
  ),
)

lhu : Each (λ j. Says kinds.Lhu (2 * j)) 4
unfolding kind_number
lhu = (
  λ x o. let r = row x 6 0 o in record { number = amount r A.kind refl; offset = amount r A.off refl; low = amount r A.mlo refl; high = amount r A.mhi refl; sign = line r (item_at items 53) (o.selected.meets 53) refl },
  (
    λ x o. let r = row x 6 2 o in record { number = amount r A.kind refl; offset = amount r A.off refl; low = amount r A.mlo refl; high = amount r A.mhi refl; sign = line r (item_at items 53) (o.selected.meets 53) refl },
    (
      λ x o. let r = row x 6 4 o in record { number = amount r A.kind refl; offset = amount r A.off refl; low = amount r A.mlo refl; high = amount r A.mhi refl; sign = line r (item_at items 53) (o.selected.meets 53) refl },
      (
        λ x o. let r = row x 6 6 o in record { number = amount r A.kind refl; offset = amount r A.off refl; low = amount r A.mlo refl; high = amount r A.mhi refl; sign = line r (item_at items 53) (o.selected.meets 53) refl },
        tt,
      ),
    ),
  ),
)

lwu : Each (λ j. Says kinds.Lwu (4 * j)) 2
unfolding kind_number
lwu = (
  λ x o. let r = row x 7 0 o in record { number = amount r A.kind refl; offset = amount r A.off refl; low = amount r A.mlo refl; high = amount r A.mhi refl; sign = line r (item_at items 53) (o.selected.meets 53) refl },
  (
    λ x o. let r = row x 7 4 o in record { number = amount r A.kind refl; offset = amount r A.off refl; low = amount r A.mlo refl; high = amount r A.mhi refl; sign = line r (item_at items 53) (o.selected.meets 53) refl },
    tt,
  ),
)

sb : Each (λ j. Says kinds.Sb (1 * j)) 8
unfolding kind_number
sb = (
  λ x o. let r = row x 8 0 o in record { number = amount r A.kind refl; offset = amount r A.off refl; low = written _ _ _ _ (number r A.mlo refl (omega arith)) (omega arith); high = written _ _ _ _ (number r A.mhi refl (omega arith)) (omega arith); sign = line r (item_at items 53) (o.selected.meets 53) refl },
  (
    λ x o. let r = row x 8 1 o in record { number = amount r A.kind refl; offset = amount r A.off refl; low = written _ _ _ _ (number r A.mlo refl (omega arith)) (omega arith); high = written _ _ _ _ (number r A.mhi refl (omega arith)) (omega arith); sign = line r (item_at items 53) (o.selected.meets 53) refl },
    (
      λ x o. let r = row x 8 2 o in record { number = amount r A.kind refl; offset = amount r A.off refl; low = written _ _ _ _ (number r A.mlo refl (omega arith)) (omega arith); high = written _ _ _ _ (number r A.mhi refl (omega arith)) (omega arith); sign = line r (item_at items 53) (o.selected.meets 53) refl },
      (
        λ x o. let r = row x 8 3 o in record { number = amount r A.kind refl; offset = amount r A.off refl; low = written _ _ _ _ (number r A.mlo refl (omega arith)) (omega arith); high = written _ _ _ _ (number r A.mhi refl (omega arith)) (omega arith); sign = line r (item_at items 53) (o.selected.meets 53) refl },
        (
          λ x o. let r = row x 8 4 o in record { number = amount r A.kind refl; offset = amount r A.off refl; low = written _ _ _ _ (number r A.mlo refl (omega arith)) (omega arith); high = written _ _ _ _ (number r A.mhi refl (omega arith)) (omega arith); sign = line r (item_at items 53) (o.selected.meets 53) refl },
          (
            λ x o. let r = row x 8 5 o in record { number = amount r A.kind refl; offset = amount r A.off refl; low = written _ _ _ _ (number r A.mlo refl (omega arith)) (omega arith); high = written _ _ _ _ (number r A.mhi refl (omega arith)) (omega arith); sign = line r (item_at items 53) (o.selected.meets 53) refl },
            (
              λ x o. let r = row x 8 6 o in record { number = amount r A.kind refl; offset = amount r A.off refl; low = written _ _ _ _ (number r A.mlo refl (omega arith)) (omega arith); high = written _ _ _ _ (number r A.mhi refl (omega arith)) (omega arith); sign = line r (item_at items 53) (o.selected.meets 53) refl },
              (
                λ x o. let r = row x 8 7 o in record { number = amount r A.kind refl; offset = amount r A.off refl; low = written _ _ _ _ (number r A.mlo refl (omega arith)) (omega arith); high = written _ _ _ _ (number r A.mhi refl (omega arith)) (omega arith); sign = line r (item_at items 53) (o.selected.meets 53) refl },
                tt,
              ),
            ),
          ),
        ),
      ),
    ),
  ),
)

sh : Each (λ j. Says kinds.Sh (2 * j)) 4
unfolding kind_number
sh = (
  λ x o. let r = row x 9 0 o in record { number = amount r A.kind refl; offset = amount r A.off refl; low = written _ _ _ _ (number r A.mlo refl (omega arith)) (omega arith); high = written _ _ _ _ (number r A.mhi refl (omega arith)) (omega arith); sign = line r (item_at items 53) (o.selected.meets 53) refl },
  (
    λ x o. let r = row x 9 2 o in record { number = amount r A.kind refl; offset = amount r A.off refl; low = written _ _ _ _ (number r A.mlo refl (omega arith)) (omega arith); high = written _ _ _ _ (number r A.mhi refl (omega arith)) (omega arith); sign = line r (item_at items 53) (o.selected.meets 53) refl },
    (
      λ x o. let r = row x 9 4 o in record { number = amount r A.kind refl; offset = amount r A.off refl; low = written _ _ _ _ (number r A.mlo refl (omega arith)) (omega arith); high = written _ _ _ _ (number r A.mhi refl (omega arith)) (omega arith); sign = line r (item_at items 53) (o.selected.meets 53) refl },
      (
        λ x o. let r = row x 9 6 o in record { number = amount r A.kind refl; offset = amount r A.off refl; low = written _ _ _ _ (number r A.mlo refl (omega arith)) (omega arith); high = written _ _ _ _ (number r A.mhi refl (omega arith)) (omega arith); sign = line r (item_at items 53) (o.selected.meets 53) refl },
        tt,
      ),
    ),
  ),
)

sw : Each (λ j. Says kinds.Sw (4 * j)) 2
unfolding kind_number
sw = (
  λ x o. let r = row x 10 0 o in record { number = amount r A.kind refl; offset = amount r A.off refl; low = written _ _ _ _ (number r A.mlo refl (omega arith)) (omega arith); high = written _ _ _ _ (number r A.mhi refl (omega arith)) (omega arith); sign = line r (item_at items 53) (o.selected.meets 53) refl },
  (
    λ x o. let r = row x 10 4 o in record { number = amount r A.kind refl; offset = amount r A.off refl; low = written _ _ _ _ (number r A.mlo refl (omega arith)) (omega arith); high = written _ _ _ _ (number r A.mhi refl (omega arith)) (omega arith); sign = line r (item_at items 53) (o.selected.meets 53) refl },
    tt,
  ),
)

sd : Each (λ j. Says kinds.Sd (8 * j)) 1
unfolding kind_number
sd = (
  λ x o. let r = row x 11 0 o in record { number = amount r A.kind refl; offset = amount r A.off refl; low = written _ _ _ _ (number r A.mlo refl (omega arith)) (omega arith); high = written _ _ _ _ (number r A.mhi refl (omega arith)) (omega arith); sign = line r (item_at items 53) (o.selected.meets 53) refl },
  tt,
)

says : (k : Kind) → Each (λ j. Says k (width k * j)) (8 / width k)
says kinds.Lb = lb
says kinds.Lh = lh
says kinds.Lw = lw
says kinds.Ld = ld
says kinds.Lbu = lbu
says kinds.Lhu = lhu
says kinds.Lwu = lwu
says kinds.Sb = sb
says kinds.Sh = sh
says kinds.Sw = sw
says kinds.Sd = sd

pub said : (k : Kind) (off : ℕ) → off < 8 → off % width k ≡ 0 → Says k off
said k off l e = subst (Says k) (multiple off (width k) e) (each (λ j. Says k (width k * j)) (8 / width k) (says k) (off / width k) (places k off l))

-- offsets are multiples of the width
pub one_is_not_zero : (m n : ℕ) → m ≡ 0 → n ≡ 1 → m ≡ n → ⊥
one_is_not_zero m n e f g = omega arith

evens : (j : ℕ) → j < 8 → flag_at (12 + j) 13 + flag_at (12 + j) 15 + flag_at (12 + j) 17 + flag_at (12 + j) 19 ≡ 0 → j % 2 ≡ 0
evens j l = each (λ j. flag_at (12 + j) 13 + flag_at (12 + j) 15 + flag_at (12 + j) 17 + flag_at (12 + j) 19 ≡ 0 → j % 2 ≡ 0) 8 (λ e. refl, (λ e. absurd (one_is_not_zero _ _ refl refl (sym e)), (λ e. refl, (λ e. absurd (one_is_not_zero _ _ refl refl (sym e)), (λ e. refl, (λ e. absurd (one_is_not_zero _ _ refl refl (sym e)), (λ e. refl, (λ e. absurd (one_is_not_zero _ _ refl refl (sym e)), tt)))))))) j l

fours : (j : ℕ) → j < 8 → flag_at (12 + j) 12 + flag_at (12 + j) 16 ≡ 1 → j % 4 ≡ 0
fours j l = each (λ j. flag_at (12 + j) 12 + flag_at (12 + j) 16 ≡ 1 → j % 4 ≡ 0) 8 (λ e. refl, (λ e. absurd (one_is_not_zero _ _ refl refl e), (λ e. absurd (one_is_not_zero _ _ refl refl e), (λ e. absurd (one_is_not_zero _ _ refl refl e), (λ e. refl, (λ e. absurd (one_is_not_zero _ _ refl refl e), (λ e. absurd (one_is_not_zero _ _ refl refl e), (λ e. absurd (one_is_not_zero _ _ refl refl e), tt)))))))) j l

eights : (j : ℕ) → j < 8 → flag_at (12 + j) 12 ≡ 1 → j % 8 ≡ 0
eights j l = each (λ j. flag_at (12 + j) 12 ≡ 1 → j % 8 ≡ 0) 8 (λ e. refl, (λ e. absurd (one_is_not_zero _ _ refl refl e), (λ e. absurd (one_is_not_zero _ _ refl refl e), (λ e. absurd (one_is_not_zero _ _ refl refl e), (λ e. absurd (one_is_not_zero _ _ refl refl e), (λ e. absurd (one_is_not_zero _ _ refl refl e), (λ e. absurd (one_is_not_zero _ _ refl refl e), (λ e. absurd (one_is_not_zero _ _ refl refl e), tt)))))))) j l

module _ (x : Cells) (s : Selected x) (j : ℕ) (l : j < 8) (offset : AllMeet (flags (12 + j) 12 8) (x.column 0 9)) where
  with_kind : (n : ℕ) → AllMeet (flags n 1 11) (x.column 0 9) → Row items x 9 (here ((0, is 1) ∷ flags n 1 11 ++ told))
  with_kind n h = s.row _ (s.one, meet_both (flags n 1 11) told (x.column 0 9) h s.within)

  abbrev f : ℕ → ℕ
  f = x.column 0 9

  flag : (k : ℕ) → MeetsFound (f k) (found (flags (12 + j) 12 8) k)
  flag = fact (flags (12 + j) 12 8) f offset

  even : f 13 + f 15 + f 17 + f 19 ≡ 0 → j % 2 ≡ 0
  even e = evens j l ((λ i. sym (flag 13) i + sym (flag 15) i + sym (flag 17) i + sym (flag 19) i) ∙ e)

  four_even : 1 ≡ f 12 + f 16 → j % 4 ≡ 0
  four_even e = fours j l ((λ i. sym (flag 12) i + sym (flag 16) i) ∙ sym e)

  eight_even : 1 ≡ f 12 → j % 8 ≡ 0
  eight_even e = eights j l (sym (flag 12) ∙ sym e)

  pub is_multiple : (k : Kind) → AllMeet (flags (kind_number k) 1 11) f → j % width k ≡ 0
  unfolding kind_number
  is_multiple kinds.Lb h = omega arith
  is_multiple kinds.Lh h = even (line (with_kind 2 h) (item_at items 50) (s.meets 50) refl)
  is_multiple kinds.Lw h = four_even (line (with_kind 3 h) (item_at items 51) (s.meets 51) refl)
  is_multiple kinds.Ld h = eight_even (line (with_kind 4 h) (item_at items 52) (s.meets 52) refl)
  is_multiple kinds.Lbu h = omega arith
  is_multiple kinds.Lhu h = even (line (with_kind 6 h) (item_at items 50) (s.meets 50) refl)
  is_multiple kinds.Lwu h = four_even (line (with_kind 7 h) (item_at items 51) (s.meets 51) refl)
  is_multiple kinds.Sb h = omega arith
  is_multiple kinds.Sh h = even (line (with_kind 9 h) (item_at items 50) (s.meets 50) refl)
  is_multiple kinds.Sw h = four_even (line (with_kind 10 h) (item_at items 51) (s.meets 51) refl)
  is_multiple kinds.Sd h = eight_even (line (with_kind 11 h) (item_at items 52) (s.meets 52) refl)
