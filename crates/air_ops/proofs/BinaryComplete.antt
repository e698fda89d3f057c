-- The row of an operation meets the lines of Binary.
use Rattle.std.proofs.Common.{lit<, ℕ, suc, ◌+◌, ◌-◌, ◌*◌, ◌%◌, ◌/◌, ◌^◌, ◌<◌, ◌≤◌, ◌≡◌, ◌≢◌, inl, inr, Bool, true, false, cond, eqb, ltb, bit_and, get_or, List, [], ◌∷◌, ◌++◌, refl, ap, sym, ◌∙◌, arith}
use Rattle.std.specs.Prelude.{slice_index, sum}
use Rattle.std.specs.Int.{to_le_bytes, w64}
use Rattle.std.proofs.lemmas.Bool.{ltb-true, cases_eq}
use Rattle.std.proofs.lemmas.Bool.Decides.{nat_tests}
use Rattle.pil_ast.specs.Term.{Namespace}
use Rattle.pil_ast.specs.Columns.{Columns}
use Rattle.pil_ast.specs.Value.{around}
use Rattle.pil_ast.specs.Holds.{sent, tuple}
use Rattle.pil_exact.proofs.Row.{Fact, is, most, AllMeet, Row, row_at, knowing, here, all_hold}
use Rattle.pil_exact.proofs.Flags.{flags, Each}
use Rattle.pil_exact.proofs.Follows.{all_said, Rest}
use Rattle.air_ops.proofs.BinarySound.{IsOp, tuple_is, add_is, sub_is, ltu_is, lt_is, eq_is, and_is, or_is, xor_is, addw_is, subw_is, sh1add_is, sh2add_is, sh3add_is, czeqz_is, cznez_is}
use Rattle.air_ops.proofs.Limbwise.{IsAnd, joined}
use Rattle.air_ops.proofs.BinaryLines.{byte_le, half_le, sign_le, bit_le, seven_le, fifteen_le, low_bytes, high_bytes, low_halves, high_halves, top_byte, top_half, low_sum_line, high_sum_line, low_scaled_line, high_scaled_line, low_difference_line, high_difference_line, one_le, carry_le, high_carry_le, no_halves, some_halves, some_bytes, no_bytes, apart_is}
use Rattle.air_ops.proofs.BinarySelected.{bytes, halves, small}
use Rattle.rv_word.specs.declared.instr.OpNo.{OpNo}
use Rattle.rv_word.specs.declared.instr.OpNo.TheVariants as ops
use Rattle.rv_word.specs.Numbers.{op_number}
use Rattle.machine_text.specs.Binary.{space, items, sel, operation}
use Rattle.zk_layout.specs.declared.air.Air.TheVariants as airs
use Rattle.air_ops.proofs.Pairs.{◌▸◌}
use Rattle.air_ops.proofs.Airs.{operations, of_binary}
use Rattle.step_rows.specs.Words.{one_if, flags as flags_of}
use Rattle.step_rows.specs.Tuples.{op_tuple}
use Rattle.step_rows.specs.BinaryRow.{binary_row, worked, subtracts, scales, factor, tells, left_over, low_carry, high_carry, low_borrow, high_borrow}
use Rattle.air_ops.specs.Tables.{Meets, HasRow}
use Rattle.air_ops.specs.Binary.{HasBinary, AllowsPadding, IsComplete}

pub binary_padding : AllowsPadding
binary_padding ns c i r has z =
    all_hold ns c 10 i r space has.stands items refl (all_said ns c has.tables (row_at items ns c 10 i r ((0, is 0) ∷ []) has.in_field (z, tt)) sel items small tt)

-- two limbs that are those of a number
whole_of : (v lo hi : ℕ) → lo ≡ v % 4294967296 → hi ≡ v / 4294967296 → joined lo hi ≡ v
whole_of v lo hi e g = omega arith

set_on : (x : ℕ) → x ≡ 1 → x ≢ 0
set_on x e z = omega arith

-- columns that have the values of a list
abbrev pub exactly_from : ℕ → List ℕ → List (ℕ × Fact)
exactly_from k [] = []
exactly_from k (v ∷ vs) = (k, is v) ∷ exactly_from (suc k) vs

-- bounds of all columns but the flags, the carries and `eq`
abbrev bounded : List (ℕ × Fact)
bounded =
    (0, is 1)
    ∷ (16, most 255) ∷ (17, most 255) ∷ (18, most 255) ∷ (19, most 255) ∷ (20, most 255) ∷ (21, most 255) ∷ (22, most 255) ∷ (23, most 255)
    ∷ (24, most 255) ∷ (25, most 255) ∷ (26, most 255) ∷ (27, most 255) ∷ (28, most 255) ∷ (29, most 255) ∷ (30, most 255) ∷ (31, most 255)
    ∷ (40, most 65535) ∷ (41, most 65535) ∷ (42, most 65535) ∷ (43, most 65535)
    ∷ (48, most 1) ∷ (49, most 127) ∷ (50, most 1) ∷ (51, most 127) ∷ (52, most 1) ∷ (53, most 32767) ∷ []

anded : (x y n u v : ℕ) → x ≡ u → y ≡ v → n ≡ bit_and u v → x ≤ 255 → y ≤ 255 → IsAnd x y n
anded x y n u v e f g h k = (h, k, g ∙ (λ j. bit_and (sym e j) (sym f j)))

below_2_64 : (x : ℕ) → x % 2 ^ 64 < 2 ^ 64
below_2_64 x = omega arith

either_fits : (t : Bool) (x y : ℕ) → x < 2 ^ 64 → y < 2 ^ 64 → cond t x y < 2 ^ 64
either_fits true x y h k = h
either_fits false x y h k = k

worked_fits : (o : OpNo) (a b : ℕ) → worked o a b < 2 ^ 64
worked_fits o a b = either_fits (subtracts o) _ _ (below_2_64 _) (below_2_64 _)

test_off : (x y : ℕ) → x ≢ y → eqb x y ≡ false
test_off x y h = grind (arith, nat_tests)

test_on : (x y : ℕ) → x ≡ y → eqb x y ≡ true
test_on x y h = grind (arith, nat_tests)

-- the limbs of what is left over are small
few_4 : (x v : ℕ) → v < 2 ^ 64 → x ≡ (0 + v / 1 % 65536 + v / 65536 % 65536 + v / 4294967296 % 65536 + v / 281474976710656 % 65536 - 1) / 65536 → x ≤ 65535
few_4 x v h e = omega arith

few_8 : (x v : ℕ) → x ≡ (0 + v % 256 + v / 256 % 256 + v / 65536 % 256 + v / 16777216 % 256 + v / 4294967296 % 256 + v / 1099511627776 % 256 + v / 281474976710656 % 256 + v / 72057594037927936 % 256 - 1) / 65536 → x ≤ 65535
few_8 x v e = omega arith

few : (x m : ℕ) → x ≤ m → m ≤ 8 → x ≤ 65535
few x m h k = omega arith

-- what the operations have in the other columns
abbrev plain : List (ℕ × Fact)
plain = (44, most 1) ∷ (45, most 1) ∷ (46, is 0) ∷ (47, is 0) ∷ (54, is 0) ∷ (55, is 0) ∷ (56, is 0) ∷ []

abbrev with_factor : List (ℕ × Fact)
with_factor = (46, most 65535) ∷ (47, most 65535) ∷ (44, is 0) ∷ (45, is 0) ∷ (54, is 0) ∷ (55, is 0) ∷ (56, is 0) ∷ []

abbrev telling : ℕ → List (ℕ × Fact)
telling v = (44, most 1) ∷ (45, most 1) ∷ (46, is 0) ∷ (47, is 0) ∷ (54, is v) ∷ (55, most 65535) ∷ (56, most 65535) ∷ []

module _ (ns : List Namespace) (c : Columns) (i r : ℕ) (has : HasBinary ns c) (a b : ℕ) (la : a < 2 ^ 64) (lb : b < 2 ^ 64) where
  abbrev pub f : ℕ → ℕ
  f k = c.at 10 i k r

  abbrev al : ℕ
  al = bytes f 16

  abbrev ah : ℕ
  ah = bytes f 20

  abbrev bl : ℕ
  bl = bytes f 24

  abbrev bh : ℕ
  bh = bytes f 28

  abbrev zl : ℕ
  zl = halves f 40

  abbrev zh : ℕ
  zh = halves f 42

  -- what a selected row needs for the look-ups of bytes and for its signs
  abbrev Anded : ℕ → Type 0
  Anded k = IsAnd (f (16 + k)) (f (24 + k)) (f (32 + k)) × Unit {0}

  abbrev Line : Type 0 → Type 0
  Line P = P × (true ≡ true)

  by_line : {P : Type 0} → P → Line P
  by_line h = (h, refl)

  abbrev Needed : Type 0 → Type 0
  Needed X = Anded 0 × (Anded 1 × (Anded 2 × (Anded 3 × (Anded 4 × (Anded 5 × (Anded 6 × (Anded 7 × (Line (f 23 ≡ 128 * f 48 + f 49) × (Line (f 31 ≡ 128 * f 50 + f 51) × (Line (f 41 ≡ 32768 * f 52 + f 53) × X))))))))))

  module _ (o : OpNo) (is_row : HasRow c 10 i r (binary_row o a b)) where
    pub at : (k : ℕ) → ltb k 57 ≡ true → f k ≡ slice_index (binary_row o a b) k
    at k h = is_row k (ltb-true k 57 h)

    pub flagged : AllMeet (exactly_from 1 (flags_of (op_number o) 1 10 ++ flags_of (op_number o) 30 5)) f
    flagged = (at 1 refl, (at 2 refl, (at 3 refl, (at 4 refl, (at 5 refl, (at 6 refl, (at 7 refl, (at 8 refl, (at 9 refl, (at 10 refl, (at 11 refl, (at 12 refl, (at 13 refl, (at 14 refl, (at 15 refl, tt)))))))))))))))

    pub al_is : al ≡ a % 4294967296
    al_is = low_bytes _ _ _ _ a (at 16 refl) (at 17 refl) (at 18 refl) (at 19 refl)

    pub ah_is : ah ≡ a / 4294967296
    ah_is = high_bytes _ _ _ _ a la (at 20 refl) (at 21 refl) (at 22 refl) (at 23 refl)

    pub bl_is : bl ≡ b % 4294967296
    bl_is = low_bytes _ _ _ _ b (at 24 refl) (at 25 refl) (at 26 refl) (at 27 refl)

    pub bh_is : bh ≡ b / 4294967296
    bh_is = high_bytes _ _ _ _ b lb (at 28 refl) (at 29 refl) (at 30 refl) (at 31 refl)

    zl_is : zl ≡ worked o a b % 4294967296
    zl_is = low_halves _ _ (worked o a b) (at 40 refl) (at 41 refl)

    zh_is : zh ≡ worked o a b / 4294967296
    zh_is = high_halves _ _ (worked o a b) (worked_fits o a b) (at 42 refl) (at 43 refl)

    met : AllMeet bounded f
    met = at 0 refl ▸ byte_le _ a (at 16 refl) ▸ byte_le _ _ (at 17 refl) ▸ byte_le _ _ (at 18 refl) ▸ byte_le _ _ (at 19 refl) ▸ byte_le _ _ (at 20 refl) ▸ byte_le _ _ (at 21 refl) ▸ byte_le _ _ (at 22 refl) ▸ byte_le _ _ (at 23 refl) ▸ byte_le _ b (at 24 refl) ▸ byte_le _ _ (at 25 refl) ▸ byte_le _ _ (at 26 refl) ▸ byte_le _ _ (at 27 refl) ▸ byte_le _ _ (at 28 refl) ▸ byte_le _ _ (at 29 refl) ▸ byte_le _ _ (at 30 refl) ▸ byte_le _ _ (at 31 refl) ▸ half_le _ _ (at 40 refl) ▸ half_le _ _ (at 41 refl) ▸ half_le _ _ (at 42 refl) ▸ half_le _ _ (at 43 refl) ▸ sign_le _ a (at 48 refl) la ▸ seven_le _ _ (at 49 refl) ▸ sign_le _ b (at 50 refl) lb ▸ seven_le _ _ (at 51 refl) ▸ bit_le _ _ (at 52 refl) ▸ fifteen_le _ _ (at 53 refl) ▸ tt

    one_anded : (k : ℕ) (u v : ℕ) → f (16 + k) ≡ u → f (24 + k) ≡ v → f (32 + k) ≡ bit_and u v → f (16 + k) ≤ 255 → f (24 + k) ≤ 255 → Anded k
    one_anded k u v e g h l m = (anded _ _ _ u v e g h l m, tt)

    needed : {X : Type 0} → X → Needed X
    needed x = one_anded 0 _ _ (at 16 refl) (at 24 refl) (at 32 refl) (byte_le _ a (at 16 refl)) (byte_le _ b (at 24 refl)) ▸ one_anded 1 _ _ (at 17 refl) (at 25 refl) (at 33 refl) (byte_le _ _ (at 17 refl)) (byte_le _ _ (at 25 refl)) ▸ one_anded 2 _ _ (at 18 refl) (at 26 refl) (at 34 refl) (byte_le _ _ (at 18 refl)) (byte_le _ _ (at 26 refl)) ▸ one_anded 3 _ _ (at 19 refl) (at 27 refl) (at 35 refl) (byte_le _ _ (at 19 refl)) (byte_le _ _ (at 27 refl)) ▸ one_anded 4 _ _ (at 20 refl) (at 28 refl) (at 36 refl) (byte_le _ _ (at 20 refl)) (byte_le _ _ (at 28 refl)) ▸ one_anded 5 _ _ (at 21 refl) (at 29 refl) (at 37 refl) (byte_le _ _ (at 21 refl)) (byte_le _ _ (at 29 refl)) ▸ one_anded 6 _ _ (at 22 refl) (at 30 refl) (at 38 refl) (byte_le _ _ (at 22 refl)) (byte_le _ _ (at 30 refl)) ▸ one_anded 7 _ _ (at 23 refl) (at 31 refl) (at 39 refl) (byte_le _ _ (at 23 refl)) (byte_le _ _ (at 31 refl)) ▸ by_line (top_byte _ _ _ a la (at 23 refl) (at 48 refl) (at 49 refl)) ▸ by_line (top_byte _ _ _ b lb (at 31 refl) (at 50 refl) (at 51 refl)) ▸ by_line (top_half _ _ _ (worked o a b) (at 41 refl) (at 52 refl) (at 53 refl)) ▸ x

    rowed : (k : ℕ) (es : List (ℕ × Fact)) → AllMeet (flags k 1 15) f → AllMeet es f → Row items (around ns c 10 i r) 10 (here (flags k 1 15 ++ (es ++ bounded)))
    rowed k es h j = knowing (flags k 1 15) h (knowing es j (row_at items ns c 10 i r bounded has.in_field met))

    holds : (k : ℕ) (es : List (ℕ × Fact)) → AllMeet (flags k 1 15) f → AllMeet es f → Rest items (around ns c 10 i r) 10 (here (flags k 1 15 ++ (es ++ bounded))) (sent ns c) items → Meets ns c i r items
    holds k es h j rest = all_hold ns c 10 i r space has.stands items refl (all_said ns c has.tables (rowed k es h j) sel items small rest)

    -- what the lines of a selected row say of it
    abbrev Law : ℕ → Type 0
    Law k = (m : Meets ns c i r items) (on : f 0 ≢ 0) → AllMeet (flags k 1 15) f → IsOp ns c i r has m on o

    abbrev Whole : Type 0
    Whole = Meets ns c i r items × (tuple ns c 10 i r operation.terms ≡ op_tuple o a b)

    -- the lines, with the tuple that they then give
    whole : (k : ℕ) → AllMeet (flags k 1 15) f → Meets ns c i r items → Law k → Whole
    whole k h m law =
        let on : f 0 ≢ 0 = set_on (f 0) (at 0 refl) in
        (m, tuple_is ns c i r has m on ∙ (law m on h).1 ∙ (λ j. op_tuple o (whole_of a al ah al_is ah_is j) (whole_of b bl bh bl_is bh_is j)))

    -- the kinds of operations: those that add, those that add a multiple of a, those that subtract; and those that leave `eq` 0
    abbrev Adds : Type 0
    Adds = (subtracts o ≡ false) × (scales o ≡ false) × (factor o ≡ 1)

    abbrev Scales : ℕ → Type 0
    Scales m = (subtracts o ≡ false) × (scales o ≡ true) × (factor o ≡ m)

    abbrev Subtracts : Type 0
    Subtracts = (subtracts o ≡ true) × (scales o ≡ false)

    abbrev Quiet : Type 0
    Quiet = (tells o a b ≡ 0) × (left_over o a b ≡ 0)

    -- their carries and borrows
    low_k : Adds → f 44 ≡ low_carry 1 a b
    low_k e = at 44 refl ∙ ap (λ t. cond t (low_borrow a b) (cond (scales o) 0 (low_carry 1 a b))) e.0 ∙ ap (λ t. cond t 0 (low_carry 1 a b)) e.1

    high_k : Adds → f 45 ≡ high_carry 1 a b
    high_k e = at 45 refl ∙ ap (λ t. cond t (high_borrow a b) (cond (scales o) 0 (high_carry 1 a b))) e.0 ∙ ap (λ t. cond t 0 (high_carry 1 a b)) e.1

    no_j : scales o ≡ false → (f 46 ≡ 0) × (f 47 ≡ 0)
    no_j e = (at 46 refl ∙ ap (λ t. cond t (low_carry (factor o) a b) 0) e, at 47 refl ∙ ap (λ t. cond t (high_carry (factor o) a b) 0) e)

    low_b : Subtracts → f 44 ≡ low_borrow a b
    low_b e = at 44 refl ∙ ap (λ t. cond t (low_borrow a b) (cond (scales o) 0 (low_carry 1 a b))) e.0

    high_b : Subtracts → f 45 ≡ high_borrow a b
    high_b e = at 45 refl ∙ ap (λ t. cond t (high_borrow a b) (cond (scales o) 0 (high_carry 1 a b))) e.0

    no_k : (m : ℕ) → Scales m → (f 44 ≡ 0) × (f 45 ≡ 0)
    no_k m e = (
      at 44 refl ∙ ap (λ t. cond t (low_borrow a b) (cond (scales o) 0 (low_carry 1 a b))) e.0 ∙ ap (λ t. cond t 0 (low_carry 1 a b)) e.1,
      at 45 refl ∙ ap (λ t. cond t (high_borrow a b) (cond (scales o) 0 (high_carry 1 a b))) e.0 ∙ ap (λ t. cond t 0 (high_carry 1 a b)) e.1,
    )

    low_j : (m : ℕ) → Scales m → f 46 ≡ low_carry m a b
    low_j m e = at 46 refl ∙ ap (λ t. cond t (low_carry (factor o) a b) 0) e.1 ∙ ap (λ m. low_carry m a b) e.2

    high_j : (m : ℕ) → Scales m → f 47 ≡ high_carry m a b
    high_j m e = at 47 refl ∙ ap (λ t. cond t (high_carry (factor o) a b) 0) e.1 ∙ ap (λ m. high_carry m a b) e.2

    quiet : Quiet → (f 54 ≡ 0) × (f 55 ≡ 0) × (f 56 ≡ 0)
    quiet q = (at 54 refl ∙ q.0, at 55 refl ∙ ap (λ z. z % 65536) q.1, at 56 refl ∙ ap (λ z. z / 65536) q.1)

    -- lines 123 and 124 of each kind
    sum_is : subtracts o ≡ false → (m : ℕ) → factor o ≡ m → worked o a b ≡ (m * a + b) % 2 ^ 64
    sum_is e m g = ap (λ t. cond t ((a + (2 ^ 64 - b)) % 2 ^ 64) ((factor o * a + b) % 2 ^ 64)) e ∙ ap (λ m. (m * a + b) % 2 ^ 64) g

    summed : {X : Type 0} → Adds → X → Needed (Line (al + bl ≡ zl + 4294967296 * f 44) × (Line (ah + bh + f 44 ≡ zh + 4294967296 * f 45) × X))
    summed e x =
        let w = sum_is e.0 1 e.2 in
        needed (by_line (low_sum_line a b _ _ _ _ al_is bl_is (zl_is ∙ ap (λ z. z % 4294967296) w) (low_k e)) ▸ by_line (high_sum_line a b _ _ _ _ _ ah_is bh_is (zh_is ∙ ap (λ z. z / 4294967296) w) (low_k e) (high_k e)) ▸ x)

    scaled : (m : ℕ) → Scales m → Needed (Line (m * al + bl ≡ zl + 4294967296 * f 46) × (Line (m * ah + bh + f 46 ≡ zh + 4294967296 * f 47) × Unit {0}))
    scaled m e =
        let w = sum_is e.0 m e.2 in
        needed (by_line (low_scaled_line m a b _ _ _ _ al_is bl_is (zl_is ∙ ap (λ z. z % 4294967296) w) (low_j m e)) ▸ by_line (high_scaled_line m a b _ _ _ _ _ ah_is bh_is (zh_is ∙ ap (λ z. z / 4294967296) w) (low_j m e) (high_j m e)) ▸ tt)

    differing : {X : Type 0} → Subtracts → X → Needed (Line (bl + zl ≡ al + 4294967296 * f 44) × (Line (bh + zh + f 44 ≡ ah + 4294967296 * f 45) × X))
    differing e x =
        let w : worked o a b ≡ (a + (2 ^ 64 - b)) % 2 ^ 64 = ap (λ t. cond t ((a + (2 ^ 64 - b)) % 2 ^ 64) ((factor o * a + b) % 2 ^ 64)) e.0 in
        needed (by_line (low_difference_line a b _ _ _ _ la lb al_is bl_is (zl_is ∙ ap (λ z. z % 4294967296) w) (low_b e)) ▸ by_line (high_difference_line a b _ _ _ _ _ la lb ah_is bh_is (zh_is ∙ ap (λ z. z / 4294967296) w) (low_b e) (high_b e)) ▸ x)

    -- The whole of each kind's operations: `rest` tells that these lines are what the flags leave open.
    abbrev Open : ℕ → List (ℕ × Fact) → Type 0
    Open k es = Rest items (around ns c 10 i r) 10 (here (flags k 1 15 ++ (es ++ bounded))) (sent ns c) items

    adds : (k : ℕ) → Adds → Quiet → AllMeet (flags k 1 15) f → (Needed (Line (al + bl ≡ zl + 4294967296 * f 44) × (Line (ah + bh + f 44 ≡ zh + 4294967296 * f 45) × Unit {0})) → Open k plain) → Law k → Whole
    adds k e q h rest law =
        let u = quiet q in
        whole k h (holds k plain h (carry_le _ 1 a b (lit< tt) (low_k e) ▸ high_carry_le _ 1 a b (lit< tt) la lb (high_k e) ▸ (no_j e.1).0 ▸ (no_j e.1).1 ▸ u.0 ▸ u.1 ▸ u.2 ▸ tt) (rest (summed e tt))) law

    subtract : (k : ℕ) → Subtracts → Quiet → AllMeet (flags k 1 15) f → (Needed (Line (bl + zl ≡ al + 4294967296 * f 44) × (Line (bh + zh + f 44 ≡ ah + 4294967296 * f 45) × Unit {0})) → Open k plain) → Law k → Whole
    subtract k e q h rest law =
        let u = quiet q in
        whole k h (holds k plain h (one_le _ _ (low_b e) ▸ one_le _ _ (high_b e) ▸ (no_j e.1).0 ▸ (no_j e.1).1 ▸ u.0 ▸ u.1 ▸ u.2 ▸ tt) (rest (differing e tt))) law

    scale : (k m : ℕ) → m ≤ 8 → Scales m → Quiet → AllMeet (flags k 1 15) f → (Needed (Line (m * al + bl ≡ zl + 4294967296 * f 46) × (Line (m * ah + bh + f 46 ≡ zh + 4294967296 * f 47) × Unit {0})) → Open k with_factor) → Law k → Whole
    scale k m l e q h rest law =
        let u = quiet q in
        whole k h (holds k with_factor h (few _ m (carry_le _ m a b l (low_j m e)) l ▸ few _ m (high_carry_le _ m a b l la lb (high_j m e)) l ▸ (no_k m e).0 ▸ (no_k m e).1 ▸ u.0 ▸ u.1 ▸ u.2 ▸ tt) (rest (scaled m e))) law

    -- the conditional zeros: `eq` tells whether b is 0
    abbrev Tested : Type 0 → Type 0
    Tested P = Needed (Line (al + bl ≡ zl + 4294967296 * f 44) × (Line (ah + bh + f 44 ≡ zh + 4294967296 * f 45) × (Line P × Unit {0})))

    zeroes : (k : ℕ) → Adds → tells o a b ≡ one_if (eqb b 0) → left_over o a b ≡ sum (to_le_bytes w64 b) - 1 → AllMeet (flags k 1 15) f → (Tested (f 24 + f 25 + f 26 + f 27 + f 28 + f 29 + f 30 + f 31 ≡ 0) → Open k (telling 1)) → (Tested (f 24 + f 25 + f 26 + f 27 + f 28 + f 29 + f 30 + f 31 ≡ 1 + halves f 55) → Open k (telling 0)) → Law k → Whole
    zeroes k e t v h one none law =
        let low : f 55 ≡ (sum (to_le_bytes w64 b) - 1) % 65536 = at 55 refl ∙ ap (λ z. z % 65536) v in
        let high : f 56 ≡ (sum (to_le_bytes w64 b) - 1) / 65536 = at 56 refl ∙ ap (λ z. z / 65536) v in
        let met : (n : ℕ) → one_if (eqb b 0) ≡ n → AllMeet (telling n) f =
        λ n g. carry_le _ 1 a b (lit< tt) (low_k e) ▸ high_carry_le _ 1 a b (lit< tt) la lb (high_k e) ▸ (no_j e.1).0 ▸ (no_j e.1).1 ▸ (at 54 refl ∙ t ∙ g) ▸ half_le _ _ low ▸ few_8 _ b high ▸ tt in
        whole k h (elim (cases_eq b 0) [
          | inl z ↦ holds k (telling 1) h (met 1 (ap one_if (test_on b 0 z))) (one (summed e (by_line (no_bytes b _ _ _ _ _ _ _ _ lb (at 24 refl) (at 25 refl) (at 26 refl) (at 27 refl) (at 28 refl) (at 29 refl) (at 30 refl) (at 31 refl) z), tt)))
          | inr z ↦ holds k (telling 0) h (met 0 (ap one_if (test_off b 0 z))) (none (summed e (by_line (some_bytes b _ _ _ _ _ _ _ _ lb (at 24 refl) (at 25 refl) (at 26 refl) (at 27 refl) (at 28 refl) (at 29 refl) (at 30 refl) (at 31 refl) _ _ z low high), tt)))
        ]) law

  eq_whole : HasRow c 10 i r (binary_row ops.Eq a b) → Meets ns c i r items × (tuple ns c 10 i r operation.terms ≡ op_tuple ops.Eq a b)
  unfolding op_number
  eq_whole h =
      let e : (k : ℕ) → ltb k 57 ≡ true → f k ≡ slice_index (binary_row ops.Eq a b) k = at ops.Eq h in
      let v = worked ops.Eq a b in
      let met : (n : ℕ) → one_if (eqb a b) ≡ n → AllMeet (telling n) f =
      λ n g. one_le _ _ (e 44 refl) ▸ one_le _ _ (e 45 refl) ▸ e 46 refl ▸ e 47 refl ▸ (e 54 refl ∙ g) ▸ half_le _ _ (e 55 refl) ▸ few_4 _ v (worked_fits ops.Eq a b) (e 56 refl) ▸ tt in
      whole ops.Eq h 5 (flagged ops.Eq h) (elim (cases_eq a b) [
        | inl z ↦ holds ops.Eq h 5 (telling 1) (flagged ops.Eq h) (met 1 (ap one_if (test_on a b z))) (differing ops.Eq h (refl, refl) (by_line (no_halves a b _ _ _ _ z lb (e 40 refl) (e 41 refl) (e 42 refl) (e 43 refl)), tt))
        | inr z ↦ holds ops.Eq h 5 (telling 0) (flagged ops.Eq h) (met 0 (ap one_if (test_off a b z))) (differing ops.Eq h (refl, refl) (by_line (some_halves v _ _ _ _ _ _ (worked_fits ops.Eq a b) (apart_is a b la lb z) (e 40 refl) (e 41 refl) (e 42 refl) (e 43 refl) (e 55 refl) (e 56 refl)), tt))
      ]) (eq_is ns c i r has)

  abbrev pub Done : OpNo → Type 0
  Done o = HasRow c 10 i r (binary_row o a b) → Meets ns c i r items × (tuple ns c 10 i r operation.terms ≡ op_tuple o a b)

  pub each_done : Each (λ j. Done (get_or (operations airs.Binary) j ops.Add)) 15
  unfolding op_number
  each_done =
      (λ h. adds ops.Add h 1 (refl, refl, refl) (refl, refl) (flagged ops.Add h) (λ r. r) (add_is ns c i r has))
      ▸ (λ h. subtract ops.Sub h 2 (refl, refl) (refl, refl) (flagged ops.Sub h) (λ r. r) (sub_is ns c i r has))
      ▸ (λ h. subtract ops.Ltu h 3 (refl, refl) (refl, refl) (flagged ops.Ltu h) (λ r. r) (ltu_is ns c i r has))
      ▸ (λ h. subtract ops.Lt h 4 (refl, refl) (refl, refl) (flagged ops.Lt h) (λ r. r) (lt_is ns c i r has))
      ▸ eq_whole
      ▸ (λ h. adds ops.And h 6 (refl, refl, refl) (refl, refl) (flagged ops.And h) (λ r. r) (and_is ns c i r has))
      ▸ (λ h. adds ops.Or h 7 (refl, refl, refl) (refl, refl) (flagged ops.Or h) (λ r. r) (or_is ns c i r has))
      ▸ (λ h. adds ops.Xor h 8 (refl, refl, refl) (refl, refl) (flagged ops.Xor h) (λ r. r) (xor_is ns c i r has))
      ▸ (λ h. adds ops.Addw h 9 (refl, refl, refl) (refl, refl) (flagged ops.Addw h) (λ r. r) (addw_is ns c i r has))
      ▸ (λ h. subtract ops.Subw h 10 (refl, refl) (refl, refl) (flagged ops.Subw h) (λ r. r) (subw_is ns c i r has))
      ▸ (λ h. scale ops.Sh1add h 11 2 (lit< tt) (refl, refl, refl) (refl, refl) (flagged ops.Sh1add h) (λ r. r) (sh1add_is ns c i r has))
      ▸ (λ h. scale ops.Sh2add h 12 4 (lit< tt) (refl, refl, refl) (refl, refl) (flagged ops.Sh2add h) (λ r. r) (sh2add_is ns c i r has))
      ▸ (λ h. scale ops.Sh3add h 13 8 (lit< tt) (refl, refl, refl) (refl, refl) (flagged ops.Sh3add h) (λ r. r) (sh3add_is ns c i r has))
      ▸ (λ h. zeroes ops.Czeqz h 14 (refl, refl, refl) refl refl (flagged ops.Czeqz h) (λ r. r) (λ r. r) (czeqz_is ns c i r has))
      ▸ (λ h. zeroes ops.Cznez h 15 (refl, refl, refl) refl refl (flagged ops.Cznez h) (λ r. r) (λ r. r) (cznez_is ns c i r has))
      ▸ tt

pub binary_complete : IsComplete
binary_complete ns c i r o a b has e la lb = of_binary (Done ns c i r has a b la lb) (each_done ns c i r has a b la lb) o e
