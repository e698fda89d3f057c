-- The rows of Binary, Shift and Align are numbers of the field.
use Rattle.std.proofs.Common.{ℕ, zero, suc, ◌+◌, ◌-◌, ◌*◌, ◌/◌, ◌%◌, ◌^◌, ◌<◌, ◌≤◌, Bool, true, false, cond, eqb, List, [], ◌∷◌, ◌++◌, arith, sum}
use Rattle.std.specs.Prelude.{nat_lt, ◌==◌}
use Rattle.std.specs.Int.{byte_at, bytes_low_first, to_le_bytes, w64}
use Rattle.std.proofs.Math.Nat.{mul-le-mul}
use Rattle.std.proofs.Math.Pow.{pow_mono}
use Rattle.std.proofs.lemmas.Nat.{and_le_l}
use Rattle.gold.specs.Field.{p}
use Rattle.rv_word.specs.declared.instr.Kind.{Kind}
use Rattle.rv_word.specs.declared.instr.Kind.TheVariants as kinds
use Rattle.rv_word.specs.declared.instr.OpNo.{OpNo}
use Rattle.rv_word.specs.declared.instr.OpNo.TheVariants as ops
use Rattle.rv_word.specs.Numbers.{op_number, kind_number}
use Rattle.rv_model.specs.Op.{value_of}
use Rattle.step_rows.specs.Words.{low, high, one_if, digit, digits, flags}
use Rattle.step_rows.specs.BinaryRow as Bin
use Rattle.step_rows.specs.BinaryRow.{binary_row, worked, anded_from, subtracts, scales}
use Rattle.step_rows.specs.ShiftRow as Sh
use Rattle.step_rows.specs.ShiftRow.{shift_row}
use Rattle.step_rows.specs.AlignRow.{align_row, highest}
use Rattle.run_accepted.proofs.Cut.{IsSmallRow}

-- each number is below p
abbrev pub AreSmall : List ℕ → Type 0
AreSmall [] = Unit {0}
AreSmall (x ∷ xs) = (x < p) × AreSmall xs

pub small_row : (xs : List ℕ) → AreSmall xs → IsSmallRow xs
small_row [] h k = omega arith
small_row (x ∷ xs) h zero = h.0
small_row (x ∷ xs) h (suc k) = small_row xs h.1 k

pub join : (xs ys : List ℕ) → AreSmall xs → AreSmall ys → AreSmall (xs ++ ys)
join [] ys h k = k
join (x ∷ xs) ys h k = (h.0, join xs ys h.1 k)

-- ---- parts of rows
pub cond_small : (t : Bool) (x y : ℕ) → x < p → y < p → cond t x y < p
cond_small true x y h k = h
cond_small false x y h k = k

pub one_small : (t : Bool) → one_if t < p
one_small true = omega arith
one_small false = omega arith

pub flags_small : (j k n : ℕ) → AreSmall (flags j k n)
flags_small j k zero = tt
flags_small j k (suc n) = (one_small (eqb j k), flags_small j (suc k) n)

pub digit_small : (v i : ℕ) → digit v i < p
digit_small v i = omega arith

pub digits_small : (v i n : ℕ) → AreSmall (digits v i n)
digits_small v i zero = tt
digits_small v i (suc n) = (digit_small v i, digits_small v (suc i) n)

byte_small : (i v : ℕ) → byte_at i v < 256
byte_small zero v = omega arith
byte_small (suc i) v = omega arith

bytes_from : (i n v : ℕ) → AreSmall (bytes_low_first i n v)
bytes_from i zero v = tt
bytes_from i (suc n) v = let b = byte_small i v in (omega arith, bytes_from (suc i) n v)

pub bytes_small : (v : ℕ) → AreSmall (to_le_bytes w64 v)
bytes_small v = bytes_from 0 8 v

pub low_small : (v : ℕ) → low v < p
unfolding low
low_small v = omega arith

pub high_small : (v : ℕ) → v < 2 ^ 64 → high v < p
unfolding high
high_small v h = omega arith

pub op_small : (o : OpNo) → op_number o ≤ 34
unfolding op_number
op_small ops.Add = omega arith
op_small _ = omega arith

pub kind_small : (k : Kind) → kind_number k ≤ 11
unfolding kind_number
kind_small kinds.Lb = omega arith
kind_small _ = omega arith

-- ---- Binary
anded_small : (k n a b : ℕ) → AreSmall (anded_from k n a b)
anded_small k zero a b = tt
anded_small k (suc n) a b = let x = byte_small k a in let y = and_le_l (byte_at k a) (byte_at k b) in (omega arith, anded_small (suc k) n a b)

factor_few : (o : OpNo) → Bin.factor o ≤ 8
factor_few ops.Sh1add = omega arith
factor_few ops.Sh2add = omega arith
factor_few ops.Sh3add = omega arith
factor_few _ = omega arith

carry_few : (m x y z : ℕ) → m ≤ 8 → x < 2 ^ 32 → y < 2 ^ 32 → z ≤ 16 → (m * x + y + z) / 2 ^ 32 ≤ 16
carry_few m x y z h k l n = let w : x ≤ 2 ^ 32 = omega arith in let t : m * x ≤ 8 * 2 ^ 32 = mul-le-mul h w in omega arith

low_few : (m a b : ℕ) → m ≤ 8 → Bin.low_carry m a b ≤ 16
low_few m a b h = let t = carry_few m (a % 2 ^ 32) (b % 2 ^ 32) 0 h (omega arith) (omega arith) (omega arith) in omega arith

high_few : (m a b : ℕ) → m ≤ 8 → a < 2 ^ 64 → b < 2 ^ 64 → Bin.high_carry m a b ≤ 16
high_few m a b h k l = carry_few m (a / 2 ^ 32) (b / 2 ^ 32) (Bin.low_carry m a b) h (omega arith) (omega arith) (low_few m a b h)

few_small : (v : ℕ) → v ≤ 16 → v < p
few_small v h = omega arith

tells_small : (o : OpNo) (a b : ℕ) → Bin.tells o a b < p
tells_small ops.Eq a b = one_small (a == b)
tells_small ops.Czeqz a b = one_small (b == 0)
tells_small ops.Cznez a b = one_small (b == 0)
tells_small _ a b = omega arith

digits_few : (v : ℕ) → sum (digits v 0 4) < 2 ^ 20
digits_few v = omega arith

bytes_few : (v : ℕ) → sum (to_le_bytes w64 v) < 2 ^ 20
bytes_few v = omega arith

left_few : (o : OpNo) (a b : ℕ) → Bin.left_over o a b < 2 ^ 20
left_few ops.Eq a b = let h = digits_few (worked ops.Eq a b) in omega arith
left_few ops.Czeqz a b = let h = bytes_few b in omega arith
left_few ops.Cznez a b = let h = bytes_few b in omega arith
left_few _ a b = omega arith

sixteenth : (v : ℕ) → v < 2 ^ 20 → v / 2 ^ 16 < p
sixteenth v h = omega arith

-- the columns behind the digits
abbrev binary_rest : OpNo → ℕ → ℕ → List ℕ
binary_rest o a b =
    Bin.k0_of o a b ∷ Bin.k1_of o a b ∷ Bin.j0_of o a b ∷ Bin.j1_of o a b ∷ a / 2 ^ 63 ∷ a / 2 ^ 56 % 2 ^ 7 ∷ b / 2 ^ 63 ∷ b / 2 ^ 56 % 2 ^ 7 ∷ worked o a b / 2 ^ 31 % 2 ∷ worked o a b / 2 ^ 16 % 2 ^ 15
    ∷ Bin.tells o a b ∷ Bin.left_over o a b % 2 ^ 16 ∷ Bin.left_over o a b / 2 ^ 16 ∷ []

rest_small : (o : OpNo) (a b : ℕ) → a < 2 ^ 64 → b < 2 ^ 64 → AreSmall (binary_rest o a b)
rest_small o a b ha hb = (
  cond_small (subtracts o) _ _ (one_small _) (cond_small (scales o) 0 _ (omega arith) (few_small _ (low_few 1 a b (omega arith)))),
  (
    cond_small (subtracts o) _ _ (one_small _) (cond_small (scales o) 0 _ (omega arith) (few_small _ (high_few 1 a b (omega arith) ha hb))),
    (
      cond_small (scales o) _ 0 (few_small _ (low_few (Bin.factor o) a b (factor_few o))) (omega arith),
      (
        cond_small (scales o) _ 0 (few_small _ (high_few (Bin.factor o) a b (factor_few o) ha hb)) (omega arith),
        (
          omega arith,
          (
            omega arith,
            (
              omega arith,
              (
                omega arith,
                (
                  omega arith,
                  (
                    omega arith,
                    (tells_small o a b, (omega arith, (sixteenth _ (left_few o a b), tt))),
                  ),
                ),
              ),
            ),
          ),
        ),
      ),
    ),
  ),
)

pub binary_small : (o : OpNo) (a b : ℕ) → a < 2 ^ 64 → b < 2 ^ 64 → AreSmall (binary_row o a b)
binary_small o a b ha hb =
    let bytes : List ℕ = anded_from 0 8 a b ++ (digits (worked o a b) 0 4 ++ binary_rest o a b) in
    let bytes_h : AreSmall bytes = join (anded_from 0 8 a b) (digits (worked o a b) 0 4 ++ binary_rest o a b) (anded_small 0 8 a b) (join (digits (worked o a b) 0 4) (binary_rest o a b) (digits_small (worked o a b) 0 4) (rest_small o a b ha hb)) in
    let both : List ℕ = to_le_bytes w64 a ++ (to_le_bytes w64 b ++ bytes) in
    let both_h : AreSmall both = join (to_le_bytes w64 a) (to_le_bytes w64 b ++ bytes) (bytes_small a) (join (to_le_bytes w64 b) bytes (bytes_small b) bytes_h) in
    (omega arith, join (flags (op_number o) 1 10) (flags (op_number o) 30 5 ++ both) (flags_small (op_number o) 1 10) (join (flags (op_number o) 30 5) both (flags_small (op_number o) 30 5) both_h))

-- ---- Shift
power_few : (t : ℕ) → t ≤ 16 → 2 ^ t ≤ 65536
power_few t h = let a : 2 ^ t ≤ 2 ^ 16 = pow_mono h in omega arith

either_few : (t : Bool) (x y : ℕ) → x ≤ 65536 → y ≤ 65536 → cond t x y ≤ 65536
either_few true x y h k = h
either_few false x y h k = k

times_few : (n b : ℕ) → Sh.times_of n b ≤ 65536
times_few n b = either_few (n % 3 == 0) _ _ (power_few (Sh.amount n (b % 2 ^ 6) % 16) (omega arith)) (power_few (16 - Sh.amount n (b % 2 ^ 6) % 16) (omega arith))

product_small : (d m : ℕ) → d ≤ 65536 → m ≤ 65536 → Sh.high_of d m < p
product_small d m h k = let t : d * m ≤ 65536 * 65536 = mul-le-mul h k in omega arith

top_few : (n a : ℕ) → Sh.top_digit n a < 65536
top_few n a = by (nat_lt n 3)
  where
    by : (t : Bool) → cond t (a / 2 ^ 48 % 2 ^ 16) (a / 2 ^ 16 % 2 ^ 16) < 65536
    by true = omega arith
    by false = omega arith

signed_few : (n : ℕ) → Sh.signed n ≤ 1
signed_few n = by (n % 3 == 2)
  where
    by : (t : Bool) → cond t 1 0 ≤ 1
    by true = omega arith
    by false = omega arith

upper_few : (n a d : ℕ) → d ≤ 65536 → Sh.upper n a d ≤ 65536
upper_few n a d h =
    let s = signed_few n in
    let t = top_few n a in
    let w : Sh.sign n a ≤ 1 = omega arith in
    let u : Sh.signed n * Sh.sign n a ≤ 1 * 1 = mul-le-mul s w in
    either_few (nat_lt n 3) d (Sh.signed n * Sh.sign n a * 65535) h (omega arith)

flag_small : (t : Bool) → cond t 1 0 < p
flag_small true = omega arith
flag_small false = omega arith

unflag_small : (t : Bool) → cond t 0 1 < p
unflag_small true = omega arith
unflag_small false = omega arith

up_to_small : (v : ℕ) → v ≤ 65536 → v < p
up_to_small v h = omega arith

pub shift_small : (o : OpNo) (a b : ℕ) → a < 2 ^ 64 → b < 2 ^ 64 → AreSmall (shift_row o a b)
shift_small o a b ha hb = numbered (op_number o - 11) (value_of o a b) (let l = op_small o in omega arith)
  where
    numbered : (n v : ℕ) → n ≤ 34 → AreSmall (Sh.numbered_row n a b v)
    numbered n v l =
        let t = times_few n b in
        let s = top_few n a in (
          omega arith,
          (
            omega arith,
            (
              omega arith,
              (
                omega arith,
                (
                  omega arith,
                  (
                    omega arith,
                    (
                      omega arith,
                      (
                        omega arith,
                        (
                          omega arith,
                          (
                            omega arith,
                            (
                              unflag_small _,
                              (
                                flag_small _,
                                (
                                  unflag_small _,
                                  (
                                    flag_small _,
                                    (
                                      flag_small _,
                                      (
                                        flag_small _,
                                        (
                                          flag_small _,
                                          (
                                            up_to_small _ t,
                                            (
                                              omega arith,
                                              (
                                                omega arith,
                                                (
                                                  product_small (a % 2 ^ 16) _ (omega arith) t,
                                                  (
                                                    product_small (a / 2 ^ 16 % 2 ^ 16) _ (omega arith) t,
                                                    (
                                                      product_small (Sh.upper n a (a / 2 ^ 32 % 2 ^ 16)) _ (upper_few n a _ (omega arith)) t,
                                                      (
                                                        product_small (Sh.upper n a (a / 2 ^ 48 % 2 ^ 16)) _ (upper_few n a _ (omega arith)) t,
                                                        (omega arith, (omega arith, (omega arith, (omega arith, (omega arith, (omega arith, tt)))))),
                                                      ),
                                                    ),
                                                  ),
                                                ),
                                              ),
                                            ),
                                          ),
                                        ),
                                      ),
                                    ),
                                  ),
                                ),
                              ),
                            ),
                          ),
                        ),
                      ),
                    ),
                  ),
                ),
              ),
            ),
          ),
        )

-- ---- Align
highest_few : (k : Kind) (off old : ℕ) → highest k off old < 256
highest_few kinds.Lb off old = byte_small off old
highest_few kinds.Lh off old = byte_small (off + 1) old
highest_few kinds.Lw off old = byte_small (off + 3) old
highest_few _ off old = omega arith

pub align_small : (k : Kind) (off old value : ℕ) → AreSmall (align_row k off old value)
align_small k off old value =
    let h = highest_few k off old in
    let signs : List ℕ = highest k off old / 128 ∷ highest k off old % 128 ∷ [] in
    let words : List ℕ = to_le_bytes w64 old ++ (to_le_bytes w64 value ++ signs) in
    let words_h : AreSmall words = join (to_le_bytes w64 old) (to_le_bytes w64 value ++ signs) (bytes_small old) (join (to_le_bytes w64 value) signs (bytes_small value) (omega arith, (omega arith, tt))) in
    (omega arith, join (flags (kind_number k) 1 11) (flags off 0 8 ++ words) (flags_small (kind_number k) 1 11) (join (flags off 0 8) words (flags_small off 0 8) words_h))
