-- What is left to show of the row of an operation: one list for all thirteen, by what they do, and by the signs of the
-- operands, `kn` and `zb`.
use Rattle.std.proofs.Common.{ℕ, zero, suc, ◌+◌, ◌*◌, ◌<◌, ◌≡◌, Bool, true, false, cond, List, [], ◌∷◌, ◌++◌}
use Rattle.std.specs.Prelude.{nat_lt}
use Rattle.pil_ast.specs.Term.{Tuples}
use Rattle.pil_ast.specs.Value.{Cells}
use Rattle.pil_exact.proofs.Row.{Fact, is, most, here}
use Rattle.pil_exact.proofs.Flags.{flags, Each, each}
use Rattle.pil_exact.proofs.Follows.{Rest}
use Rattle.machine_text.specs.Arith.{items}
use Rattle.step_rows.specs.ArithRow.{is_in, is_high, is_quotient, is_remainder, is_division, result_sign}
use Rattle.air_arith.proofs.Numbers.{limb}
use Rattle.air_arith.proofs.Honest.{bounded}

-- the operations that count the sign of the first operand, of the second
abbrev pub first_signed : ℕ → Bool
first_signed n = is_in (1 ∷ 2 ∷ 4 ∷ 6 ∷ 9 ∷ 11 ∷ []) n

abbrev pub second_signed : ℕ → Bool
second_signed n = is_in (1 ∷ 4 ∷ 6 ∷ 9 ∷ 11 ∷ []) n

-- a sign that is counted is known
abbrev pub sign_fact : Bool → ℕ → Fact
sign_fact true s = is s
sign_fact false s = most 1

abbrev pub others : ℕ → ℕ → ℕ → ℕ → ℕ → List (ℕ × Fact)
others n s t kn zb =
    (56, sign_fact (first_signed n) s) ∷ (58, sign_fact (second_signed n) t) ∷ (60, most 1) ∷ (61, most 1) ∷ (62, is kn) ∷ (63, most 65535) ∷ (64, most 65535) ∷ (65, is zb) ∷ (70, most 1) ∷ (75, most 1) ∷ (76, most 1) ∷ bounded

abbrev pub known : ℕ → ℕ → ℕ → ℕ → ℕ → List (ℕ × Fact)
known n s t kn zb = (0, is 1) ∷ flags (suc n) 1 13 ++ others n s t kn zb

-- lines 241 and 242: the highest digit of an operand has its sign
abbrev pub Top : Bool → ℕ → ℕ → ℕ → ℕ → Type 0
Top false s x sign rest = x ≡ 32768 * sign + rest
Top true zero x sign rest = x ≡ rest
Top true (suc s) x sign rest = x ≡ 32768 + rest

-- lines 243 to 246: the magnitude of an operand
abbrev pub SizeLow : ℕ → ℕ → ℕ → ℕ → Type 0
SizeLow zero m lo k = m ≡ lo
SizeLow (suc s) m lo k = m + lo ≡ 4294967296 * k

abbrev pub SizeHigh : ℕ → ℕ → ℕ → ℕ → Type 0
SizeHigh zero m hi k = m ≡ hi
SizeHigh (suc s) m hi k = m + hi + k ≡ 4294967296

-- lines 262 and 263: the result, where its magnitude is v
abbrev pub OutLow : ℕ → ℕ → ℕ → ℕ → ℕ → Type 0
OutLow zero kn v z k1 = z ≡ v
OutLow (suc s) zero v z k1 = v + z ≡ 4294967296 * k1
OutLow (suc s) (suc kn) v z k1 = v + z + 1 ≡ 4294967296 * k1

abbrev pub OutHigh : ℕ → ℕ → ℕ → ℕ → ℕ → Type 0
OutHigh zero v z k1 k2 = z ≡ v
OutHigh (suc s) v z k1 k2 = v + z + k1 ≡ 4294967296 * k2

-- a line that is owed, before the others
abbrev pub Line : Type 0 → Type 0 → Type 0
Line A T = (A × (true ≡ true)) × T

-- the columns from which the result is made
abbrev pub result_at : Bool → Bool → Bool → ℕ
result_at true h q = 30
result_at false true q = 38
result_at false false true = 22
result_at false false false = 34

module _ (f : ℕ → ℕ) where
  abbrev pub summed : ℕ → ℕ
  summed k = f k + f (k + 1) + f (k + 2) + f (k + 3)

  -- the low half of a product
  abbrev pub Half : ℕ → Type 0
  Half zero = summed 34 ≡ 0
  Half (suc kn) = summed 34 ≡ 1 + limb f 63

  -- lines 257 and 258
  abbrev pub HalfAnd : Bool → ℕ → Type 0 → Type 0
  HalfAnd false kn T = T
  HalfAnd true kn T = Line (Half kn) T

  -- lines 259 to 261: the divisor is 0, or the remainder is below it
  abbrev pub DivisorAnd : Bool → ℕ → Type 0 → Type 0
  DivisorAnd false zb T = T
  DivisorAnd true zero T = Line (limb f 30 + f 66 + 65536 * f 67 + 1 ≡ limb f 26 + 4294967296 * f 70) (Line (limb f 32 + f 68 + 65536 * f 69 + f 70 ≡ limb f 28) T)
  DivisorAnd true (suc zb) T = Line (summed 26 ≡ 0) T

  -- lines 262 to 265, where the result has the sign s
  abbrev pub ResultAnd : Bool → ℕ → ℕ → ℕ → ℕ → Type 0 → Type 0
  ResultAnd true (suc zb) s kn k T = Line (limb f 71 ≡ 4294967295) (Line (limb f 73 ≡ 4294967295) T)
  ResultAnd _ _ s kn k T = Line (OutLow s kn (limb f k) (limb f 71) (f 75)) (Line (OutHigh s (limb f (k + 2)) (limb f 73) (f 75) (f 76)) T)

  abbrev pub ColumnsAnd : Type 0 → Type 0
  ColumnsAnd T =
      Line (f 22 * f 26 + f 30 ≡ f 34 + 65536 * (f 42 + 65536 * f 49))
      (Line (f 22 * f 27 + f 23 * f 26 + f 31 + (f 42 + 65536 * f 49) ≡ f 35 + 65536 * (f 43 + 65536 * f 50))
      (Line (f 22 * f 28 + f 23 * f 27 + f 24 * f 26 + f 32 + (f 43 + 65536 * f 50) ≡ f 36 + 65536 * (f 44 + 65536 * f 51))
      (Line (f 22 * f 29 + f 23 * f 28 + f 24 * f 27 + f 25 * f 26 + f 33 + (f 44 + 65536 * f 51) ≡ f 37 + 65536 * (f 45 + 65536 * f 52))
      (Line (f 23 * f 29 + f 24 * f 28 + f 25 * f 27 + (f 45 + 65536 * f 52) ≡ f 38 + 65536 * (f 46 + 65536 * f 53))
      (Line (f 24 * f 29 + f 25 * f 28 + (f 46 + 65536 * f 53) ≡ f 39 + 65536 * (f 47 + 65536 * f 54))
      (Line (f 25 * f 29 + (f 47 + 65536 * f 54) ≡ f 40 + 65536 * (f 48 + 65536 * f 55))
      (Line (f 48 + 65536 * f 55 ≡ f 41) T)))))))

  -- all of it, in order of the lines
  abbrev pub Shown : ℕ → ℕ → ℕ → ℕ → ℕ → Type 0
  Shown n s t kn zb =
      Line (Top (first_signed n) s (cond (nat_lt n 8) (f 17) (f 15)) (f 56) (f 57))
      (Line (Top (second_signed n) t (cond (nat_lt n 8) (f 21) (f 19)) (f 58) (f 59))
      (Line (SizeLow s (cond (is_division n) (limb f 34) (limb f 22)) (limb f 14) (f 60))
      (Line (SizeHigh s (cond (is_division n) (limb f 36) (limb f 24)) (cond (nat_lt n 8) (limb f 16) (s * 4294967295)) (f 60))
      (Line (SizeLow t (limb f 26) (limb f 18) (f 61))
      (Line (SizeHigh t (limb f 28) (cond (nat_lt n 8) (limb f 20) (t * 4294967295)) (f 61))
      (Line (cond (is_division n) (summed 38) (summed 30) ≡ 0)
      (ColumnsAnd (HalfAnd (is_high n) kn (DivisorAnd (is_division n) zb (ResultAnd (is_quotient n) zb (result_sign n s t) kn (result_at (is_remainder n) (is_high n) (is_quotient n))
      (Line (f 72 ≡ 32768 * f 77 + f 78) (Unit {0}))))))))))))

-- it is what the kit asks for
abbrev pub Step : ℕ → ℕ → ℕ → ℕ → ℕ → Type 0
Step n s t kn zb = (x : Cells) (sent : Tuples → List (List ℕ)) → Shown (x.column 0 12) n s t kn zb → Rest items x 12 (here (known n s t kn zb)) sent items

-- what may be 0 or 1, or is 0
abbrev pub two : Bool → ℕ
two true = 2
two false = 1

abbrev ByDivisor : ℕ → ℕ → ℕ → ℕ → Type 0
ByDivisor n s t kn = Each (λ zb. Step n s t kn zb) (two (is_division n))

abbrev ByHalf : ℕ → ℕ → ℕ → Type 0
ByHalf n s t = Each (λ kn. ByDivisor n s t kn) (two (is_high n))

abbrev BySecond : ℕ → ℕ → Type 0
BySecond n s = Each (λ t. ByHalf n s t) (two (second_signed n))

abbrev BySigns : ℕ → Type 0
BySigns n = Each (λ s. BySecond n s) (two (first_signed n))

mul : BySigns 0
mul = (((((λ x f h. h), tt), tt), tt), tt)

mulh : BySigns 1
mulh = (((((λ x f h. h), tt), (((λ x f h. h), tt), tt)), ((((λ x f h. h), tt), (((λ x f h. h), tt), tt)), tt)), (((((λ x f h. h), tt), (((λ x f h. h), tt), tt)), ((((λ x f h. h), tt), (((λ x f h. h), tt), tt)), tt)), tt))

mulhsu : BySigns 2
mulhsu = (((((λ x f h. h), tt), (((λ x f h. h), tt), tt)), tt), (((((λ x f h. h), tt), (((λ x f h. h), tt), tt)), tt), tt))

mulhu : BySigns 3
mulhu = (((((λ x f h. h), tt), (((λ x f h. h), tt), tt)), tt), tt)

div : BySigns 4
div = (((((λ x f h. h), ((λ x f h. h), tt)), tt), ((((λ x f h. h), ((λ x f h. h), tt)), tt), tt)), (((((λ x f h. h), ((λ x f h. h), tt)), tt), ((((λ x f h. h), ((λ x f h. h), tt)), tt), tt)), tt))

divu : BySigns 5
divu = (((((λ x f h. h), ((λ x f h. h), tt)), tt), tt), tt)

rem : BySigns 6
rem = (((((λ x f h. h), ((λ x f h. h), tt)), tt), ((((λ x f h. h), ((λ x f h. h), tt)), tt), tt)), (((((λ x f h. h), ((λ x f h. h), tt)), tt), ((((λ x f h. h), ((λ x f h. h), tt)), tt), tt)), tt))

remu : BySigns 7
remu = (((((λ x f h. h), ((λ x f h. h), tt)), tt), tt), tt)

mulw : BySigns 8
mulw = (((((λ x f h. h), tt), tt), tt), tt)

divw : BySigns 9
divw = (((((λ x f h. h), ((λ x f h. h), tt)), tt), ((((λ x f h. h), ((λ x f h. h), tt)), tt), tt)), (((((λ x f h. h), ((λ x f h. h), tt)), tt), ((((λ x f h. h), ((λ x f h. h), tt)), tt), tt)), tt))

divuw : BySigns 10
divuw = (((((λ x f h. h), ((λ x f h. h), tt)), tt), tt), tt)

remw : BySigns 11
remw = (((((λ x f h. h), ((λ x f h. h), tt)), tt), ((((λ x f h. h), ((λ x f h. h), tt)), tt), tt)), (((((λ x f h. h), ((λ x f h. h), tt)), tt), ((((λ x f h. h), ((λ x f h. h), tt)), tt), tt)), tt))

remuw : BySigns 12
remuw = (((((λ x f h. h), ((λ x f h. h), tt)), tt), tt), tt)

all_steps : Each BySigns 13
all_steps = (mul, (mulh, (mulhsu, (mulhu, (div, (divu, (rem, (remu, (mulw, (divw, (divuw, (remw, (remuw, tt)))))))))))))

pub step : (n s t kn zb : ℕ) → n < 13 → s < two (first_signed n) → t < two (second_signed n) → kn < two (is_high n) → zb < two (is_division n) → Step n s t kn zb
step n s t kn zb ln ls lt lk lz =
    let a = each BySigns 13 all_steps n ln in
    let b = each (λ s. BySecond n s) (two (first_signed n)) a s ls in
    let c = each (λ t. ByHalf n s t) (two (second_signed n)) b t lt in
    let d = each (λ kn. ByDivisor n s t kn) (two (is_high n)) c kn lk in
    each (λ zb. Step n s t kn zb) (two (is_division n)) d zb lz
