-- The digits of x * y + r are what the columns leave.
use Rattle.std.proofs.Common.{ℕ, ◌+◌, ◌*◌, ◌/◌, ◌%◌, ◌<◌, ◌≤◌, ◌≡◌, refl, sym, ap, ◌∙◌, arith}
use Rattle.std.proofs.lemmas.Nat.{mul-le}
use Rattle.step_rows.specs.Words.{digit}
use Rattle.step_rows.specs.ArithRow.{c0, c1, c2, c3, c4, c5, c6}
use Rattle.air_arith.proofs.School.{school}

-- the columns of a multiplication: what is left of each, and what is carried
pub record Columns (x0 x1 x2 x3 y0 y1 y2 y3 r0 r1 r2 r3 w0 w1 w2 w3 w4 w5 w6 w7 c0 c1 c2 c3 c4 c5 c6 : ℕ) : Type 0 where
  pub e0 : x0 * y0 + r0 ≡ w0 + 65536 * c0
  pub e1 : x0 * y1 + x1 * y0 + r1 + c0 ≡ w1 + 65536 * c1
  pub e2 : x0 * y2 + x1 * y1 + x2 * y0 + r2 + c1 ≡ w2 + 65536 * c2
  pub e3 : x0 * y3 + x1 * y2 + x2 * y1 + x3 * y0 + r3 + c2 ≡ w3 + 65536 * c3
  pub e4 : x1 * y3 + x2 * y2 + x3 * y1 + c3 ≡ w4 + 65536 * c4
  pub e5 : x2 * y3 + x3 * y2 + c4 ≡ w5 + 65536 * c5
  pub e6 : x3 * y3 + c5 ≡ w6 + 65536 * c6
  pub e7 : c6 ≡ w7

number_of : (x : ℕ) → x < 18446744073709551616 → x ≡ x / 1 % 65536 + 65536 * (x / 65536 % 65536) + 4294967296 * (x / 4294967296 % 65536 + 65536 * (x / 281474976710656 % 65536))
number_of x h = omega arith

cut : (s : ℕ) → s ≡ s % 65536 + 65536 * (s / 65536)
cut s = omega arith

-- eight digits of a number, where the last isn't cut
eight : (w a b c d e f g h : ℕ) → w ≡ (a + 65536 * b + 4294967296 * (c + 65536 * d)) + 18446744073709551616 * (e + 65536 * f + 4294967296 * (g + 65536 * h)) → a < 65536 → b < 65536 → c < 65536 → d < 65536 → e < 65536 → f < 65536 → g < 65536
    → (w / 1 % 65536 ≡ a) × (w / 65536 % 65536 ≡ b) × (w / 4294967296 % 65536 ≡ c) × (w / 281474976710656 % 65536 ≡ d) × (w / 18446744073709551616 % 65536 ≡ e) × (w / 1208925819614629174706176 % 65536 ≡ f) × (w / 79228162514264337593543950336 % 65536 ≡ g) × (w / 5192296858534827628530496329220096 ≡ h)
eight w a b c d e f g h q la lb lc ld le lf lg = (omega arith, omega arith, omega arith, omega arith, omega arith, omega arith, omega arith, omega arith)

low : (s : ℕ) → s % 65536 < 65536
low s = omega arith

-- a product of 64 bits each, with a remainder, has 128 bits
pub fits : (x y r : ℕ) → x < 18446744073709551616 → y < 18446744073709551616 → r < 18446744073709551616 → x * y + r < 340282366920938463463374607431768211456
fits x y r h k l = below x y r (mul-le x y 18446744073709551615 18446744073709551615 (less x h) (less y k)) l
  where
    less : (x : ℕ) → x < 18446744073709551616 → x ≤ 18446744073709551615
    less x h = omega arith

    below : (x y r : ℕ) → x * y ≤ 18446744073709551615 * 18446744073709551615 → r < 18446744073709551616 → x * y + r < 340282366920938463463374607431768211456
    below x y r h l = omega arith

last_fits : (w h : ℕ) → w / 5192296858534827628530496329220096 ≡ h → w < 340282366920938463463374607431768211456 → h ≡ w / 5192296858534827628530496329220096 % 65536
last_fits w h e l = omega arith

-- The columns of x * y + r.
module _ (x0 x1 x2 x3 y0 y1 y2 y3 r0 r1 r2 r3 : ℕ) where
  abbrev s0 : ℕ
  s0 = x0 * y0 + r0

  abbrev d0 : ℕ
  d0 = s0 / 65536

  abbrev s1 : ℕ
  s1 = x0 * y1 + x1 * y0 + r1 + d0

  abbrev d1 : ℕ
  d1 = s1 / 65536

  abbrev s2 : ℕ
  s2 = x0 * y2 + x1 * y1 + x2 * y0 + r2 + d1

  abbrev d2 : ℕ
  d2 = s2 / 65536

  abbrev s3 : ℕ
  s3 = x0 * y3 + x1 * y2 + x2 * y1 + x3 * y0 + r3 + d2

  abbrev d3 : ℕ
  d3 = s3 / 65536

  abbrev s4 : ℕ
  s4 = x1 * y3 + x2 * y2 + x3 * y1 + d3

  abbrev d4 : ℕ
  d4 = s4 / 65536

  abbrev s5 : ℕ
  s5 = x2 * y3 + x3 * y2 + d4

  abbrev d5 : ℕ
  d5 = s5 / 65536

  abbrev s6 : ℕ
  s6 = x3 * y3 + d5

  abbrev d6 : ℕ
  d6 = s6 / 65536

  columns_by : (w : ℕ) → (x0 + 65536 * x1 + 4294967296 * (x2 + 65536 * x3)) * (y0 + 65536 * y1 + 4294967296 * (y2 + 65536 * y3)) + (r0 + 65536 * r1 + 4294967296 * (r2 + 65536 * r3)) ≡ w → w < 340282366920938463463374607431768211456 → Columns x0 x1 x2 x3 y0 y1 y2 y3 r0 r1 r2 r3 (w / 1 % 65536) (w / 65536 % 65536) (w / 4294967296 % 65536) (w / 281474976710656 % 65536) (w / 18446744073709551616 % 65536) (w / 1208925819614629174706176 % 65536) (w / 79228162514264337593543950336 % 65536) (w / 5192296858534827628530496329220096 % 65536) d0 d1 d2 d3 d4 d5 d6
  columns_by w e l =
      let t = eight w (s0 % 65536) (s1 % 65536) (s2 % 65536) (s3 % 65536) (s4 % 65536) (s5 % 65536) (s6 % 65536) d6 (sym e ∙ school x0 x1 x2 x3 y0 y1 y2 y3 r0 r1 r2 r3 (s0 % 65536) (s1 % 65536) (s2 % 65536) (s3 % 65536) (s4 % 65536) (s5 % 65536) (s6 % 65536) d6 d0 d1 d2 d3 d4 d5 d6 (cut s0) (cut s1) (cut s2) (cut s3) (cut s4) (cut s5) (cut s6) refl) (low s0) (low s1) (low s2) (low s3) (low s4) (low s5) (low s6) in
      record {
        e0 = cut s0 ∙ ap (λ z. z + 65536 * d0) (sym t.0);
        e1 = cut s1 ∙ ap (λ z. z + 65536 * d1) (sym t.1);
        e2 = cut s2 ∙ ap (λ z. z + 65536 * d2) (sym t.2);
        e3 = cut s3 ∙ ap (λ z. z + 65536 * d3) (sym t.3);
        e4 = cut s4 ∙ ap (λ z. z + 65536 * d4) (sym t.4);
        e5 = cut s5 ∙ ap (λ z. z + 65536 * d5) (sym t.5);
        e6 = cut s6 ∙ ap (λ z. z + 65536 * d6) (sym t.6);
        e7 = last_fits w d6 t.7 l;
      }

pub columns_of : (x y r : ℕ) → x < 18446744073709551616 → y < 18446744073709551616 → r < 18446744073709551616 → Columns (digit x 0) (digit x 1) (digit x 2) (digit x 3) (digit y 0) (digit y 1) (digit y 2) (digit y 3) (digit r 0) (digit r 1) (digit r 2) (digit r 3) (digit (x * y + r) 0) (digit (x * y + r) 1) (digit (x * y + r) 2) (digit (x * y + r) 3) (digit (x * y + r) 4) (digit (x * y + r) 5) (digit (x * y + r) 6) (digit (x * y + r) 7) (c0 x y r) (c1 x y r) (c2 x y r) (c3 x y r) (c4 x y r) (c5 x y r) (c6 x y r)
columns_of x y r h k l =
    columns_by (digit x 0) (digit x 1) (digit x 2) (digit x 3) (digit y 0) (digit y 1) (digit y 2) (digit y 3) (digit r 0) (digit r 1) (digit r 2) (digit r 3) (x * y + r) (λ i. sym (number_of x h) i * sym (number_of y k) i + sym (number_of r l) i) (fits x y r h k l)
