-- MUL, MULHU and MULW.
use Rattle.std.proofs.Common.{ℕ, ◌+◌, ◌*◌, ◌%◌, ◌<◌, ◌≡◌, refl, sym, ◌∙◌, lit<, arith}
use Rattle.rv_word.specs.declared.instr.OpNo.TheVariants as ops
use Rattle.rv_word.specs.Numbers.{op_number}
use Rattle.rv_model.specs.Op.{flag_of}
use Rattle.pil_ast.specs.Term.{item_at}
use Rattle.pil_ast.specs.Value.{Cells}
use Rattle.pil_exact.proofs.Row.{line, amount}
use Rattle.machine_text.specs.Arith.{items, op, chi}
use Rattle.air_arith.proofs.Numbers.{joined, limb, wide, same_limbs}
use Rattle.air_arith.proofs.Values.{mul_value, mulhu_value, mulw_value}
use Rattle.air_arith.proofs.Rows.{Op, IsResult, plain_row, bound, product, four, first_low, second_low, small_limb, small_wide, result_64, result_32}

alike : (x0 x1 y0 y1 a0 a1 b0 b1 : ℕ) → x0 ≡ a0 → x1 ≡ a1 → y0 ≡ b0 → y1 ≡ b1 → joined x0 x1 * joined y0 y1 ≡ joined a0 a1 * joined b0 b1
alike x0 x1 y0 y1 a0 a1 b0 b1 e f g h = λ i. joined (e i) (f i) * joined (g i) (h i)

without : (v r w : ℕ) → r ≡ 0 → v + r ≡ w → v ≡ w
without v r w z p = omega arith

-- the product of the operands as they are used: x, y are a, b by limbs, and nothing is added
product_of : (x0 x1 y0 y1 a0 a1 b0 b1 r w : ℕ) → x0 ≡ a0 → x1 ≡ a1 → y0 ≡ b0 → y1 ≡ b1 → r ≡ 0 → joined x0 x1 * joined y0 y1 + r ≡ w → joined a0 a1 * joined b0 b1 ≡ w
product_of x0 x1 y0 y1 a0 a1 b0 b1 r w e f g h z p = sym (alike x0 x1 y0 y1 a0 a1 b0 b1 e f g h) ∙ without (joined x0 x1 * joined y0 y1) r w z p

low_product : (x0 x1 y0 y1 a b r w : ℕ) → x0 ≡ a → x1 ≡ 0 → y0 ≡ b → y1 ≡ 0 → r ≡ 0 → joined x0 x1 * joined y0 y1 + r ≡ w → a * b ≡ w
low_product x0 x1 y0 y1 a b r w e f g h z p = sym (alike x0 x1 y0 y1 a 0 b 0 e f g h ∙ omega arith) ∙ without (joined x0 x1 * joined y0 y1) r w z p

-- the low 32 bits of a product
low_bits : (v w0 w1 u z : ℕ) → v ≡ joined w0 w1 + 18446744073709551616 * u → w0 < 4294967296 → z ≡ w0 → v % 4294967296 ≡ z
low_bits v w0 w1 u z e l h = omega arith

module _ (x : Cells) where
  abbrev f : ℕ → ℕ
  f = x.column 0 12

  pub mul : (o : Op x 0) → IsResult x 0 o ops.Mul
  unfolding op_number flag_of
  mul o =
      let row = plain_row x 0 o in
      let s = o.selected in
      let m = s.meets in
      let p = product_of _ _ _ _ _ _ _ _ _ _ (line row (item_at items 148) (m 148) refl) (line row (item_at items 149) (m 149) refl) (line row (item_at items 150) (m 150) refl) (line row (item_at items 151) (m 151) refl) (four _ _ _ _ (line row (item_at items 152) (m 152) refl)) (product x s) in
      let w = small_wide _ _ (small_limb _ _ (bound x s 34) (bound x s 35)) (small_limb _ _ (bound x s 36) (bound x s 37)) in
      let z = same_limbs _ _ _ _ (line row (item_at items 167) (m 167) refl) (line row (item_at items 168) (m 168) refl) in
      result_64 x 0 o ops.Mul (0, lit< tt, refl) (amount row op refl) refl (amount row chi refl) (mul_value (wide f 14) (wide f 18) (wide f 34) (wide f 38) p w ∙ z)

  pub mulhu : (o : Op x 3) → IsResult x 3 o ops.Mulhu
  unfolding op_number flag_of
  mulhu o =
      let row = plain_row x 3 o in
      let s = o.selected in
      let m = s.meets in
      let p = product_of _ _ _ _ _ _ _ _ _ _ (line row (item_at items 148) (m 148) refl) (line row (item_at items 149) (m 149) refl) (line row (item_at items 150) (m 150) refl) (line row (item_at items 151) (m 151) refl) (four _ _ _ _ (line row (item_at items 152) (m 152) refl)) (product x s) in
      let w = small_wide _ _ (small_limb _ _ (bound x s 34) (bound x s 35)) (small_limb _ _ (bound x s 36) (bound x s 37)) in
      let z = same_limbs _ _ _ _ (line row (item_at items 167) (m 167) refl) (line row (item_at items 168) (m 168) refl) in
      result_64 x 3 o ops.Mulhu (3, lit< tt, refl) (amount row op refl) refl (amount row chi refl) (mulhu_value (wide f 14) (wide f 18) (wide f 34) (wide f 38) p w ∙ z)

  pub mulw : (o : Op x 8) → IsResult x 8 o ops.Mulw
  unfolding op_number flag_of
  mulw o =
      let row = plain_row x 8 o in
      let s = o.selected in
      let m = s.meets in
      let p = low_product _ _ _ _ _ _ _ _ (line row (item_at items 148) (m 148) refl) (line row (item_at items 149) (m 149) refl) (line row (item_at items 150) (m 150) refl) (line row (item_at items 151) (m 151) refl) (four _ _ _ _ (line row (item_at items 152) (m 152) refl)) (product x s) in
      let l = low_bits _ _ _ _ _ p (small_limb _ _ (bound x s 34) (bound x s 35)) (line row (item_at items 167) (m 167) refl) in
      result_32 x 8 o ops.Mulw (8, lit< tt, refl) (amount row op refl) refl (amount row chi refl) (limb f 14 * limb f 18) l (mulw_value (wide f 14) (wide f 18) (limb f 14) (limb f 18) (first_low x s) (second_low x s))
