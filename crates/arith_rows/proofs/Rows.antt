-- The cells of an operation are its row.
use Rattle.std.proofs.Common.{◌≡◌, ◌+◌, ◌-◌, ◌*◌, ℕ, map, refl, sym, subst}
use Rattle.rv_word.specs.Numbers.{op_number}
use Rattle.zk_layout.specs.declared.air.Air.{Air}
use Rattle.zk_layout.specs.declared.air.Air.TheVariants.{Arith}
use Rattle.zk_layout.specs.Air.{columns_per}
use Rattle.rv_model.specs.Image.{Img}
use Rattle.min_trace.specs.Laws.{first_of}
use Rattle.step_rows.specs.ArithRow.{first_sign, second_sign, first_size, second_size, x_of, r_of, z_of, result_sign, result_size, kn_of, row_of, numbered_row}
use Rattle.row_columns.specs.Cells.{AreRowOf}
use Rattle.arith_rows.specs.declared.cells.ArithCell.{ArithCell}
use Rattle.arith_rows.specs.declared.cells.TheConstants.{CELLS}
use Rattle.arith_rows.specs.Cells.{cell_of, sized, sizes, finished, made, made_by}

is_row : (n a b s t u v x r w : ℕ) → map (λ (c : ArithCell). cell_of c (finished (sized n a b s t u v) x r w)) CELLS ≡ row_of n a b s t u v x r w (z_of n v (result_sign n s t) (result_size n x r w) (kn_of n w))
unfolding cell_of
is_row n a b s t u v x r w = refl

numbered_is : (n a b : ℕ) → map (λ (c : ArithCell). cell_of c (made (sizes n a b))) CELLS ≡ numbered_row n a b
numbered_is n a b =
    let u = first_size n a in
    let v = second_size n b in
    let x = x_of n u v in
    let r = r_of n u v in
    is_row n a b (first_sign n a) (second_sign n b) u v x r (x * v + r)

of_arith : (image : Img) → AreRowOf cell_of made_by CELLS Arith image
of_arith image r is has = numbered_is (op_number r.op - 17) (first_of r) r.b

pub are_rows : (air : Air) (image : Img) → air ≡ Arith → AreRowOf cell_of made_by CELLS air image
are_rows air image e = subst (λ (a : Air). AreRowOf cell_of made_by CELLS a image) (sym e) (of_arith image)

pub wide : (air : Air) → air ≡ Arith → 79 ≡ columns_per air
unfolding columns_per
wide air e = rw e refl
