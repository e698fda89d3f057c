-- The row of an operation has the operation's tuple.
use Rattle.std.proofs.Common.{ℕ, zero, suc, ◌+◌, ◌-◌, ◌<◌, ◌≡◌, ◌≢◌, true, ltb, List, map, refl, sym, ap, ◌∙◌, subst, arith as numbers}
use Rattle.std.specs.Prelude.{slice_index, slice_index_or}
use Rattle.std.proofs.lemmas.Bool.{ltb-true}
use Rattle.rv_word.specs.declared.instr.OpNo.{OpNo}
use Rattle.rv_word.specs.Numbers.{op_number}
use Rattle.pil_ast.specs.Term.{Namespace}
use Rattle.pil_ast.specs.Columns.{Columns}
use Rattle.pil_ast.specs.Value.{around, value}
use Rattle.pil_exact.proofs.Row.{amount}
use Rattle.step_rows.specs.Tuples.{op_tuple}
use Rattle.air_arith.proofs.Exactly.{exactly}
use Rattle.machine_text.specs.Arith.{items, op, alo, ahi, blo, bhi, operation}
use Rattle.step_rows.specs.ArithRow.{numbered_row}
use Rattle.air_arith.specs.Laws.{ArithComplete}
use Rattle.air_arith.proofs.Numbered.{IsNumberedRow, products_and_quotients, place_of, number_at}
use Rattle.air_arith.proofs.Known.{Selected, selected, base}
use Rattle.air_arith.proofs.Rows.{plain_row}
use Rattle.air_arith.proofs.Ariths.{tuple_holds}
use Rattle.air_arith.proofs.Honest.{low_limb, high_limb}
use Rattle.air_arith.proofs.Filled.{complete_for}

numbered : (k : ℕ) → k < 13 → (d : OpNo) → op_number (slice_index_or products_and_quotients k d) ≡ 17 + k
numbered k l d = number_at k l d

not_none : (x : ℕ) → x ≡ 1 → x ≢ 0
not_none x e z = omega numbers

module _ (c : Columns) (i r a b : ℕ) where
  abbrev f : ℕ → ℕ
  f k = c.at 12 i k r

  at : (n : ℕ) → IsNumberedRow c i r n a b → (j : ℕ) → ltb j 79 ≡ true → f j ≡ slice_index (numbered_row n a b) j
  at n h j q = h j (ltb-true j 79 q)

  module _ (ns : List Namespace) (s : Selected (around ns c 12 i r)) where
    number_is : (n : ℕ) → n < 13 → IsNumberedRow c i r n a b → value items (around ns c 12 i r) op ≡ 17 + n
    number_is zero l h = amount (plain_row (around ns c 12 i r) 0 (record { selected = s; flag = (at 0 h 1 refl, (at 0 h 2 refl, (at 0 h 3 refl, (at 0 h 4 refl, (at 0 h 5 refl, (at 0 h 6 refl, (at 0 h 7 refl, (at 0 h 8 refl, (at 0 h 9 refl, (at 0 h 10 refl, (at 0 h 11 refl, (at 0 h 12 refl, (at 0 h 13 refl, tt))))))))))))) })) op refl
    number_is (suc zero) l h = amount (plain_row (around ns c 12 i r) 1 (record { selected = s; flag = (at 1 h 1 refl, (at 1 h 2 refl, (at 1 h 3 refl, (at 1 h 4 refl, (at 1 h 5 refl, (at 1 h 6 refl, (at 1 h 7 refl, (at 1 h 8 refl, (at 1 h 9 refl, (at 1 h 10 refl, (at 1 h 11 refl, (at 1 h 12 refl, (at 1 h 13 refl, tt))))))))))))) })) op refl
    number_is (suc (suc zero)) l h = amount (plain_row (around ns c 12 i r) 2 (record { selected = s; flag = (at 2 h 1 refl, (at 2 h 2 refl, (at 2 h 3 refl, (at 2 h 4 refl, (at 2 h 5 refl, (at 2 h 6 refl, (at 2 h 7 refl, (at 2 h 8 refl, (at 2 h 9 refl, (at 2 h 10 refl, (at 2 h 11 refl, (at 2 h 12 refl, (at 2 h 13 refl, tt))))))))))))) })) op refl
    number_is (suc (suc (suc zero))) l h = amount (plain_row (around ns c 12 i r) 3 (record { selected = s; flag = (at 3 h 1 refl, (at 3 h 2 refl, (at 3 h 3 refl, (at 3 h 4 refl, (at 3 h 5 refl, (at 3 h 6 refl, (at 3 h 7 refl, (at 3 h 8 refl, (at 3 h 9 refl, (at 3 h 10 refl, (at 3 h 11 refl, (at 3 h 12 refl, (at 3 h 13 refl, tt))))))))))))) })) op refl
    number_is (suc (suc (suc (suc zero)))) l h = amount (plain_row (around ns c 12 i r) 4 (record { selected = s; flag = (at 4 h 1 refl, (at 4 h 2 refl, (at 4 h 3 refl, (at 4 h 4 refl, (at 4 h 5 refl, (at 4 h 6 refl, (at 4 h 7 refl, (at 4 h 8 refl, (at 4 h 9 refl, (at 4 h 10 refl, (at 4 h 11 refl, (at 4 h 12 refl, (at 4 h 13 refl, tt))))))))))))) })) op refl
    number_is (suc (suc (suc (suc (suc zero))))) l h = amount (plain_row (around ns c 12 i r) 5 (record { selected = s; flag = (at 5 h 1 refl, (at 5 h 2 refl, (at 5 h 3 refl, (at 5 h 4 refl, (at 5 h 5 refl, (at 5 h 6 refl, (at 5 h 7 refl, (at 5 h 8 refl, (at 5 h 9 refl, (at 5 h 10 refl, (at 5 h 11 refl, (at 5 h 12 refl, (at 5 h 13 refl, tt))))))))))))) })) op refl
    number_is (suc (suc (suc (suc (suc (suc zero)))))) l h = amount (plain_row (around ns c 12 i r) 6 (record { selected = s; flag = (at 6 h 1 refl, (at 6 h 2 refl, (at 6 h 3 refl, (at 6 h 4 refl, (at 6 h 5 refl, (at 6 h 6 refl, (at 6 h 7 refl, (at 6 h 8 refl, (at 6 h 9 refl, (at 6 h 10 refl, (at 6 h 11 refl, (at 6 h 12 refl, (at 6 h 13 refl, tt))))))))))))) })) op refl
    number_is (suc (suc (suc (suc (suc (suc (suc zero))))))) l h = amount (plain_row (around ns c 12 i r) 7 (record { selected = s; flag = (at 7 h 1 refl, (at 7 h 2 refl, (at 7 h 3 refl, (at 7 h 4 refl, (at 7 h 5 refl, (at 7 h 6 refl, (at 7 h 7 refl, (at 7 h 8 refl, (at 7 h 9 refl, (at 7 h 10 refl, (at 7 h 11 refl, (at 7 h 12 refl, (at 7 h 13 refl, tt))))))))))))) })) op refl
    number_is (suc (suc (suc (suc (suc (suc (suc (suc zero)))))))) l h = amount (plain_row (around ns c 12 i r) 8 (record { selected = s; flag = (at 8 h 1 refl, (at 8 h 2 refl, (at 8 h 3 refl, (at 8 h 4 refl, (at 8 h 5 refl, (at 8 h 6 refl, (at 8 h 7 refl, (at 8 h 8 refl, (at 8 h 9 refl, (at 8 h 10 refl, (at 8 h 11 refl, (at 8 h 12 refl, (at 8 h 13 refl, tt))))))))))))) })) op refl
    number_is (suc (suc (suc (suc (suc (suc (suc (suc (suc zero))))))))) l h = amount (plain_row (around ns c 12 i r) 9 (record { selected = s; flag = (at 9 h 1 refl, (at 9 h 2 refl, (at 9 h 3 refl, (at 9 h 4 refl, (at 9 h 5 refl, (at 9 h 6 refl, (at 9 h 7 refl, (at 9 h 8 refl, (at 9 h 9 refl, (at 9 h 10 refl, (at 9 h 11 refl, (at 9 h 12 refl, (at 9 h 13 refl, tt))))))))))))) })) op refl
    number_is (suc (suc (suc (suc (suc (suc (suc (suc (suc (suc zero)))))))))) l h = amount (plain_row (around ns c 12 i r) 10 (record { selected = s; flag = (at 10 h 1 refl, (at 10 h 2 refl, (at 10 h 3 refl, (at 10 h 4 refl, (at 10 h 5 refl, (at 10 h 6 refl, (at 10 h 7 refl, (at 10 h 8 refl, (at 10 h 9 refl, (at 10 h 10 refl, (at 10 h 11 refl, (at 10 h 12 refl, (at 10 h 13 refl, tt))))))))))))) })) op refl
    number_is (suc (suc (suc (suc (suc (suc (suc (suc (suc (suc (suc zero))))))))))) l h = amount (plain_row (around ns c 12 i r) 11 (record { selected = s; flag = (at 11 h 1 refl, (at 11 h 2 refl, (at 11 h 3 refl, (at 11 h 4 refl, (at 11 h 5 refl, (at 11 h 6 refl, (at 11 h 7 refl, (at 11 h 8 refl, (at 11 h 9 refl, (at 11 h 10 refl, (at 11 h 11 refl, (at 11 h 12 refl, (at 11 h 13 refl, tt))))))))))))) })) op refl
    number_is (suc (suc (suc (suc (suc (suc (suc (suc (suc (suc (suc (suc zero)))))))))))) l h = amount (plain_row (around ns c 12 i r) 12 (record { selected = s; flag = (at 12 h 1 refl, (at 12 h 2 refl, (at 12 h 3 refl, (at 12 h 4 refl, (at 12 h 5 refl, (at 12 h 6 refl, (at 12 h 7 refl, (at 12 h 8 refl, (at 12 h 9 refl, (at 12 h 10 refl, (at 12 h 11 refl, (at 12 h 12 refl, (at 12 h 13 refl, tt))))))))))))) })) op refl
    number_is (suc (suc (suc (suc (suc (suc (suc (suc (suc (suc (suc (suc (suc k))))))))))))) l h = absurd (omega (numbers, l))

-- the row's number is that of its operation
row_number : (n : ℕ) → 17 + n - 17 ≡ n
row_number n = omega numbers

pub arith_complete : ArithComplete
arith_complete ns c i r o a b has e la lb given =
    let (n, place) = place_of o e in
    let l = place.below in
    let h : IsNumberedRow c i r n a b = λ j k. given j k ∙ ap (λ m. slice_index (numbered_row m a b) j) (ap (λ m. m - 17) place.number ∙ row_number n) in
    let m = complete_for n l ns c i r a b has la lb h in
    let x = around ns c 12 i r in
    let s = selected ns c i r has m (not_none _ (at c i r a b n h 0 refl)) in
    let row = base (around ns c 12 i r) s in (
      m,
      subst (λ z. map (value z.items (around ns c 12 i r)) operation.terms ≡ op_tuple o a b) (sym has.stands)
          (exactly products_and_quotients 17 numbered _ _ _ _ _ _ _ _ o a b (tuple_holds (around ns c 12 i r) s) (n, l, place.is o) (number_is c i r a b ns s n l h ∙ sym place.number)
          (amount row alo refl ∙ low_limb _ _ a (at c i r a b n h 14 refl) (at c i r a b n h 15 refl))
          (amount row ahi refl ∙ high_limb _ _ a la (at c i r a b n h 16 refl) (at c i r a b n h 17 refl))
          (amount row blo refl ∙ low_limb _ _ b (at c i r a b n h 18 refl) (at c i r a b n h 19 refl))
          (amount row bhi refl ∙ high_limb _ _ b lb (at c i r a b n h 20 refl) (at c i r a b n h 21 refl))),
    )
