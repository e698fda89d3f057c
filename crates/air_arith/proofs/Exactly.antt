-- A tuple that has the number and the operands of an operation is that operation's.
use Rattle.std.proofs.Common.{ℕ, ◌+◌, ◌*◌, ◌/◌, ◌%◌, ◌<◌, ◌≡◌, cond, List, [], ◌∷◌, length, Contains, sym, ap, ◌∙◌, arith}
use Rattle.std.specs.Prelude.{slice_index_or}
use Rattle.std.proofs.lemmas.List.{get_or_default}
use Rattle.rv_word.specs.declared.instr.OpNo.{OpNo}
use Rattle.rv_word.specs.Numbers.{op_number}
use Rattle.rv_model.specs.Op.{value_of, flag_of}
use Rattle.zk_layout.specs.declared.air.Air.TheVariants as airs
use Rattle.step_rows.specs.Tuples.{op_tuple, IsOperationOf}
use Rattle.air_arith.proofs.Operation.{Limbs, IsOf}
use Rattle.air_arith.proofs.Numbered.{products_and_quotients, in_air}

low_of : (lo hi v : ℕ) → Limbs lo hi v → lo ≡ v % 4294967296
low_of lo hi v h = omega (arith, h.low, h.value)

high_of : (lo hi v : ℕ) → Limbs lo hi v → hi ≡ v / 4294967296
high_of lo hi v h = omega (arith, h.low, h.value)

fits : (lo hi v : ℕ) → Limbs lo hi v → v < 18446744073709551616
fits lo hi v h = omega (arith, h.low, h.high, h.value)

whole_of : (lo hi v a : ℕ) → v ≡ lo + 4294967296 * hi → lo ≡ a % 4294967296 → hi ≡ a / 4294967296 → v ≡ a
whole_of lo hi v a e f g = omega arith

module _ (ops : List OpNo) (first : ℕ) (numbered : (k : ℕ) → k < length ops → (d : OpNo) → op_number (slice_index_or ops k d) ≡ first + k) where
  number_of : (o : OpNo) (h : Contains ops o) → op_number o ≡ first + h.0
  number_of o h = sym (ap op_number h.2) ∙ numbered h.0 h.1 o

  -- operations of the list with one number are one
  one_number : (o p : OpNo) → Contains ops o → Contains ops p → op_number o ≡ op_number p → o ≡ p
  one_number o p h g e =
      sym h.2 ∙ (get_or_default ops h.0 o p h.1 ∙ (ap (λ k. slice_index_or ops k p) (same_place (op_number o) (op_number p) first h.0 g.0 (number_of o h) (number_of p g) e) ∙ g.2))
    where
      same_place : (m n b j k : ℕ) → m ≡ b + j → n ≡ b + k → m ≡ n → j ≡ k
      same_place m n b j k e f g = omega arith

  pub exactly : (number alo ahi blo bhi clo chi flag : ℕ) (o : OpNo) (a b : ℕ) → IsOf ops number alo ahi blo bhi clo chi flag → Contains ops o → number ≡ op_number o → alo ≡ a % 4294967296 → ahi ≡ a / 4294967296 → blo ≡ b % 4294967296 → bhi ≡ b / 4294967296 → number ∷ alo ∷ ahi ∷ blo ∷ bhi ∷ clo ∷ chi ∷ flag ∷ [] ≡ op_tuple o a b
  exactly number alo ahi blo bhi clo chi flag o a b w h n e0 e1 e2 e3 =
      let q : w.o ≡ o = one_number w.o o w.here h (sym w.number_is ∙ n) in
      let qa : w.a ≡ a = whole_of alo ahi w.a a w.first.value e0 e1 in
      let qb : w.b ≡ b = whole_of blo bhi w.b b w.second.value e2 e3 in
      let v : value_of w.o w.a w.b ≡ value_of o a b = λ i. value_of (q i) (qa i) (qb i) in
      let lo : clo ≡ value_of o a b % 4294967296 = low_of clo chi (value_of w.o w.a w.b) w.value ∙ ap (λ z. z % 4294967296) v in
      let hi : chi ≡ value_of o a b / 4294967296 = high_of clo chi (value_of w.o w.a w.b) w.value ∙ ap (λ z. z / 4294967296) v in
      let fl : flag ≡ cond (flag_of o a b) 1 0 = w.flag_is ∙ (λ i. cond (flag_of (q i) (qa i) (qb i)) 1 0) in
      λ i. n i ∷ e0 i ∷ e1 i ∷ e2 i ∷ e3 i ∷ lo i ∷ hi i ∷ fl i ∷ []

-- the tuple with these entries is that of an operation of Arith
pub is_operation : (number alo ahi blo bhi clo chi flag : ℕ) → IsOf products_and_quotients number alo ahi blo bhi clo chi flag → IsOperationOf airs.Arith (number ∷ alo ∷ ahi ∷ blo ∷ bhi ∷ clo ∷ chi ∷ flag ∷ [])
is_operation number alo ahi blo bhi clo chi flag w = (
  record {
    o = w.o;
    a = w.a;
    b = w.b;
    a_fits = fits _ _ _ w.first;
    b_fits = fits _ _ _ w.second;
    value_fits = fits _ _ _ w.value;
    is = λ i. w.number_is i ∷ low_of _ _ _ w.first i ∷ high_of _ _ _ w.first i ∷ low_of _ _ _ w.second i ∷ high_of _ _ _ w.second i ∷ low_of _ _ _ w.value i ∷ high_of _ _ _ w.value i ∷ w.flag_is i ∷ [];
  },
  in_air w.o w.here,
)
