-- Tables by their air: the instances of each air, one air after the other.
use Rattle.std.proofs.Common.{ℕ, zero, suc, ◌+◌, ◌<◌, ◌≤◌, ◌≡◌, inl, inr, Bool, true, false, cond, ◌&&◌, eqb, List, [], ◌∷◌, ◌++◌, Option, Some, map, flat_map, refl, sym, ap, ◌∙◌, subst, arith}
use Rattle.std.specs.Prelude.{count_by, slice_index_or}
use Rattle.std.specs.List.{find, range_with_len}
use Rattle.std.proofs.lemmas.Bool.{cases_eq, eq-eqb, ne_eqb, eqb-true, false≢true}
use Rattle.std.proofs.lemmas.List.Sums.{sum_by-append}
use Rattle.gold.specs.Shapes.{counts_from}
use Rattle.gold.specs.declared.instances.Table.{Table}
use Rattle.zk_layout.specs.Air.{air_number, airs}
use Rattle.zk_layout.specs.declared.air.Air.{Air}
use Rattle.zk_layout.specs.declared.air.Air.TheVariants.{Main, Mem, Binary, Shift, Arith, Align, Out}
use Rattle.wit_columns.specs.Values.{is_instance}

-- ---- the airs have different numbers
back : (a : Air) → slice_index_or airs (air_number a) Main ≡ a
unfolding air_number
back Main = refl
back Mem = refl
back Binary = refl
back Shift = refl
back Arith = refl
back Align = refl
back Out = refl

same_air : (a b : Air) → eqb (air_number a) (air_number b) ≡ true → a ≡ b
same_air a b e = sym (back a) ∙ ap (λ m. slice_index_or airs m Main) (eqb-true _ _ e) ∙ back b

abbrev pub is_among : Air → List Air → Bool
is_among air [] = false
is_among air (a ∷ xs) = cond (eqb (air_number a) (air_number air)) true (is_among air xs)

pub all_among : (air : Air) → is_among air airs ≡ true
unfolding air_number
all_among Main = refl
all_among Mem = refl
all_among Binary = refl
all_among Shift = refl
all_among Arith = refl
all_among Align = refl
all_among Out = refl

-- each table says which instance of which air it is
pub record AreNamed (T : Air → ℕ → Table) : Type 0 where
  pub air : (a : Air) (i : ℕ) → (T a i).air ≡ air_number a
  pub instance : (a : Air) (i : ℕ) → (T a i).instance ≡ i

module _ (T : Air → ℕ → Table) (named : AreNamed T) (count : Air → ℕ) where
  -- the instances of an air from one on, and all those of some airs
  abbrev from : Air → ℕ → ℕ → List Table
  from a i m = map (T a) (range_with_len i m)

  abbrev pub all_of : List Air → List Table
  all_of xs = flat_map (λ a. from a 0 (count a)) xs

  -- ---- finding one
  test_is : (s i : ℕ) (a : Air) (j : ℕ) → is_instance s i (T a j) ≡ (eqb (air_number a) s && eqb j i)
  test_is s i a j = ap (λ z. eqb z s && eqb (T a j).instance i) (named.air a j) ∙ ap (λ z. eqb (air_number a) s && eqb z i) (named.instance a j)

  passed : (i : ℕ) (air a : Air) → eqb (air_number a) (air_number air) ≡ false → (j m : ℕ) (ts : List Table) → find (is_instance (air_number air) i) (from a j m ++ ts) ≡ find (is_instance (air_number air) i) ts
  passed i air a e j zero ts = refl
  passed i air a e j (suc m) ts =
      ap (λ b. cond b (Some (T a j)) (find (is_instance (air_number air) i) (from a (j + 1) m ++ ts))) (test_is (air_number air) i a j ∙ ap (λ b. b && eqb j i) e) ∙ passed i air a e (j + 1) m ts

  own : (a : Air) → eqb (air_number a) (air_number a) ≡ true
  own a = eq-eqb _ _ refl

  stop : (i : ℕ) (a : Air) (j : ℕ) (b : Bool) (rest : Option Table) → eqb j i ≡ b → cond (is_instance (air_number a) i (T a j)) (Some (T a j)) rest ≡ cond b (Some (T a j)) rest
  stop i a j b rest e = ap (λ b. cond b (Some (T a j)) rest) (test_is (air_number a) i a j ∙ ap (λ b. b && eqb j i) (own a) ∙ e)

  found : (i : ℕ) (a : Air) (j m : ℕ) (ts : List Table) → j ≤ i → i < j + m → find (is_instance (air_number a) i) (from a j m ++ ts) ≡ Some (T a i)
  found i a j zero ts h l = absurd (omega arith)
  found i a j (suc m) ts h l = elim (cases_eq j i) [
    | inl e ↦ stop i a j true (find (is_instance (air_number a) i) (from a (j + 1) m ++ ts)) (eq-eqb j i e) ∙ ap (λ k. Some (T a k)) e
    | inr e ↦ stop i a j false (find (is_instance (air_number a) i) (from a (j + 1) m ++ ts)) (ne_eqb j i e) ∙ found i a (j + 1) m ts (omega arith) (omega arith)
  ]

  find_one : (xs : List Air) (air a : Air) (i : ℕ) (b : Bool) → eqb (air_number a) (air_number air) ≡ b → (b ≡ false → find (is_instance (air_number air) i) (all_of xs) ≡ Some (T air i)) → i < count air
      → find (is_instance (air_number air) i) (from a 0 (count a) ++ all_of xs) ≡ Some (T air i)
  find_one xs air a i true e h l = subst (λ z. find (is_instance (air_number air) i) (from z 0 (count z) ++ all_of xs) ≡ Some (T air i)) (sym (same_air a air e)) (found i air 0 (count air) (all_of xs) (omega arith) (omega arith))
  find_one xs air a i false e h l = passed i air a e 0 (count a) (all_of xs) ∙ h refl

  pub find_in : (xs : List Air) (air : Air) (i : ℕ) → is_among air xs ≡ true → i < count air → find (is_instance (air_number air) i) (all_of xs) ≡ Some (T air i)
  find_in [] air i h l = absurd (false≢true h)
  find_in (a ∷ xs) air i h l = find_one xs air a i (eqb (air_number a) (air_number air)) refl (λ e. find_in xs air i (sym (ap (λ b. cond b true (is_among air xs)) e) ∙ h) l) l

  -- ---- counting them
  counted_piece : (s : ℕ) (a : Air) (b : Bool) → eqb (air_number a) s ≡ b → (i m : ℕ) → count_by (λ t. eqb t.air s) (from a i m) ≡ cond b m 0
  counted_piece s a true e i zero = refl
  counted_piece s a false e i zero = refl
  counted_piece s a b e i (suc m) =
      let z = ap (λ n. eqb n s) (named.air a i) ∙ e in
      let h = counted_piece s a b e (i + 1) m in
      let u = sum_by-append (λ (t : Table). cond (eqb t.air s) 1 0) (T a i ∷ []) (from a (i + 1) m) in
      u ∙ ap (λ n. n + count_by (λ t. eqb t.air s) (from a (i + 1) m)) (ap (λ b. 0 + cond b 1 0) z) ∙ ap (λ n. 0 + cond b 1 0 + n) h ∙ by b
    where
      by : (b : Bool) → 0 + cond b 1 0 + cond b m 0 ≡ cond b (suc m) 0
      by true = omega arith
      by false = omega arith

  abbrev number_in : List Air → ℕ → ℕ
  number_in [] s = 0
  number_in (a ∷ xs) s = cond (eqb (air_number a) s) (count a) 0 + number_in xs s

  counted : (xs : List Air) (s : ℕ) → count_by (λ t. eqb t.air s) (all_of xs) ≡ number_in xs s
  counted [] s = refl
  counted (a ∷ xs) s =
      let u = sum_by-append (λ (t : Table). cond (eqb t.air s) 1 0) (from a 0 (count a)) (all_of xs) in
      u ∙ ap (λ n. n + count_by (λ t. eqb t.air s) (all_of xs)) (counted_piece s a (eqb (air_number a) s) refl 0 (count a)) ∙ ap (λ n. cond (eqb (air_number a) s) (count a) 0 + n) (counted xs s)

  eqs : {a b c d e f g a' b' c' d' e' f' g' : ℕ} → a ≡ a' → b ≡ b' → c ≡ c' → d ≡ d' → e ≡ e' → f ≡ f' → g ≡ g' → a ∷ b ∷ c ∷ d ∷ e ∷ f ∷ g ∷ [] ≡ a' ∷ b' ∷ c' ∷ d' ∷ e' ∷ f' ∷ g' ∷ []
  eqs h i j k l m n = cc

  pub counts_are : counts_from 0 7 (all_of airs) ≡ map count airs
  unfolding air_number
  counts_are = eqs (counted airs 0 ∙ omega arith) (counted airs 1 ∙ omega arith) (counted airs 2 ∙ omega arith) (counted airs 3 ∙ omega arith) (counted airs 4 ∙ omega arith) (counted airs 5 ∙ omega arith) (counted airs 6 ∙ omega arith)

  pub instances_are : (air : Air) → count_by (λ t. eqb t.air (air_number air)) (all_of airs) ≡ count air
  unfolding air_number
  instances_are Main = counted airs 0 ∙ omega arith
  instances_are Mem = counted airs 1 ∙ omega arith
  instances_are Binary = counted airs 2 ∙ omega arith
  instances_are Shift = counted airs 3 ∙ omega arith
  instances_are Arith = counted airs 4 ∙ omega arith
  instances_are Align = counted airs 5 ∙ omega arith
  instances_are Out = counted airs 6 ∙ omega arith
