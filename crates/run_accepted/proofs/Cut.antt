-- The columns of a table: rows cut into instances and padded.
use Rattle.std.proofs.Common.{ℕ, zero, suc, ◌+◌, ◌-◌, ◌*◌, ◌<◌, ◌≤◌, ◌≡◌, List, [], ◌∷◌, ◌++◌, length, get_or, map, drop, replicate, refl, sym, ap, ◌∙◌, subst, arith}
use Rattle.std.specs.Prelude.{All, slice_index, slice_index_or}
use Rattle.std.specs.List.{range_with_len}
use Rattle.std.proofs.lemmas.List.{length-map, length-take, length-append, length-replicate, get_or-take, get_or-drop}
use Rattle.std.proofs.lemmas.List.Elements.{All-append, All-map, All-take, All-drop, All-replicate, All-weaker}
use Rattle.std.proofs.lemmas.List.FromFn.{length-map-range_with_len, get_or-map-range_with_len}
use Rattle.gold.specs.Field.{p, IsCanonical, AreCanonical}
use Rattle.zk_layout.specs.Air.{rows_per, columns_per}
use Rattle.zk_layout.specs.declared.air.Air.{Air}
use Rattle.run_rows.specs.Tables.{padded, by_columns, instance_of, table_of}
use Rattle.wit_columns.specs.Values.{value_in}

-- a row of numbers of the field
abbrev pub IsSmallRow : List ℕ → Type 0
IsSmallRow row = (k : ℕ) → slice_index row k < p

column_at : (rows : List (List ℕ)) (k r : ℕ) → slice_index (map (λ row. slice_index row k) rows) r ≡ slice_index (get_or rows r []) k
column_at [] k r = refl
column_at (row ∷ rows) k zero = refl
column_at (row ∷ rows) k (suc r) = column_at rows k r

zeros_at : (n r : ℕ) → slice_index (replicate n 0) r ≡ 0
zeros_at zero r = refl
zeros_at (suc n) zero = refl
zeros_at (suc n) (suc r) = zeros_at n r

padded_at : (n : ℕ) (xs : List ℕ) (r : ℕ) → slice_index (padded n xs) r ≡ slice_index xs r
padded_at n xs r = behind (replicate (n - length xs) 0) (zeros_at (n - length xs)) xs r
  where
    behind : (ys : List ℕ) → ((r : ℕ) → slice_index ys r ≡ 0) → (xs : List ℕ) (r : ℕ) → slice_index (xs ++ ys) r ≡ slice_index xs r
    behind ys h [] r = h r
    behind ys h (x ∷ xs) zero = refl
    behind ys h (x ∷ xs) (suc r) = behind ys h xs r

padded_length : (n : ℕ) (xs : List ℕ) → length xs ≤ n → length (padded n xs) ≡ n
padded_length n xs h =
    let a = length-append xs (replicate (n - length xs) 0) in
    let b = length-replicate {A = ℕ} (n - length xs) 0 in
    omega arith

module _ (air : Air) (rows : List (List ℕ)) where
  abbrev N : ℕ
  N = rows_per air

  abbrev own : ℕ → List (List ℕ)
  own i = instance_of air i rows

  abbrev column : ℕ → ℕ → List ℕ
  column i k = padded N (map (λ row. slice_index row k) (own i))

  own_at : (i r : ℕ) → r < N → get_or (own i) r [] ≡ get_or rows (i * N + r) []
  own_at i r l = get_or-take N (drop (i * N) rows) r [] l ∙ get_or-drop (i * N) rows r []

  -- the value at a place
  pub value_there : (i k r : ℕ) → k < columns_per air → r < N → value_in k r (table_of air (columns_per air) i rows) ≡ slice_index (slice_index_or rows (i * N + r) []) k
  value_there i k r hk hr =
      ap (λ ys. slice_index ys r) (get_or-map-range_with_len (column i) 0 (columns_per air) k k [] hk (omega arith))
      ∙ padded_at N (map (λ row. slice_index row k) (own i)) r ∙ column_at (own i) k r ∙ ap (λ row. slice_index row k) (own_at i r hr)

  own_short : (i : ℕ) → length (own i) ≤ N
  own_short i = let e = length-take N (drop (i * N) rows) in omega arith

  pub columns_long : (i : ℕ) → length (by_columns (columns_per air) N (own i)) ≡ columns_per air
  columns_long i = length-map-range_with_len (column i) 0 (columns_per air)

  pub columns_tall : (i : ℕ) → All (λ c. length c ≡ N) (by_columns (columns_per air) N (own i))
  columns_tall i = All-map (λ c. length c ≡ N) (column i) (range_with_len 0 (columns_per air)) (λ k d l. tall (get_or (range_with_len 0 (columns_per air)) k d))
    where
      tall : (k : ℕ) → length (column i k) ≡ N
      tall k = padded_length N (map (λ row. slice_index row k) (own i)) (subst (λ m. m ≤ N) (sym (length-map (own i) (λ row. slice_index row k))) (own_short i))

  pub columns_small : (i : ℕ) → All IsSmallRow rows → AreCanonical (by_columns (columns_per air) N (own i))
  columns_small i all = All-map IsCanonical (column i) (range_with_len 0 (columns_per air)) (λ k d l. small (get_or (range_with_len 0 (columns_per air)) k d))
    where
      here : All IsSmallRow (own i)
      here = All-take IsSmallRow N (drop (i * N) rows) (All-drop IsSmallRow (i * N) rows all)

      small : (k : ℕ) → IsCanonical (column i k)
      small k =
          All-append (λ v. v < p) (map (λ row. slice_index row k) (own i)) (replicate (N - length (map (λ row. slice_index row k) (own i))) 0)
          (All-map (λ v. v < p) (λ row. slice_index row k) (own i) (All-weaker IsSmallRow (λ row. slice_index row k < p) (λ row h. h k) (own i) here))
          (All-replicate (λ v. v < p) (N - length (map (λ row. slice_index row k) (own i))) 0 (omega arith))
