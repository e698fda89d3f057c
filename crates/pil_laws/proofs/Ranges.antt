-- What numbers in a row give: the rows of all instances, one after the other.
use Rattle.std.proofs.Common.{ℕ, zero, suc, ◌+◌, ◌*◌, ◌<◌, ◌≤◌, ◌≡◌, List, [], ◌∷◌, ◌++◌, Option, Some, None, length, flat_map, slice_get, refl, sym, ap, ◌∙◌, arith, append_assoc}
use Rattle.std.specs.List.{range_with_len, filter_map}
use Rattle.pil_ast.specs.Holds.{by_rows}
use Rattle.pil_laws.specs.Table.{of_row}

-- two functions that agree over two ranges
pub ranges_same : {X : Type 0} (f g : ℕ → List X) (n a b : ℕ) → ((k : ℕ) → k < n → f (a + k) ≡ g (b + k)) → flat_map f (range_with_len a n) ≡ flat_map g (range_with_len b n)
ranges_same f g zero a b h = refl
ranges_same f g (suc n) a b h =
    let first : f a ≡ g b = ap f (omega arith) ∙ h 0 (omega arith) ∙ ap g (omega arith) in
    let rest = ranges_same f g n (a + 1) (b + 1) (λ k l. ap f (omega arith) ∙ h (k + 1) (omega arith) ∙ ap g (omega arith)) in
    ap (λ xs. xs ++ flat_map f (range_with_len (a + 1) n)) first ∙ ap (λ xs. g b ++ xs) rest

pub range_split : {X : Type 0} (f : ℕ → List X) (n a m : ℕ) → flat_map f (range_with_len a (n + m)) ≡ flat_map f (range_with_len a n) ++ flat_map f (range_with_len (a + n) m)
range_split f zero a m =
    let e : 0 + m ≡ m = omega arith in
    let z : a + 0 ≡ a = omega arith in
    rw (e, z) refl
range_split f (suc n) a m =
    let e : suc n + m ≡ suc (n + m) = omega arith in
    let z : a + suc n ≡ a + 1 + n = omega arith in
    rw (e, z) (ap (λ xs. f a ++ xs) (range_split f n (a + 1) m) ∙ sym (append_assoc (f a) (flat_map f (range_with_len (a + 1) n)) (flat_map f (range_with_len (a + 1 + n) m))))

pub range_empty : {X : Type 0} (n a : ℕ) → flat_map {A = X} (λ k. []) (range_with_len a n) ≡ []
range_empty zero a = refl
range_empty (suc n) a = range_empty n (a + 1)

-- all rows of instances j to j + m, by one number
instances_joined : {X : Type 0} (h : ℕ → List X) (n m j : ℕ) → flat_map (λ i. flat_map h (range_with_len (i * n) n)) (range_with_len j m) ≡ flat_map h (range_with_len (j * n) (m * n))
instances_joined h n zero j = let e : 0 * n ≡ 0 = omega arith in rw e refl
instances_joined h n (suc m) j =
    let e : suc m * n ≡ n + m * n = grind arith in
    let z : (j + 1) * n ≡ j * n + n = grind arith in
    let rest : flat_map (λ i. flat_map h (range_with_len (i * n) n)) (range_with_len (j + 1) m) ≡ flat_map h (range_with_len (j * n + n) (m * n)) = instances_joined h n m (j + 1) ∙ ap (λ a. flat_map h (range_with_len a (m * n))) z in
    ap (λ xs. flat_map h (range_with_len (j * n) n) ++ xs) rest ∙ sym (range_split h n (j * n) (m * n)) ∙ ap (λ k. flat_map h (range_with_len (j * n) k)) (sym e)

-- what each row of each instance gives, by the row's number among all
pub by_number : {X : Type 0} (g : ℕ → ℕ → List X) (h : ℕ → List X) (m n : ℕ) → ((i r : ℕ) → i < m → r < n → g i r ≡ h (i * n + r)) → by_rows g m n ≡ flat_map h (range_with_len 0 (m * n))
by_number g h m n each =
    ranges_same (λ i. flat_map (g i) (range_with_len 0 n)) (λ i. flat_map h (range_with_len (i * n) n)) m 0 0 (λ i l. ranges_same (g (0 + i)) h n 0 ((0 + i) * n) (λ r w. ap (g (0 + i)) (omega arith) ∙ each (0 + i) r (omega arith) w))
    ∙ instances_joined h n m 0 ∙ ap (λ a. flat_map h (range_with_len a (m * n))) zero_times
  where
    zero_times : 0 * n ≡ 0
    zero_times = omega arith

-- rows by their numbers, and nothing past the last
pub by_places : {R X : Type 0} (f : R → List X) (rows : List R) (n a : ℕ) (h : ℕ → List X) → length rows ≤ n → ((k : ℕ) → k < n → h (a + k) ≡ of_row f (slice_get rows k)) → flat_map h (range_with_len a n) ≡ flat_map f rows
by_places f [] n a h le each = ranges_same h (λ k. []) n a 0 (λ k l. each k l) ∙ range_empty n 0
by_places f (x ∷ xs) zero a h le each = absurd (omega arith)
by_places f (x ∷ xs) (suc n) a h le each =
    let first : h a ≡ f x = ap h (omega arith) ∙ each 0 (omega arith) in
    let rest = by_places f xs n (a + 1) h (omega arith) (λ k l. ap h (omega arith) ∙ each (suc k) (omega arith)) in
    ap (λ ys. ys ++ flat_map h (range_with_len (a + 1) n)) first ∙ ap (λ ys. f x ++ ys) rest

-- rows cut into instances, and nothing past the last
pub by_instances : {R X : Type 0} (g : ℕ → ℕ → List X) (f : R → List X) (rows : List R) (m n : ℕ) → length rows ≤ m * n → ((i r : ℕ) → i < m → r < n → g i r ≡ of_row f (slice_get rows (i * n + r))) → by_rows g m n ≡ flat_map f rows
by_instances g f rows m n room each = by_number g (λ k. of_row f (slice_get rows k)) m n each ∙ by_places f rows (m * n) 0 (λ k. of_row f (slice_get rows k)) room (λ k l. ap (λ j. of_row f (slice_get rows j)) (omega arith))

one_more : {A R X : Type 0} (row : A → Option R) (f : R → List X) (x : A) (xs : List A) (o : Option R) → row x ≡ o → flat_map f (filter_map row xs) ≡ flat_map (λ y. of_row f (row y)) xs
    → flat_map f (filter_map row (x ∷ xs)) ≡ of_row f (row x) ++ flat_map (λ y. of_row f (row y)) xs
one_more row f x xs None e h = rw e h
one_more row f x xs (Some r) e h = rw e (ap (λ ys. f r ++ ys) h)

-- the rows of some elements
pub of_some : {A R X : Type 0} (row : A → Option R) (f : R → List X) (xs : List A) → flat_map f (filter_map row xs) ≡ flat_map (λ x. of_row f (row x)) xs
of_some row f [] = refl
of_some row f (x ∷ xs) = one_more row f x xs (row x) refl (of_some row f xs)

-- rows that agree
pub rows_same : {X : Type 0} (f g : ℕ → ℕ → List X) (m n : ℕ) → ((i r : ℕ) → i < m → r < n → f i r ≡ g i r) → by_rows f m n ≡ by_rows g m n
rows_same f g m n each =
    ranges_same (λ i. flat_map (f i) (range_with_len 0 n)) (λ i. flat_map (g i) (range_with_len 0 n)) m 0 0 (λ i l. ranges_same (f (0 + i)) (g (0 + i)) n 0 0 (λ r w. each (0 + i) (0 + r) (omega arith) (omega arith)))
