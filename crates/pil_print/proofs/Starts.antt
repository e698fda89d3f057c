-- The tables of columns and publics.
use Rattle.std.proofs.Common.{ℕ, zero, suc, ◌≡◌, ◌<◌, ◌≤◌, ◌+◌, ◌-◌, List, [], ◌∷◌, ◌++◌, length, get_or, map, take, filter, sum_by, Bool, true, false, cond, refl, sym, ap, ◌∙◌, arith, slice_get, Some, All, ◌⊎◌, inl, inr}
use Rattle.std.proofs.lemmas.List.{append-nil, length-map}
use Rattle.std.proofs.lemmas.List.Elements.{All-nil, All-cons, All-head, All-tail}
use Rattle.std.proofs.lemmas.List.Sums.{sum_by-cons}
use Rattle.std.proofs.lemmas.Grind.{common_steps}
use Rattle.pil_ast.specs.Term.{Line, constant, commit, inter, published, identity, lookup, bus, columns_of, width, item_at}
use Rattle.pil_syntax.specs.declared.tree.Number.{Number}
use Rattle.std.specs.Prelude.{Option}
use Rattle.pil_ast.specs.Term.{Namespace, space_at}
use Rattle.pil_print.specs.Statements.{is_constant, is_commit, declared, Spot, spot_in, reference_to, reference_at, column_reference, index_in}
use Rattle.pil_print.specs.Tables.{firsts_from}

-- one more element of a list, filtered
pub filter-more : {X Y : Type 0} (f : X → Y) (p : Y → Bool) (xs : List X) (i : ℕ) (x : X) → i < length xs → x ≡ get_or xs i x → filter p (map f (take (i + 1) xs)) ≡ filter p (map f (take i xs)) ++ cond (p (f x)) (f x ∷ []) []
filter-more f p [] i x l e = absurd (omega arith)
filter-more f p (y ∷ ys) zero x l e = ap (λ z. cond (p (f z)) (f z ∷ []) []) (sym e)
filter-more f p (y ∷ ys) (suc i) x l e =
    let one : suc i + 1 ≡ suc (i + 1) = omega arith in
    ap (λ n. filter p (map f (take n (y ∷ ys)))) one ∙ kept (p (f y)) (filter-more f p ys i x (omega arith) e)
  where
    kept : (b : Bool) → filter p (map f (take (i + 1) ys)) ≡ filter p (map f (take i ys)) ++ cond (p (f x)) (f x ∷ []) []
        → cond b (f y ∷ filter p (map f (take (i + 1) ys))) (filter p (map f (take (i + 1) ys))) ≡ cond b (f y ∷ filter p (map f (take i ys))) (filter p (map f (take i ys))) ++ cond (p (f x)) (f x ∷ []) []
    kept true e = ap (λ s. f y ∷ s) e
    kept false e = e

pub filter-kept : {X Y : Type 0} (f : X → Y) (p : Y → Bool) (xs : List X) (i : ℕ) (x : X) → i < length xs → x ≡ get_or xs i x → p (f x) ≡ true → filter p (map f (take (i + 1) xs)) ≡ filter p (map f (take i xs)) ++ f x ∷ []
filter-kept f p xs i x l e t = filter-more f p xs i x l e ∙ ap (λ b. filter p (map f (take i xs)) ++ cond b (f x ∷ []) []) t

pub filter-passed : {X Y : Type 0} (f : X → Y) (p : Y → Bool) (xs : List X) (i : ℕ) (x : X) → i < length xs → x ≡ get_or xs i x → p (f x) ≡ false → filter p (map f (take (i + 1) xs)) ≡ filter p (map f (take i xs))
filter-passed f p xs i x l e t = filter-more f p xs i x l e ∙ ap (λ b. filter p (map f (take i xs)) ++ cond b (f x ∷ []) []) t ∙ append-nil (filter p (map f (take i xs)))

-- one more item's first column
pub firsts-more : {X : Type 0} (f : X → Line) (n : ℕ) (xs : List X) (i : ℕ) (x : X) → i < length xs → x ≡ get_or xs i x → firsts_from n (map f (take (i + 1) xs)) ≡ firsts_from n (map f (take i xs)) ++ (n + sum_by (λ y. columns_of (f y)) (take i xs)) ∷ []
firsts-more f n [] i x l e = absurd (omega arith)
firsts-more f n (y ∷ ys) zero x l e = let z : n ≡ n + 0 = omega arith in ap (λ k. k ∷ []) z
firsts-more f n (y ∷ ys) (suc i) x l e =
    let one : suc i + 1 ≡ suc (i + 1) = omega arith in
    let z : n + columns_of (f y) + sum_by (λ w. columns_of (f w)) (take i ys) ≡ n + sum_by (λ w. columns_of (f w)) (y ∷ take i ys) = omega (arith, sum_by-cons (λ w. columns_of (f w)) y (take i ys)) in
    ap (λ k. firsts_from n (map f (take k (y ∷ ys)))) one
    ∙ ap (λ s. n ∷ s) (firsts-more f (n + columns_of (f y)) ys i x (omega arith) e ∙ ap (λ k. firsts_from (n + columns_of (f y)) (map f (take i ys)) ++ k ∷ []) z)

pub sum-more : {X : Type 0} (f : X → ℕ) (xs : List X) (i : ℕ) (x : X) → i < length xs → x ≡ get_or xs i x → sum_by f (take (i + 1) xs) ≡ sum_by f (take i xs) + f x
sum-more f [] i x l e = absurd (omega arith)
sum-more f (y ∷ ys) zero x l e = omega (arith, sum_by-cons f y [], ap f e)
sum-more f (y ∷ ys) (suc i) x l e =
    let one : suc i + 1 ≡ suc (i + 1) = omega arith in
    ap (λ n. sum_by f (take n (y ∷ ys))) one
    ∙ (let all : sum_by f (take (suc (i + 1)) (y ∷ ys)) ≡ sum_by f (take (suc i) (y ∷ ys)) + f x = omega (arith, sum_by-cons f y (take (i + 1) ys), sum_by-cons f y (take i ys), sum-more f ys i x (omega arith) e) in all)

pub sum-within : {X : Type 0} (f : X → ℕ) (xs : List X) (i : ℕ) (x : X) → i < length xs → x ≡ get_or xs i x → sum_by f (take i xs) + f x ≤ sum_by f xs
sum-within f [] i x l e = absurd (omega arith)
sum-within f (y ∷ ys) zero x l e = omega (arith, sum_by-cons f y ys, ap f e)
sum-within f (y ∷ ys) (suc i) x l e = omega (arith, sum_by-cons f y ys, sum_by-cons f y (take i ys), sum-within f ys i x (omega arith) e)

pub sum_by-map : {X Y : Type 0} (f : Y → ℕ) (g : X → Y) (xs : List X) → sum_by f (map g xs) ≡ sum_by (λ x. f (g x)) xs
sum_by-map f g [] = refl
sum_by-map f g (x ∷ xs) = omega (arith, sum_by-cons f (g x) (map g xs), sum_by-cons (λ y. f (g y)) x xs, sum_by-map f g xs)

pub sum_by-append : {X : Type 0} (f : X → ℕ) (xs ys : List X) → sum_by f (xs ++ ys) ≡ sum_by f xs + sum_by f ys
sum_by-append f [] ys = omega (arith)
sum_by-append f (x ∷ xs) ys = omega (arith, sum_by-cons f x xs, sum_by-cons f x (xs ++ ys), sum_by-append f xs ys)

-- the items that declare columns have all of them
pub width-parts : (ls : List Line) → sum_by columns_of (filter is_constant ls) + sum_by columns_of (filter is_commit ls) ≡ sum_by columns_of ls
width-parts [] = refl
width-parts (constant x n ∷ ls) = omega (arith, sum_by-cons columns_of (constant x n) ls, sum_by-cons columns_of (constant x n) (filter is_constant ls), width-parts ls)
width-parts (commit x n ∷ ls) = omega (arith, sum_by-cons columns_of (commit x n) ls, sum_by-cons columns_of (commit x n) (filter is_commit ls), width-parts ls)
width-parts (inter x e ∷ ls) = omega (arith, sum_by-cons columns_of (inter x e) ls, width-parts ls)
width-parts (published x s k r ∷ ls) = omega (arith, sum_by-cons columns_of (published x s k r) ls, width-parts ls)
width-parts (identity s a b ∷ ls) = omega (arith, sum_by-cons columns_of (identity s a b) ls, width-parts ls)
width-parts (lookup a b ∷ ls) = omega (arith, sum_by-cons columns_of (lookup a b) ls, width-parts ls)
width-parts (bus a b ∷ ls) = omega (arith, sum_by-cons columns_of (bus a b) ls, width-parts ls)

pub width-declared : (ls : List Line) → width (declared ls) ≡ width ls
width-declared ls = sum_by-append columns_of (filter is_constant ls) (filter is_commit ls) ∙ width-parts ls

pub length-firsts : (n : ℕ) (ls : List Line) → length (firsts_from n ls) ≡ length ls
length-firsts n [] = refl
length-firsts n (l ∷ ls) = omega (arith, length-firsts (n + columns_of l) ls)

firsts-above : (n : ℕ) (ls : List Line) (i : ℕ) → i < length ls → n ≤ get_or (firsts_from n ls) i 0
firsts-above n [] i l = absurd (omega arith)
firsts-above n (x ∷ ls) zero l = omega arith
firsts-above n (x ∷ ls) (suc i) l = omega (arith, firsts-above (n + columns_of x) ls i (omega arith))

pub spot-here : (l : Line) (ls : List Line) (k : ℕ) → k < columns_of l → spot_in (l ∷ ls) k ≡ record { item = l; index = k }
spot-here l ls k h = grind (arith, common_steps)

pub spot-past : (l : Line) (ls : List Line) (k : ℕ) → columns_of l ≤ k → spot_in (l ∷ ls) k ≡ spot_in ls (k - columns_of l)
spot-past l ls k h = grind (arith, common_steps)

-- the last item whose first column isn't past a column declares it
pub spot-found : (n : ℕ) (ls : List Line) (k i : ℕ) → i < length ls → get_or (firsts_from n ls) i 0 ≤ n + k → (i + 1 < length ls → n + k < get_or (firsts_from n ls) (i + 1) 0) → k < width ls
    → spot_in ls k ≡ (let s : Spot = record { item = item_at ls i; index = n + k - get_or (firsts_from n ls) i 0 } in s)
spot-found n [] k i l low high all = absurd (omega arith)
spot-found n (x ∷ []) k zero l low high all =
    spot-here x [] k (omega (arith, sum_by-cons columns_of x [])) ∙ ap (λ j. let s : Spot = record { item = x; index = j } in s) (let z : k ≡ n + k - n = omega arith in z)
spot-found n (x ∷ y ∷ ls) k zero l low high all =
    let h : n + k < n + columns_of x = high (omega arith) in
    spot-here x (y ∷ ls) k (omega arith) ∙ ap (λ j. let s : Spot = record { item = x; index = j } in s) (let z : k ≡ n + k - n = omega arith in z)
spot-found n (x ∷ ls) k (suc i) l low high all =
    let c = columns_of x in
    let above : n + c ≤ get_or (firsts_from (n + c) ls) i 0 = firsts-above (n + c) ls i (omega arith) in
    let past : c ≤ k = omega arith in
    let same : n + c + (k - c) ≡ n + k = omega arith in
    let one : suc i + 1 ≡ suc (i + 1) = omega arith in
    let low' : get_or (firsts_from (n + c) ls) i 0 ≤ n + c + (k - c) = omega arith in
    let high' : i + 1 < length ls → n + c + (k - c) < get_or (firsts_from (n + c) ls) (i + 1) 0 = λ h. upper (omega arith) in
    spot-past x ls k past
    ∙ (spot-found (n + c) ls (k - c) i (omega arith) low' high' (omega (arith, sum_by-cons columns_of x ls))
    ∙ ap (λ j. let s : Spot = record { item = item_at ls i; index = j - get_or (firsts_from (n + c) ls) i 0 } in s) same)
  where
    upper : suc i + 1 < length (x ∷ ls) → n + columns_of x + (k - columns_of x) < get_or (firsts_from (n + columns_of x) ls) (i + 1) 0
    upper h =
        let one : suc i + 1 ≡ suc (i + 1) = omega arith in
        let u : n + k < get_or (firsts_from n (x ∷ ls)) (suc (i + 1)) 0 = rw one at (high h) in
        let above : n + columns_of x ≤ get_or (firsts_from (n + columns_of x) ls) i 0 = firsts-above (n + columns_of x) ls i (omega arith) in
        omega arith

pub item-here : {X : Type 0} (f : X → Line) (xs : List X) (i : ℕ) (x : X) → i < length xs → x ≡ get_or xs i x → item_at (map f xs) i ≡ f x
item-here f [] i x l e = absurd (omega arith)
item-here f (y ∷ ys) zero x l e = ap f (sym e)
item-here f (y ∷ ys) (suc i) x l e = item-here f ys i x (omega arith) e

pub space-here : {X : Type 0} (f : X → Namespace) (xs : List X) (i : ℕ) (x : X) → i < length xs → x ≡ get_or xs i x → space_at (map f xs) i ≡ f x
space-here f [] i x l e = absurd (omega arith)
space-here f (y ∷ ys) zero x l e = ap f (sym e)
space-here f (y ∷ ys) (suc i) x l e = space-here f ys i x (omega arith) e

pub got : {X : Type 0} (xs : List X) (i : ℕ) (x : X) → i < length xs → x ≡ get_or xs i x → slice_get xs i ≡ Some x
got [] i x l e = absurd (omega arith)
got (y ∷ ys) zero x l e = ap Some (sym e)
got (y ∷ ys) (suc i) x l e = got ys i x (omega arith) e

-- the first column of the first item
pub first-some : (fs : List ℕ) (ls : List Line) (k : ℕ) → fs ≡ firsts_from 0 ls → k < width ls → (0 < length fs) × (get_or fs 0 0 ≤ k)
first-some fs [] k e h = absurd (omega arith)
first-some fs (l ∷ ls) k e h = (omega (arith, ap length e), omega (arith, ap (λ (s : List ℕ). get_or s 0 0) e))

pub spot-at : {X : Type 0} (f : X → Line) (xs : List X) (fs : List ℕ) (k i : ℕ) (x : X) → fs ≡ firsts_from 0 (map f xs) → i < length fs → get_or fs i 0 ≤ k → (i + 1 < length fs → k < get_or fs (i + 1) 0) → k < width (map f xs) → x ≡ get_or xs i x
    → (f x ≡ (spot_in (map f xs) k).item) × (k - get_or fs i 0 ≡ (spot_in (map f xs) k).index)
spot-at f xs fs k i x e l low high all at =
    let ls = map f xs in
    let long : length fs ≡ length (map f xs) = ap length e ∙ length-firsts 0 (map f xs) in
    let within : i < length (map f xs) = omega arith in
    let within' : i < length xs = omega (arith, length-map xs f) in
    let low' : get_or (firsts_from 0 (map f xs)) i 0 ≤ 0 + k = omega (arith, ap (λ (s : List ℕ). get_or s i 0) e) in
    let high' : i + 1 < length (map f xs) → 0 + k < get_or (firsts_from 0 (map f xs)) (i + 1) 0 = λ h. omega (arith, high (omega arith), ap (λ (s : List ℕ). get_or s (i + 1) 0) e) in
    let found = spot-found 0 (map f xs) k i within low' high' all in
    (sym (item-here f xs i x within' at) ∙ sym (ap (λ s. s.item) found), omega (arith, ap (λ (s : Spot). s.index) found, ap (λ (s : List ℕ). get_or s i 0) e))

pub column-same : (ns : List Namespace) (s k : ℕ) (next : Bool) (ls : List Line) (item : Line) (idx : ℕ) (i : Option Number) → ls ≡ declared (space_at ns s).items → item ≡ (spot_in ls k).item → idx ≡ (spot_in ls k).index → i ≡ index_in item idx → reference_to ns s item i next ≡ column_reference ns s k next
column-same ns s k next ls item idx i p q r e =
    ap (λ j. reference_to ns s item j next) e
    ∙ (ap (λ it. reference_to ns s it (index_in it idx) next) q
    ∙ (ap (λ n. reference_to ns s (spot_in ls k).item (index_in (spot_in ls k).item n) next) r ∙ ap (λ zs. reference_at ns s (spot_in zs k) next) p))

pub get-pushed : {X : Type 0} (xs : List X) (x c : X) (s : ℕ) → slice_get (xs ++ x ∷ []) s ≡ Some c → (slice_get xs s ≡ Some c) ⊎ ((s ≡ length xs) × (x ≡ c))
get-pushed [] x c zero h = inr (refl, cc)
get-pushed [] x c (suc s) h = let no : ⊥ = cc in absurd no
get-pushed (y ∷ ys) x c zero h = inl h
get-pushed (y ∷ ys) x c (suc s) h = elim (get-pushed ys x c s h) [
  | inl a ↦ inl a
  | inr b ↦ inr (ap suc b.0, b.1)
]

pub all-mapped : {X Y : Type 0} (P : Y → Type 0) (f : X → Y) (xs : List X) → All P (map f xs) → All (λ x. P (f x)) xs
all-mapped P f [] a = All-nil (λ x. P (f x))
all-mapped P f (x ∷ xs) a = All-cons (λ x. P (f x)) x xs (All-head P (f x) (map f xs) a) (all-mapped P f xs (All-tail P (f x) (map f xs) a))

-- what a table's columns are few of
pub table-few : {X : Type 0} (f : X → Line) (xs : List X) (ls : List Line) → map f xs ≡ declared ls → width ls < 4294967296 → sum_by (λ x. columns_of (f x)) xs < 4294967296
table-few f xs ls e h = omega (arith, sum_by-map columns_of f xs, ap width e, width-declared ls, h)
