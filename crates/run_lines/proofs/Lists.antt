-- Lists by their places, and lists of tuples in another grouping.
use Rattle.std.proofs.Common.{ℕ, zero, suc, ◌+◌, ◌<◌, ◌≤◌, ◌≡◌, Bool, true, false, cond, List, [], ◌∷◌, ◌++◌, Some, None, map, flat_map, refl, sym, ap, ◌∙◌, subst, arith}
use Rattle.std.specs.Prelude.{All, slice_get, slice_index, slice_index_or, filter}
use Rattle.std.specs.List.{range_with_len}
use Rattle.std.proofs.lemmas.List.{map-append}
use Rattle.std.proofs.lemmas.List.Elements.{All-head, All-tail, All-get_or}
use Rattle.std.proofs.lemmas.List.FromFn.{length-map-range_with_len, get_or-map-range_with_len}
use Rattle.std.proofs.lemmas.Option.{slice_get_within, get_or_from_slice_get, slice_get-get_or, slice_get_past}
use Rattle.pil_ast.specs.Term.{Tuples, Namespace}
use Rattle.pil_ast.specs.Columns.{Columns}
use Rattle.pil_ast.specs.Holds.{AsOften, sent, all_sent, times}
use Rattle.pil_laws.specs.Table.{held}
use Rattle.pil_laws.proofs.Times.{times_none, times_append}

-- a value of the row that an element has, at the element's place
pub row_at : {R : Type 0} (row : R → List ℕ) (xs : List R) (j k : ℕ) → slice_index (slice_index_or (map row xs) j []) k ≡ held (λ x k. slice_index (row x) k) (slice_get xs j) k
row_at row [] j k = refl
row_at row (x ∷ xs) zero k = refl
row_at row (x ∷ xs) (suc j) k = row_at row xs j k

-- what is so of each element is so of the one at a place
pub at_place : {R : Type 0} (P : R → Type 0) (xs : List R) → All P xs → (j : ℕ) (x : R) → slice_get xs j ≡ Some x → P x
at_place P xs all j x e = subst P (get_or_from_slice_get xs j x x e) (All-get_or P xs j x (slice_get_within xs j x e) all)

-- the places of a function's values
pub value_there : {R : Type 0} (f : ℕ → R) (n j : ℕ) → j < n → slice_get (map f (range_with_len 0 n)) j ≡ Some (f j)
value_there f n j l =
    let long = length-map-range_with_len f 0 n in
    slice_get-get_or (map f (range_with_len 0 n)) j (f 0) (omega arith) ∙ ap Some (get_or-map-range_with_len f 0 n j j (f 0) l (omega arith))

pub value_past : {R : Type 0} (f : ℕ → R) (n j : ℕ) → n ≤ j → slice_get (map f (range_with_len 0 n)) j ≡ None
value_past f n j l =
    let long = length-map-range_with_len f 0 n in
    slice_get_past (map f (range_with_len 0 n)) j (omega arith)

pub all_kept : {X : Type 0} (p : X → Bool) → ((x : X) → p x ≡ true) → (xs : List X) → filter p xs ≡ xs
all_kept p h [] = refl
all_kept p h (x ∷ xs) = ap (λ b. cond b (x ∷ filter p xs) (filter p xs)) (h x) ∙ ap (λ ys. x ∷ ys) (all_kept p h xs)

kept_one : {X Y : Type 0} (f : X → List Y) (x : X) (xs : List X) (ys : List Y) (b : Bool) → flat_map f xs ≡ ys → flat_map f (cond b (x ∷ xs) xs) ≡ cond b (f x) [] ++ ys
kept_one f x xs ys true e = ap (λ zs. f x ++ zs) e
kept_one f x xs ys false e = e

-- the pieces of the elements that a test keeps
pub kept_pieces : {X Y : Type 0} (p : X → Bool) (f : X → List Y) (xs : List X) → flat_map f (filter p xs) ≡ flat_map (λ x. cond (p x) (f x) []) xs
kept_pieces p f [] = refl
kept_pieces p f (x ∷ xs) = kept_one f x (filter p xs) (flat_map (λ x. cond (p x) (f x) []) xs) (p x) (kept_pieces p f xs)

pub map_pieces : {X Y Z : Type 0} (g : Y → Z) (f : X → List Y) (xs : List X) → map g (flat_map f xs) ≡ flat_map (λ x. map g (f x)) xs
map_pieces g f [] = refl
map_pieces g f (x ∷ xs) = map-append g (f x) (flat_map f xs) ∙ ap (λ zs. map g (f x) ++ zs) (map_pieces g f xs)

-- ---- tuples of elements, in several lists
module _ {R : Type 0} (t : List ℕ) where
  none : (fs : List (R → List (List ℕ))) → times t (flat_map (λ f. flat_map f []) fs) ≡ 0
  none [] = times_none t
  none (f ∷ fs) = none fs

  one_more : (fs : List (R → List (List ℕ))) (x : R) (xs : List R) → times t (flat_map (λ f. flat_map f (x ∷ xs)) fs) ≡ times t (flat_map (λ f. f x) fs) + times t (flat_map (λ f. flat_map f xs) fs)
  one_more [] x xs = let z = times_none t in omega arith
  one_more (f ∷ fs) x xs =
      let a = times_append t (f x ++ flat_map f xs) (flat_map (λ f. flat_map f (x ∷ xs)) fs) in
      let b = times_append t (f x) (flat_map f xs) in
      let d = times_append t (f x) (flat_map (λ f. f x) fs) in
      let e = times_append t (flat_map f xs) (flat_map (λ f. flat_map f xs) fs) in
      let h = one_more fs x xs in
      omega arith

-- Where each element gives the same tuples to some lists as to others, all elements do.
pub regroup : {R : Type 0} (P : R → Type 0) (fs gs : List (R → List (List ℕ))) → ((x : R) → P x → flat_map (λ f. f x) fs ≡ flat_map (λ g. g x) gs) → (xs : List R) → All P xs → AsOften (flat_map (λ f. flat_map f xs) fs) (flat_map (λ g. flat_map g xs) gs)
regroup P fs gs same [] all t = none t fs ∙ sym (none t gs)
regroup P fs gs same (x ∷ xs) all t =
    let a = one_more t fs x xs in
    let b = one_more t gs x xs in
    let e = ap (times t) (same x (All-head P x xs all)) in
    let r = regroup P fs gs same xs (All-tail P x xs all) t in
    omega arith

-- each list sends what its function gives of the elements
abbrev pub EachSends : {R : Type 0} → List Namespace → Columns → List R → List Tuples → List (R → List (List ℕ)) → Type 0
EachSends ns c xs [] [] = Unit {0}
EachSends ns c xs [] (f ∷ fs) = ⊥
EachSends ns c xs (a ∷ ls) [] = ⊥
EachSends ns c xs (a ∷ ls) (f ∷ fs) = (sent ns c a ≡ flat_map f xs) × EachSends ns c xs ls fs

pub sends_all : {R : Type 0} (ns : List Namespace) (c : Columns) (xs : List R) (ls : List Tuples) (fs : List (R → List (List ℕ))) → EachSends ns c xs ls fs → all_sent ns c ls ≡ flat_map (λ f. flat_map f xs) fs
unfolding all_sent
sends_all ns c xs [] [] h = refl
sends_all ns c xs [] (f ∷ fs) h = absurd h
sends_all ns c xs (a ∷ ls) [] h = absurd h
sends_all ns c xs (a ∷ ls) (f ∷ fs) h = ap (λ ts. ts ++ all_sent ns c ls) h.0 ∙ ap (λ ts. flat_map f xs ++ ts) (sends_all ns c xs ls fs h.1)
