-- Items and namespaces of the program's tree, at their places.
use Rattle.std.proofs.Common.{ℕ, zero, suc, ◌≡◌, ◌<◌, ◌≤◌, List, [], ◌∷◌, length, get_or, map, refl, sym, ap, subst, ◌∙◌, ◌+◌, ◌++◌, take, arith, slice_get, Some, None}
use Rattle.std.specs.List.{flat_map}
use Rattle.std.proofs.lemmas.Grind.{flat_map-append}
use Rattle.std.proofs.lemmas.List.{take_more, append-nil, length-map}
use Rattle.pil_ast.specs.declared.tree.Item.{Item}
use Rattle.pil_ast.specs.declared.tree.Space.{Space}
use Rattle.pil_ast.specs.Tree.{line, namespace}
use Rattle.pil_ast.specs.Term.{Line, Namespace, num, identity, item_at, space_at}

pub item_at-map : (items : List Item) (k : ℕ) (d : Item) → k < length items → item_at (map line items) k ≡ line (get_or items k d)
item_at-map [] k d h = absurd (omega arith)
item_at-map (x ∷ xs) zero d h = refl
item_at-map (x ∷ xs) (suc k) d h = item_at-map xs k d (omega arith)

pub item_at-past : (items : List Item) (k : ℕ) → length items ≤ k → item_at (map line items) k ≡ identity 0 (num 0) (num 0)
item_at-past [] k h = refl
item_at-past (x ∷ xs) zero h = absurd (omega arith)
item_at-past (x ∷ xs) (suc k) h = item_at-past xs k (omega arith)

pub space_at-map : (spaces : List Space) (s : ℕ) (d : Space) → s < length spaces → space_at (map namespace spaces) s ≡ namespace (get_or spaces s d)
space_at-map [] k d h = absurd (omega arith)
space_at-map (x ∷ xs) zero d h = refl
space_at-map (x ∷ xs) (suc k) d h = space_at-map xs k d (omega arith)

-- what `get` finds at a place is the item there
pub item_at-found : (items : List Item) (k : ℕ) (x : Item) → slice_get items k ≡ Some x → item_at (map line items) k ≡ line x
item_at-found [] k x e = let n : ⊥ = cc in absurd n
item_at-found (y ∷ ys) zero x e = let s : y ≡ x = cc in ap line s
item_at-found (y ∷ ys) (suc k) x e = item_at-found ys k x e

pub item_at-none : (items : List Item) (k : ℕ) → slice_get items k ≡ None → item_at (map line items) k ≡ identity 0 (num 0) (num 0)
item_at-none [] k e = refl
item_at-none (y ∷ ys) zero e = let n : ⊥ = cc in absurd n
item_at-none (y ∷ ys) (suc k) e = item_at-none ys k e

pub space_at-found : (spaces : List Space) (s : ℕ) (x : Space) → slice_get spaces s ≡ Some x → space_at (map namespace spaces) s ≡ namespace x
space_at-found [] k x e = let n : ⊥ = cc in absurd n
space_at-found (y ∷ ys) zero x e = let s : y ≡ x = cc in ap namespace s
space_at-found (y ∷ ys) (suc k) x e = space_at-found ys k x e

-- an element that a loop over the namespaces finds
pub get_or-namespace : (spaces : List Space) (i : ℕ) (x : Space) (d : Namespace) → i < length spaces → x ≡ get_or spaces i x → get_or (map namespace spaces) i d ≡ namespace x
get_or-namespace [] i x d l e = absurd (omega arith)
get_or-namespace (y ∷ ys) zero x d l e = ap namespace (sym e)
get_or-namespace (y ∷ ys) (suc i) x d l e = get_or-namespace ys i x d (omega arith) e

pub space_at-namespace : (spaces : List Space) (i : ℕ) (x : Space) → i < length spaces → x ≡ get_or spaces i x → space_at (map namespace spaces) i ≡ namespace x
space_at-namespace [] i x l e = absurd (omega arith)
space_at-namespace (y ∷ ys) zero x l e = ap namespace (sym e)
space_at-namespace (y ∷ ys) (suc i) x l e = space_at-namespace ys i x (omega arith) e

-- the items of a namespace that was read at its place
pub items-at : (spaces all : List Space) (s : ℕ) (x : Space) (items : List Item) → all ≡ spaces → s < length spaces → x ≡ get_or all s x → items ≡ (get_or all s x).items → map line items ≡ (space_at (map namespace spaces) s).items
items-at spaces all s x items same l at is =
    let at' : x ≡ get_or spaces s x = at ∙ ap (λ a. get_or a s x) same in
    ap (map line) (is ∙ ap (λ y. y.items) (sym at)) ∙ sym (ap (λ n. n.items) (space_at-namespace spaces s x l at'))

-- an element that a loop over the items finds
pub get_or-line : (items : List Item) (i : ℕ) (x : Item) (d : Line) → i < length items → x ≡ get_or items i x → get_or (map line items) i d ≡ line x
get_or-line [] i x d l e = absurd (omega arith)
get_or-line (y ∷ ys) zero x d l e = ap line (sym e)
get_or-line (y ∷ ys) (suc i) x d l e = get_or-line ys i x d (omega arith) e

-- what a list gives with one more element
pub flat_map-more : {X A : Type 0} (f : X → List A) (xs : List X) (i : ℕ) (x : X) → i < length xs → get_or xs i x ≡ x → flat_map f (take (i + 1) xs) ≡ flat_map f (take i xs) ++ f x
flat_map-more f xs i x l e =
    ap (flat_map f) (take_more xs i x l ∙ ap (λ y. take i xs ++ y ∷ []) e) ∙ flat_map-append f (take i xs) (x ∷ []) ∙ ap (λ s. flat_map f (take i xs) ++ s) (append-nil (f x))

-- the namespace that a loop over them finds
pub space-here : (spaces all : List Space) (i : ℕ) (x : Space) → all ≡ spaces → i < length all → x ≡ get_or all i x → space_at (map namespace spaces) i ≡ namespace x
space-here spaces all i x same l at = space_at-namespace spaces i x (subst (λ a. i < length a) same l) (at ∙ ap (λ a. get_or a i x) same)

pub namespace-here : (spaces all : List Space) (i : ℕ) (x : Space) (d : Namespace) → all ≡ spaces → i < length all → x ≡ get_or all i x → get_or (map namespace spaces) i d ≡ namespace x
namespace-here spaces all i x d same l at = get_or-namespace spaces i x d (subst (λ a. i < length a) same l) (at ∙ ap (λ a. get_or a i x) same)

pub spaces-within : (spaces all : List Space) (i : ℕ) → all ≡ spaces → i < length all → i < length (map namespace spaces)
spaces-within spaces all i same l = let e : length all ≡ length spaces = ap length same in omega (arith, length-map spaces namespace)

pub spaces-past : (spaces all : List Space) (i : ℕ) → all ≡ spaces → length all ≤ i → length (map namespace spaces) ≤ i
spaces-past spaces all i same l = let e : length all ≡ length spaces = ap length same in omega (arith, length-map spaces namespace)

pub spaces-at_most : (spaces all : List Space) (i : ℕ) → all ≡ spaces → i ≤ length all → i ≤ length (map namespace spaces)
spaces-at_most spaces all i same l = let e : length all ≡ length spaces = ap length same in omega (arith, length-map spaces namespace)
