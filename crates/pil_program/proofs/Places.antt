-- Items, namespaces and elements at their places, and how many items there are.
use Rattle.std.proofs.Common.{ℕ, zero, suc, ◌≡◌, ◌<◌, ◌≤◌, ◌+◌, ◌^◌, ◌⊎◌, inl, inr, List, [], ◌∷◌, ◌++◌, Some, length, get_or, map, sum_by, slice_get, refl, sym, ◌∙◌, ap, subst, arith, All}
use Rattle.std.proofs.lemmas.List.Sums.{sum_by-cons}
use Rattle.std.proofs.lemmas.List.Elements.{All-head, All-tail}
use Rattle.gold.specs.Field.{p}
use Rattle.pil_ast.specs.declared.tree.Item.{Item}
use Rattle.pil_ast.specs.declared.tree.Space.{Space}
use Rattle.pil_ast.specs.Tree.{line, namespace}
use Rattle.pil_ast.specs.Term.{Line, constant, commit, inter, published, identity, lookup, bus, Namespace, inter_at, space_at, width, publics}
use Rattle.pil_ast.specs.Sound.{IsItem, IsTerm, IsNameable, IsSpace, IsSound, signs_of_item, signs}
use Rattle.pil_ast.specs.Order.{NamesInside}
use Rattle.pil_program.proofs.Parts.{each_from}

pub get_or-any : {X : Type 0} (xs : List X) (n : ℕ) (d d' : X) → n < length xs → get_or xs n d ≡ get_or xs n d'
get_or-any [] n d d' l = absurd (omega arith)
get_or-any (x ∷ xs) zero d d' l = refl
get_or-any (x ∷ xs) (suc n) d d' l = get_or-any xs n d d' (omega arith)

-- an element of a list with one more at its end
pub slice_get-push : {X : Type 0} (xs : List X) (y x : X) (j : ℕ) → slice_get (xs ++ y ∷ []) j ≡ Some x → ((j < length xs) × (slice_get xs j ≡ Some x)) ⊎ ((j ≡ length xs) × (y ≡ x))
slice_get-push [] y x zero e = let s : y ≡ x = cc in inr (refl, s)
slice_get-push [] y x (suc j) e = let n : ⊥ = cc in absurd n
slice_get-push (z ∷ xs) y x zero e = inl (omega arith, e)
slice_get-push (z ∷ xs) y x (suc j) e = elim (slice_get-push xs y x j e) [ inl (l, p) ↦ inl (omega arith, p) | inr (l, p) ↦ inr (ap suc l, p) ]

pub space_at-namespace : (spaces : List Space) (i : ℕ) (x : Space) → i < length spaces → x ≡ get_or spaces i x → space_at (map namespace spaces) i ≡ namespace x
space_at-namespace [] i x l e = absurd (omega arith)
space_at-namespace (y ∷ ys) zero x l e = ap namespace (sym e)
space_at-namespace (y ∷ ys) (suc i) x l e = space_at-namespace ys i x (omega arith) e

-- the items of a namespace that was read at its place
pub items-at : (spaces all : List Space) (s : ℕ) (x : Space) (items : List Item) → all ≡ spaces → s < length spaces → x ≡ get_or all s x → items ≡ (get_or all s x).items → map line items ≡ (space_at (map namespace spaces) s).items
items-at spaces all s x items same l at is =
    let at' : x ≡ get_or spaces s x = at ∙ ap (λ a. get_or a s x) same in
    ap (map line) (is ∙ ap (λ y. y.items) (sym at)) ∙ sym (ap (λ n. n.items) (space_at-namespace spaces s x l at'))

pub signs-some : (l : Line) → 1 ≤ signs_of_item l
signs-some (constant n len) = omega arith
signs-some (commit n len) = omega arith
signs-some (inter n e) = omega arith
signs-some (published n s k r) = omega arith
signs-some (identity s a b) = omega arith
signs-some (lookup a b) = omega arith
signs-some (bus ls rs) = omega arith

pub length-signs : (items : List Line) → length items ≤ sum_by signs_of_item items
length-signs [] = omega arith
length-signs (l ∷ ls) = omega (arith, sum_by-cons signs_of_item l ls, signs-some l, length-signs ls)

-- how many signs a namespace takes in a text
abbrev space_signs : Namespace → ℕ
space_signs n = 1 + sum_by signs_of_item n.items

pub signs-at : (ns : List Namespace) (s : ℕ) → s < length ns → 1 + sum_by signs_of_item (space_at ns s).items ≤ signs ns
signs-at [] s h = absurd (omega arith)
signs-at (n ∷ ns) zero h = omega (arith, sum_by-cons space_signs n ns)
signs-at (n ∷ ns) (suc s) h = omega (arith, sum_by-cons space_signs n ns, signs-at ns s (omega arith))

pub few_items : (ns : List Namespace) (s : ℕ) → IsSound ns → s < length ns → length (space_at ns s).items < 2 ^ 20
few_items ns s h l = omega (arith, h.signs, signs-at ns s l, length-signs (space_at ns s).items)

-- each item's expression is a term of its namespace
pub item-term : (ns : List Namespace) (s : ℕ) (items : List Line) (k : ℕ) → All (IsItem ns s) items → IsTerm ns s (inter_at items k)
item-term ns s [] k h = omega arith
item-term ns s (constant n len ∷ ls) zero h = omega arith
item-term ns s (commit n len ∷ ls) zero h = omega arith
item-term ns s (inter n e ∷ ls) zero h = All-head (IsItem ns s) (inter n e) ls h
item-term ns s (published n m c r ∷ ls) zero h = omega arith
item-term ns s (identity m a b ∷ ls) zero h = omega arith
item-term ns s (lookup a b ∷ ls) zero h = omega arith
item-term ns s (bus as' bs ∷ ls) zero h = omega arith
item-term ns s (l ∷ ls) (suc k) h = item-term ns s ls k (All-tail (IsItem ns s) l ls h)

pub few_enough : (a b : ℕ) → a ≡ b → b < 2 ^ 20 → a < 2 ^ 32
few_enough a b e l = omega arith

-- each intermediate names items of its namespace
pub names-inside : (ns : List Namespace) (s : ℕ) (items : List Line) → items ≡ (space_at ns s).items → IsSpace ns s (space_at ns s) → NamesInside items
names-inside ns s items same space =
    subst NamesInside (sym same)
    (λ k. each_from (λ n. n < p) (λ n. Unit {0}) (λ n c b. (n ≡ s) × (c < width (space_at ns s).items)) (λ n c b. Unit {0})
    (λ n j b. (n ≡ s) × IsNameable (space_at ns s).items j b) (λ n j b. j < length (space_at ns s).items) (λ g. g < length (publics ns)) (λ g. Unit {0})
    (λ n a. tt) (λ n c b a. tt) (λ n j b a. a.1.0) (λ g a. tt) (inter_at (space_at ns s).items k) (item-term ns s (space_at ns s).items k space.items))
