-- What a loop over items and namespaces reads.
use Rattle.std.proofs.Common.{ℕ, zero, suc, ◌<◌, ◌≤◌, ◌≡◌, List, [], ◌∷◌, length, get_or, map, refl, sym, ap, subst, arith}
use Rattle.pil_ast.specs.declared.tree.Item.{Item}
use Rattle.pil_ast.specs.declared.tree.Space.{Space}
use Rattle.pil_ast.specs.Tree.{line, namespace}
use Rattle.pil_ast.specs.Term.{item_at, space_at}
use Rattle.pil_program.specs.Publics.{NoneInItem}

pub map-read : {X Y : Type 0} (f : X → Y) (xs : List X) (i : ℕ) (x : X) (d : Y) → i < length xs → x ≡ get_or xs i x → get_or (map f xs) i d ≡ f x
map-read f [] i x d l e = absurd (omega arith)
map-read f (z ∷ xs) zero x d l e = ap f (sym e)
map-read f (z ∷ xs) (suc i) x d l e = map-read f xs i x d (omega arith) e

pub item-read : (items : List Item) (i : ℕ) (x : Item) → i < length items → x ≡ get_or items i x → item_at (map line items) i ≡ line x
item-read [] i x l e = absurd (omega arith)
item-read (y ∷ ys) zero x l e = ap line (sym e)
item-read (y ∷ ys) (suc i) x l e = item-read ys i x (omega arith) e

-- past the last item stands one that names no public
pub past-items : (items : List Item) (k : ℕ) → length items ≤ k → NoneInItem (item_at (map line items) k)
past-items [] k l = (tt, tt)
past-items (y ∷ ys) zero l = absurd (omega arith)
past-items (y ∷ ys) (suc k) l = past-items ys k (omega arith)

pub past-spaces : (spaces : List Space) (s k : ℕ) → length spaces ≤ s → NoneInItem (item_at (space_at (map namespace spaces) s).items k)
past-spaces [] s k l = (tt, tt)
past-spaces (y ∷ ys) zero k l = absurd (omega arith)
past-spaces (y ∷ ys) (suc s) k l = past-spaces ys s k (omega arith)
