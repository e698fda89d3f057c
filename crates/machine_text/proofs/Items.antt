-- A test that each item of a text passes, and the item that stands for those that are not there.
use Rattle.std.proofs.Common.{ℕ, zero, suc, ◌≡◌, List, [], ◌∷◌, Bool, true, false, ◌&&◌, refl}
use Rattle.std.specs.List.{list_all}
use Rattle.std.proofs.lemmas.Bool.{false≢true}
use Rattle.pil_ast.specs.Term.{num, Line, identity, item_at, Namespace, space_at}

both : (b c : Bool) → (b && c) ≡ true → (b ≡ true) × (c ≡ true)
both true c h = (refl, h)
both false c h = absurd (false≢true h)

module _ (test : Line → Bool) (none : test (identity 0 (num 0) (num 0)) ≡ true) where
  at_item : (ls : List Line) (k : ℕ) → list_all test ls ≡ true → test (item_at ls k) ≡ true
  at_item [] k h = none
  at_item (l ∷ ls) zero h = (both (test l) (list_all test ls) h).0
  at_item (l ∷ ls) (suc k) h = at_item ls k (both (test l) (list_all test ls) h).1

  pub at_each : (ns : List Namespace) (s k : ℕ) → list_all (λ n. list_all test n.items) ns ≡ true → test (item_at (space_at ns s).items k) ≡ true
  at_each [] s k h = none
  at_each (n ∷ ns) zero k h = at_item n.items k (both (list_all test n.items) (list_all (λ m. list_all test m.items) ns) h).0
  at_each (n ∷ ns) (suc s) k h = at_each ns s k (both (list_all test n.items) (list_all (λ m. list_all test m.items) ns) h).1
