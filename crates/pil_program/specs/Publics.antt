-- Texts whose expressions name no public.
use Rattle.std.specs.Prelude.{ℕ, List, Option, Some, None, All}
use Rattle.pil_ast.specs.Term.{Term, Tuples, Line, inter, identity, lookup, bus, Namespace, item_at, space_at}
use Rattle.pil_ast.specs.Sound.{Each}

-- a term names no public
abbrev pub NoPublic : Term → Type 0
NoPublic e = Each (λ n. Unit {0}) (λ s k b. Unit {0}) (λ s k b. Unit {0}) (λ k. ⊥) e

abbrev pub NoneInSelector : Option Term → Type 0
NoneInSelector None = Unit {0}
NoneInSelector (Some e) = NoPublic e

abbrev pub NoneInList : Tuples → Type 0
NoneInList a = NoneInSelector a.sel × All NoPublic a.terms

-- no expression of an item names a public
abbrev pub NoneInItem : Line → Type 0
NoneInItem (inter n e) = NoPublic e
NoneInItem (identity s a b) = NoPublic a × NoPublic b
NoneInItem (lookup a b) = NoneInList a × NoneInList b
NoneInItem (bus ls rs) = All NoneInList ls × All NoneInList rs
NoneInItem _ = Unit {0}

-- no expression of a text names a public
abbrev pub NoneIsNamed : List Namespace → Type 0
NoneIsNamed ns = (s k : ℕ) → NoneInItem (item_at (space_at ns s).items k)
