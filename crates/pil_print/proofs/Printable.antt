-- What a sound text speaks of is there.
use Rattle.std.proofs.Common.{ℕ, suc, ◌≡◌, ◌<◌, List, [], ◌∷◌, length, filter, All, Option, Some, None, refl, sym, ap, arith, subst, length-append}
use Rattle.std.specs.Prelude.{flat_map}
use Rattle.std.proofs.lemmas.List.Elements.{All-weaker}
use Rattle.pil_ast.specs.Term.{Term, num, col, mid, public, opp, ◌⊕◌, ◌⊖◌, ◌⊗◌, Tuples, Line, constant, commit, inter, published as published', identity, lookup, bus, Namespace, space_at, places_of, publics}
use Rattle.pil_ast.specs.Sound.{IsTerm, IsList, IsItem, IsSound, IsSelector as IsSelector'}
use Rattle.pil_print.specs.Statements.{is_public, published}
use Rattle.pil_print.specs.Levels.{IsColumn, IsItemNumber, IsPrintable, IsSelector, IsPrintableList, IsPrintableItem}

publics-in : (ls : List Line) → length (flat_map places_of ls) ≡ length (filter is_public ls)
publics-in [] = refl
publics-in (constant n len ∷ ls) = publics-in ls
publics-in (commit n len ∷ ls) = publics-in ls
publics-in (inter n e ∷ ls) = publics-in ls
publics-in (published' n s k r ∷ ls) = ap suc (publics-in ls)
publics-in (identity s a b ∷ ls) = publics-in ls
publics-in (lookup a b ∷ ls) = publics-in ls
publics-in (bus a b ∷ ls) = publics-in ls

pub publics-counted : (ns : List Namespace) → length (publics ns) ≡ length (published ns)
publics-counted [] = refl
publics-counted (n ∷ ns) = omega (arith, length-append (flat_map places_of n.items) (publics ns), length-append (filter is_public n.items) (published ns), publics-in n.items, publics-counted ns)

pub printable-term : (ns : List Namespace) (s : ℕ) (e : Term) → s < length ns → IsTerm ns s e → IsPrintable ns e
printable-term ns s (num n) l h = tt
printable-term ns s (col n k b) l h = subst (λ m. IsColumn ns m k) (sym h.0) (l, h.1)
printable-term ns s (mid n k b) l h = subst (λ m. IsItemNumber ns m k) (sym h.0) (l, h.1.0)
printable-term ns s (public k) l h = omega (arith, publics-counted ns, h)
printable-term ns s (opp a) l h = printable-term ns s a l h
printable-term ns s (a ⊕ b) l h = (printable-term ns s a l h.0, printable-term ns s b l h.1)
printable-term ns s (a ⊖ b) l h = (printable-term ns s a l h.0, printable-term ns s b l h.1)
printable-term ns s (a ⊗ b) l h = (printable-term ns s a l h.0, printable-term ns s b l h.1)

printable-selector : (ns : List Namespace) (wide : ℕ) (a : Tuples) → IsList ns wide a → IsSelector ns a.sel
printable-selector ns wide a h = one a.sel h.sel
  where
    one : (sel : Option Term) → IsSelector' ns a.space sel → IsSelector ns sel
    one None h' = tt
    one (Some e) h' = printable-term ns a.space e h.space h'

pub printable-list : (ns : List Namespace) (wide : ℕ) (a : Tuples) → IsList ns wide a → IsPrintableList ns a
printable-list ns wide a h = record { sel = printable-selector ns wide a h; terms = All-weaker (λ e. IsTerm ns a.space e) (IsPrintable ns) (λ e. printable-term ns a.space e h.space) a.terms h.terms }

pub printable-item : (ns : List Namespace) (s : ℕ) (l : Line) → s < length ns → IsItem ns s l → IsPrintableItem ns l
printable-item ns s (constant n len) l h = tt
printable-item ns s (commit n len) l h = tt
printable-item ns s (inter n e) l h = printable-term ns s e l h
printable-item ns s (published' n m k r) l h = (h.0, h.1)
printable-item ns s (identity m a b) l h = (printable-term ns m a h.0 h.1, printable-term ns m b h.0 h.2)
printable-item ns s (lookup a b) l h = (printable-list ns h.0 a h.2, printable-list ns h.0 b h.3)
printable-item ns s (bus as' bs) l h = (All-weaker (IsList ns h.0) (IsPrintableList ns) (printable-list ns h.0) as' h.4, All-weaker (IsList ns h.0) (IsPrintableList ns) (printable-list ns h.0) bs h.5)

pub printable-space : (ns : List Namespace) (s : ℕ) → IsSound ns → s < length ns → All (IsPrintableItem ns) (space_at ns s).items
printable-space ns s h l = All-weaker (IsItem ns s) (IsPrintableItem ns) (λ i. printable-item ns s i l) (space_at ns s).items (h.spaces s l).items
