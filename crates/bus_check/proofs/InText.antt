-- The `in` and the `is` of a text that can be read.
use Rattle.std.proofs.Common.{ℕ, ◌≡◌, true, List, Some, slice_get, sym, subst}
use Rattle.std.proofs.lemmas.Bool.{true≢false}
use Rattle.std.proofs.lemmas.List.Elements.{All-weaker}
use Rattle.pil_ast.specs.Term.{Tuples, Line, constant, commit, inter, published, identity, lookup, bus, Namespace, item_at, is_line}
use Rattle.pil_ast.specs.Sound.{IsItem, IsList, IsSound}
use Rattle.pil_ast.specs.Holds.{lines}
use Rattle.pil_laws.proofs.Lines.{item-found, line-found}
use Rattle.row_check.specs.Breaks.{IsIdentity, IsIdentityOf}
use Rattle.bus_check.specs.Bus.{IsBus, IsBusOf, IsListOf}

list-of : (ns : List Namespace) (wide : ℕ) (a : Tuples) → IsList ns wide a → IsListOf ns a
list-of ns wide a h = record { space = h.space; sel = h.sel; terms = h.terms }

bus-of : (ns : List Namespace) (s : ℕ) (l : Line) → IsItem ns s l → IsBus l → IsBusOf ns l
bus-of ns s (constant n len) h w = w
bus-of ns s (commit n len) h w = w
bus-of ns s (inter n e) h w = w
bus-of ns s (published n m k r) h w = w
bus-of ns s (identity m a b) h w = w
bus-of ns s (lookup a b) h w = (list-of ns h.0 a h.2, list-of ns h.0 b h.3)
bus-of ns s (bus ls rs) h w = (All-weaker (IsList ns h.0) (IsListOf ns) (list-of ns h.0) ls h.4, All-weaker (IsList ns h.0) (IsListOf ns) (list-of ns h.0) rs h.5)

-- an `in` or an `is` that is found at a number is over namespaces of the text
pub line-bus : (ns : List Namespace) (k : ℕ) (l : Line) → IsSound ns → slice_get (lines ns) k ≡ Some l → IsBus (item_at (lines ns) k) → IsBusOf ns l
line-bus ns k l sound e is =
    let some = line-found ns k l sound e in
    bus-of ns some.space l some.item (subst IsBus (item-found (lines ns) k l e) is)

other-line : (l : Line) → is_line l ≡ true → (IsIdentity l → ⊥) → IsBus l
other-line (constant n len) e h = true≢false (sym e)
other-line (commit n len) e h = true≢false (sym e)
other-line (inter n t) e h = true≢false (sym e)
other-line (published n s k r) e h = true≢false (sym e)
other-line (identity s a b) e h = h tt
other-line (lookup a b) e h = tt
other-line (bus ls rs) e h = tt

-- a line that isn't an identity
pub line-other : (ns : List Namespace) (k : ℕ) (l : Line) → IsSound ns → slice_get (lines ns) k ≡ Some l → (IsIdentity l → ⊥) → IsBus (item_at (lines ns) k)
line-other ns k l sound e other = subst IsBus (sym (item-found (lines ns) k l e)) (other-line l (line-found ns k l sound e).line other)

identity-of : (ns : List Namespace) (s : ℕ) (l : Line) → IsItem ns s l → IsIdentity l → IsIdentityOf ns l
identity-of ns s (constant n len) h w = w
identity-of ns s (commit n len) h w = w
identity-of ns s (inter n e) h w = w
identity-of ns s (published n m k r) h w = w
identity-of ns s (identity m a b) h w = h
identity-of ns s (lookup a b) h w = w
identity-of ns s (bus ls rs) h w = w

-- an identity that is found at a number is over a namespace of the text
pub line-identity : (ns : List Namespace) (k : ℕ) (l : Line) → IsSound ns → slice_get (lines ns) k ≡ Some l → IsIdentity l → IsIdentityOf ns l
line-identity ns k l sound e is = let some = line-found ns k l sound e in identity-of ns some.space l some.item is
