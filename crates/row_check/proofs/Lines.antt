-- The identities of a text that can be read.
use Rattle.std.proofs.Common.{ℕ, ◌≡◌, List, Some, slice_get, subst}
use Rattle.pil_ast.specs.Term.{Line, constant, commit, inter, published, identity, lookup, bus, Namespace, item_at}
use Rattle.pil_ast.specs.Sound.{IsItem, IsSound}
use Rattle.pil_ast.specs.Holds.{lines}
use Rattle.pil_laws.proofs.Lines.{item-found, line-found}
use Rattle.row_check.specs.Breaks.{IsIdentity, IsIdentityOf}

-- an identity of a text is one over a namespace of it
identity-item : (ns : List Namespace) (s : ℕ) (l : Line) → IsItem ns s l → IsIdentity l → IsIdentityOf ns l
identity-item ns s (constant n len) h w = w
identity-item ns s (commit n len) h w = w
identity-item ns s (inter n e) h w = w
identity-item ns s (published n m k r) h w = w
identity-item ns s (identity m a b) h w = h
identity-item ns s (lookup a b) h w = w
identity-item ns s (bus ls rs) h w = w

pub line-identity : (ns : List Namespace) (k : ℕ) (l : Line) → IsSound ns → slice_get (lines ns) k ≡ Some l → IsIdentity (item_at (lines ns) k) → IsIdentityOf ns l
line-identity ns k l sound e is =
    let some = line-found ns k l sound e in
    identity-item ns some.space l some.item (subst IsIdentity (item-found (lines ns) k l e) is)
