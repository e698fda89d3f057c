-- What the publics of a text name.
use Rattle.std.proofs.Common.{ℕ, zero, suc, ◌≡◌, ◌<◌, List, [], ◌∷◌, length, get_or, refl, sym, subst, arith, All}
use Rattle.std.proofs.lemmas.List.Elements.{All-weaker}
use Rattle.pil_ast.specs.Term.{Line, constant, commit, inter, published, identity, lookup, bus, Namespace, space_at}
use Rattle.pil_ast.specs.Columns.{Columns, Fits}
use Rattle.pil_ast.specs.Sound.{IsItem, IsSound}
use Rattle.zk_top.specs.Parts.{IsPublicIn}

public_in : (ns : List Namespace) (c : Columns) (s : ℕ) → Fits ns c → (l : Line) → IsItem ns s l → IsPublicIn c l
public_in ns c s fits (constant n len) h = tt
public_in ns c s fits (commit n len) h = tt
public_in ns c s fits (inter n e) h = tt
public_in ns c s fits (published n m k r) h = (
  subst (λ x. m < x) (sym fits.spaces) h.0,
  subst (λ x. k < x) (sym (fits.width m h.0)) h.1,
  subst (λ x. r < x) (sym (fits.rows m h.0)) h.2,
)
public_in ns c s fits (identity m a b) h = tt
public_in ns c s fits (lookup a b) h = tt
public_in ns c s fits (bus ls rs) h = tt

-- the namespace at a place
there : (ns : List Namespace) (s : ℕ) (n : Namespace) → s < length ns → space_at ns s ≡ get_or ns s n
there [] s n l = absurd (omega (arith, l))
there (m ∷ ms) zero n l = refl
there (m ∷ ms) (suc s) n l = there ms s n (omega (arith, l))

-- the publics of each namespace are in range
pub publics_in : (ns : List Namespace) (c : Columns) → IsSound ns → Fits ns c → All (λ n. All (IsPublicIn c) n.items) ns
publics_in ns c sound fits = λ s n l. subst (λ (m : Namespace). All (IsPublicIn c) m.items) (there ns s n l) (All-weaker (IsItem ns s) (IsPublicIn c) (public_in ns c s fits) (space_at ns s).items (sound.spaces s l).items)
