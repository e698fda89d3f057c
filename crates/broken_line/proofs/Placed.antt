-- Namespaces at their places.
use Rattle.std.proofs.Common.{ℕ, zero, suc, ◌<◌, ◌≡◌, List, [], ◌∷◌, length, get_or, map, sym, ap, arith}
use Rattle.pil_ast.specs.declared.tree.Space.{Space}
use Rattle.pil_ast.specs.Tree.{namespace}
use Rattle.pil_ast.specs.Term.{space_at}

-- the namespace that is read at a place
pub space-here : (spaces : List Space) (i : ℕ) (x : Space) → i < length spaces → x ≡ get_or spaces i x → space_at (map namespace spaces) i ≡ namespace x
space-here [] i x l e = absurd (omega arith)
space-here (y ∷ ys) zero x l e = ap namespace (sym e)
space-here (y ∷ ys) (suc i) x l e = space-here ys i x (omega arith) e
