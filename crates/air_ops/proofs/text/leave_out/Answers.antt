use Rattle.std.proofs.Common.{ℕ, suc, ◌≡◌, ◌++◌, List, map, take, drop, sym, ap, ◌∙◌}
use Rattle.std.specs.List.{remove}
use Rattle.std.proofs.lemmas.List.{map-append, take-map, drop-map}
use Rattle.pil_ast.specs.Tree.{namespace}
use Rattle.air_ops.proofs.text.leave_out.Goals as goal

map-remove : {X Y : Type 0} (f : X → Y) (xs : List X) (i : ℕ) → map f (remove xs i) ≡ remove (map f xs) i
map-remove f xs i = map-append f (take i xs) (drop (suc i) xs) ∙ ap (λ ys. ys ++ map f (drop (suc i) xs)) (sym (take-map f i xs)) ∙ ap (λ ys. take i (map f xs) ++ ys) (sym (drop-map f (suc i) xs))

pub returns : goal.returns
returns c = ap (map namespace) c.remove.ensures.rest ∙ map-remove namespace c.args.spaces.now c.args.at
