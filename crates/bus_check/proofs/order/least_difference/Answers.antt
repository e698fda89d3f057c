use Rattle.std.proofs.Common.{ℕ, List, ◌≡◌, [], sym, ap, subst, ◌∙◌, cond, is_lt, nat_cmp, arith}
use Rattle.std.specs.Cmp.Lexicographic.{slice_cmp}
use Rattle.bus_check.specs.Bus.{held, IsLeast}
use Rattle.bus_check.proofs.Least.{part-end, part-left, part-right, part-lesser}
use Rattle.bus_check.proofs.order.least_difference.Goals as goal

abbrev lesser-of : List ℕ → List ℕ → List ℕ
lesser-of x y = cond (is_lt (slice_cmp nat_cmp x y)) x y

lessers : (x y v w : List ℕ) → x ≡ v → y ≡ w → lesser-of x y ≡ lesser-of v w
lessers x y v w e f = ap (λ z. lesser-of z y) e ∙ ap (lesser-of v) f

pub returns-then-place-len-2 : goal.returns-then-place-len-2
returns-then-place-len-2 c =
    let xs = held c.args.left.now in
    let ys = held c.args.right.now in
    let a = c.len.ensures in
    let b = c.len-then-place-len.ensures in
    let l = c.if-place-len.true in
    let m = c.if-place-len-2.true in
    subst (IsLeast xs ys) (lessers _ _ _ _ (sym c.at.ensures) (sym c.at-then-place-len-2.ensures) ∙ sym c.lesser.ensures)
    (part-lesser xs ys c.parting-place.result [] c.parting-place.ensures c.requires.left c.requires.right (omega arith) (omega arith))

pub returns-else-place-len-2 : goal.returns-else-place-len-2
returns-else-place-len-2 c =
    let xs = held c.args.left.now in
    let ys = held c.args.right.now in
    let a = c.len.ensures in
    let b = c.len-then-place-len.ensures in
    let l = c.if-place-len.true in
    let m = c.if-place-len-2.false in
    subst (IsLeast xs ys) (sym c.at-else-place-len-2.ensures) (part-left xs ys c.parting-place.result [] c.parting-place.ensures c.requires.left c.requires.right (omega arith) (omega arith))

pub returns-then-place-len-3 : goal.returns-then-place-len-3
returns-then-place-len-3 c =
    let xs = held c.args.left.now in
    let ys = held c.args.right.now in
    let a = c.len.ensures in
    let b = c.len-else-place-len.ensures in
    let l = c.if-place-len.false in
    let m = c.if-place-len-3.true in
    subst (IsLeast xs ys) (sym c.at-then-place-len-3.ensures) (part-right xs ys c.parting-place.result [] c.parting-place.ensures c.requires.left c.requires.right (omega arith) (omega arith))

pub returns-else-place-len-3 : goal.returns-else-place-len-3
returns-else-place-len-3 c =
    let a = c.len.ensures in
    let b = c.len-else-place-len.ensures in
    let l = c.if-place-len.false in
    let m = c.if-place-len-3.false in
    part-end (held c.args.left.now) (held c.args.right.now) c.parting-place.result c.parting-place.ensures (omega arith) (omega arith)
