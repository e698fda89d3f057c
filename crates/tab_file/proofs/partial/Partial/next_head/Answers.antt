use Rattle.std.proofs.Common.{◌≡◌, ◌≤◌, ◌<◌, ◌+◌, ◌++◌, ℕ, List, length, drop, take, refl, arith, inl}
use Rattle.std.proofs.lemmas.Result.{err_from_is_err_and}
use Rattle.tab_file.proofs.Grown.{part_grows}
use Rattle.tab_file.proofs.partial.Partial.next_head.Goals as goal

pub returns-in_err-take_head-clause-takes : goal.returns-in_err-take_head-clause-takes
returns-in_err-take_head-clause-takes c file begin n q more s =
    let r = err_from_is_err_and c.from_residual-in_err-take_head.result c.from_residual-in_err-take_head.ensures.1 in
    let few = c.in_ok-done.ensures.most (s.head_part c.requires.heads) in
    let four : length c.fill.new.part.items ≡ 4 = omega (arith, few, c.len.ensures, c.if-len-ge4.true) in
    let filled = part_grows file begin n q c.args.self.now _ c.args.piece.now more c.in_ok-done.done s (record { due = refl; air = refl; heads = refl; columns = refl; column = refl; at = refl }) c.in_ok-done.ensures.moved
    (λ _. few) (omega (arith, four)) (λ _. inl c.requires.heads) in
    rw (r.1, r.2) (c.in_err-take_head.ensures.takes four file begin n q _ filled)

pub returns-in_ok-take_head-clause-takes : goal.returns-in_ok-take_head-clause-takes
returns-in_ok-take_head-clause-takes c file begin n q more s =
    let few = c.in_ok-done.ensures.most (s.head_part c.requires.heads) in
    let four : length c.fill.new.part.items ≡ 4 = omega (arith, few, c.len.ensures, c.if-len-ge4.true) in
    let filled = part_grows file begin n q c.args.self.now _ c.args.piece.now more c.in_ok-done.done s (record { due = refl; air = refl; heads = refl; columns = refl; column = refl; at = refl }) c.in_ok-done.ensures.moved
    (λ _. few) (omega (arith, four)) (λ _. inl c.requires.heads) in
    c.in_ok-take_head.ensures.takes four file begin n q _ filled
