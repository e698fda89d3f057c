use Rattle.std.proofs.Common.{◌≡◌, ◌≤◌, ◌<◌, ◌++◌, ℕ, List, length, refl, sym, ap, drop, ◌∙◌, arith}
use Rattle.std.specs.Vec.{vec_len}
use Rattle.std.proofs.lemmas.Bool.{eqb-false}
use Rattle.std.proofs.lemmas.Result.{err_from_is_err_and}
use Rattle.tab_file.specs.declared.partial.Partial.{Partial}
use Rattle.tab_file.proofs.Values.{part_filled, part_taken, part_wrong}
use Rattle.tab_file.proofs.partial.Partial.take_part.Goals as goal

pub returns-in_err-push_values-clause-takes : goal.returns-in_err-push_values-clause-takes
returns-in_err-push_values-clause-takes c file begin n q more s =
    let g = c.args.self.now in
    let r = err_from_is_err_and c.from_residual-in_err-push_values.result c.from_residual-in_err-push_values.ensures.1 in
    let full : vec_len c.args.self.now.part ≡ 0 → ⊥ = eqb-false (vec_len c.args.self.now.part) 0 (sym c.is_empty.ensures ∙ c.if-is_empty.false) in
    let some : 0 < length c.args.self.now.part.items = omega (arith, full) in
    let h : Partial = record { alloc = g.alloc; due = g.due; air = g.air; heads = g.heads; columns = g.columns; column = g.column; at = g.at; part = c.fill.new.part } in
    let filled = part_filled file begin n q g h c.args.piece.now more c.in_ok-done.done s c.requires.heads some (record { due = refl; air = refl; heads = refl; columns = refl; column = refl; at = refl }) c.in_ok-done.ensures.moved c.in_ok-done.ensures.most in
    let eight : length c.fill.new.part.items ≡ 8 = omega (arith, filled.value_part, c.len.ensures, c.if-len-ge8.true) in
    rw (r.1, r.2) (part_wrong file begin n q h _ c.in_err-push_values.field-0.0 filled c.requires.heads eight (c.in_err-push_values.ensures.adds file _ filled.passed.whole (filled.ahead ∙ ap (λ (xs : List ℕ). xs ++ (drop c.in_ok-done.done c.args.piece.now ++ more)) (sym c.deref.ensures.value))))

pub returns-in_ok-push_values-clause-takes : goal.returns-in_ok-push_values-clause-takes
returns-in_ok-push_values-clause-takes c file begin n q more s =
    let g = c.args.self.now in
    let full : vec_len c.args.self.now.part ≡ 0 → ⊥ = eqb-false (vec_len c.args.self.now.part) 0 (sym c.is_empty.ensures ∙ c.if-is_empty.false) in
    let some : 0 < length c.args.self.now.part.items = omega (arith, full) in
    let h : Partial = record { alloc = g.alloc; due = g.due; air = g.air; heads = g.heads; columns = g.columns; column = g.column; at = g.at; part = c.fill.new.part } in
    let filled = part_filled file begin n q g h c.args.piece.now more c.in_ok-done.done s c.requires.heads some (record { due = refl; air = refl; heads = refl; columns = refl; column = refl; at = refl }) c.in_ok-done.ensures.moved c.in_ok-done.ensures.most in
    let eight : length c.fill.new.part.items ≡ 8 = omega (arith, filled.value_part, c.len.ensures, c.if-len-ge8.true) in
    part_taken file begin n q h _ _ filled c.requires.heads eight (record {
      due = refl;
      air = refl;
      heads = refl;
      columns = refl;
      at = refl;
      part = c.clear.ensures.items;
      adds = c.in_ok-push_values.ensures.adds file _ filled.passed.whole (filled.ahead ∙ ap (λ (xs : List ℕ). xs ++ (drop c.in_ok-done.done c.args.piece.now ++ more)) (sym c.deref.ensures.value));
    })
