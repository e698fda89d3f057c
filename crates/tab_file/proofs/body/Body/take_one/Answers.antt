use Rattle.std.proofs.Common.{◌≡◌, ◌≤◌, ◌<◌, ◌++◌, ◌∷◌, [], ℕ, List, length, drop, refl, sym, ap, subst, ◌∙◌, append_assoc, arith, inl, inr}
use Rattle.std.proofs.lemmas.Result.{err_from_is_err_and}
use Rattle.gold.specs.declared.instances.Table.{Table}
use Rattle.tab_file.specs.Parts.{place_of, Grows, Done, BodyAt, IsWhole}
use Rattle.tab_file.proofs.Bodies.{begun, body_grows, body_fails, body_next, all_gone}
use Rattle.tab_file.proofs.body.Body.take_one.Goals as goal

pub returns-in_err-count-clause-takes : goal.returns-in_err-count-clause-takes
returns-in_err-count-clause-takes c file n start ps before more s =
    let b = c.args.self.now in
    let rest = c.args.piece.now ++ more in
    let so_far = before ++ c.args.tables.now in
    let r = err_from_is_err_and c.from_residual.result c.from_residual.ensures.1 in
    let at = begun file n start ps so_far rest b c.requires.going s in
    rw (r.1, r.2) (body_fails file n start ps so_far rest b c.in_err-count.field-0.0 at (c.in_err-count.ensures.takes file at.begin n (place_of b.partial.due) more at.grows))

pub returns-then-not-is_whole-clause-takes : goal.returns-then-not-is_whole-clause-takes
returns-then-not-is_whole-clause-takes c file n start ps before more s =
    let b = c.args.self.now in
    let rest = c.args.piece.now ++ more in
    let so_far = before ++ c.args.tables.now in
    let at = begun file n start ps so_far rest b c.requires.going s in
    let grown = c.in_ok-count.ensures.takes file at.begin n (place_of b.partial.due) more at.grows in
    let all : c.in_ok-count.count ≡ length c.args.piece.now = elim c.in_ok-count.ensures.waits [
      | inl whole ↦ absurd (c.if-not-is_whole.ensures whole)
      | inr waiting ↦ waiting.1
    ] in
    let after = subst (λ (xs : List ℕ). Grows file at.begin n (place_of b.partial.due) c.take.new.self xs) (all_gone c.args.piece.now more c.in_ok-count.count all) grown in
    body_grows file n start ps so_far rest more b _ at c.requires.going refl after

pub returns-clause-takes : goal.returns-clause-takes
returns-clause-takes c file n start ps before more s =
    let b = c.args.self.now in
    let rest = c.args.piece.now ++ more in
    let so_far = before ++ c.args.tables.now in
    let after = drop c.in_ok-count.count c.args.piece.now ++ more in
    let at = begun file n start ps so_far rest b c.requires.going s in
    let grown = c.in_ok-count.ensures.takes file at.begin n (place_of b.partial.due) more at.grows in
    let table = c.take_table.ensures.table file at.begin n (place_of b.partial.due) after grown in
    let next = body_next file n start ps so_far rest after b c.take.new.self c.take_table.result at table in
    let pushed : so_far ++ c.take_table.result ∷ [] ≡ before ++ c.push.new.self = append_assoc before c.args.tables.now (c.take_table.result ∷ []) ∙ ap (λ (ts : List Table). before ++ ts) (sym c.in_ok-push.ensures.ok) in
    let done = subst (λ (ts : List Table). Done file n start c.take.new.self.at (at.before ++ place_of b.partial.due ∷ []) ts) pushed next.1 in
    c.in_ok-begin.ensures.stands file n start ps (at.before ++ place_of b.partial.due ∷ []) (before ++ c.push.new.self) after at.airs next.0 (subst (λ (m : ℕ). Done file n start m (at.before ++ place_of b.partial.due ∷ []) (before ++ c.push.new.self)) (sym c.take_table.ensures.at) done)
    (ap (λ (m : ℕ). drop m file) c.take_table.ensures.at ∙ table.ahead)
