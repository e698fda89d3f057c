use Rattle.std.proofs.Common.{ℕ, ◌≡◌, ◌<◌, ◌++◌, All, length, sym, ap, subst, ◌∙◌}
use Rattle.pil_ast.specs.Term.{space_at}
use Rattle.machine_text.specs.Machine.{machine}
use Rattle.whole_columns.specs.Whole.{AreWhole, Framed}
use Rattle.whole_columns.proofs.Found.{framed_seen, framed_at, behind_high}
use Rattle.whole_columns.proofs.frame.FrameInstanceColumns.column.Goals as goal

pub returns-else-number-first-clause-long : goal.returns-else-number-first-clause-long
returns-else-number-first-clause-long c =
    let f = c.args.self.now in
    let here : AreWhole (space_at (machine f.profile) c.args._space) f.columns = framed_at f c.args._space c.args._instance (framed_seen _ f c.self.view_is c.self.invariant) c.requires.instance in
    let all : f.columns ≡ c.as_slice-first.result.now ++ c.self.inside.others.now = sym (ap (λ (x : Framed). x.columns) c.self.view_is) ∙ ap (λ z. z ++ c.self.inside.others.now) (sym c.as_slice-first.ensures.items) in
    let high : ℕ = (space_at (machine f.profile) c.args._space).rows in
    ap length c.as_slice-else-number-first.ensures.items
    ∙ behind_high c.as_slice-first.result.now c.self.inside.others.now c.args.column high c.index-self-number.result (subst (All (λ x. length x ≡ high)) all here.high)
    (subst (λ n. c.args.column < n) (sym here.wide ∙ ap length all) c.requires.column) c.if-number-first.false
