use Rattle.std.proofs.Common.{refl, ℕ, List, ap, ◌∙◌, ◌++◌, ◌∷◌, []}
use Rattle.tab_file.proofs.Values.{column_grows}
use Rattle.tab_file.proofs.partial.Partial.end_column.Goals as goal

pub returns-clause-grows : goal.returns-clause-grows
returns-clause-grows c file begin n q more s =
    column_grows file begin n q c.args.self.now _ more s c.requires.heads c.requires.columns c.requires.rows
    (record { due = refl; air = refl; heads = refl; at = refl; part = refl; columns = c.in_ok-push.ensures.ok ∙ ap (λ (x : List ℕ). c.args.self.now.columns ++ x ∷ []) c.replace-column.ensures.value; column = c.replace-column.ensures.after ∙ c.in_ok-next.ensures })
