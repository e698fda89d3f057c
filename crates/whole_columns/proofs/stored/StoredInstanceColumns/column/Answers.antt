use Rattle.std.proofs.Common.{◌<◌, length, sym, ap, subst, ◌∙◌}
use Rattle.std.specs.Prelude.{slice_index_or}
use Rattle.whole_columns.specs.Whole.{Held}
use Rattle.whole_columns.proofs.Found.{held_at, held_is}
use Rattle.whole_columns.proofs.stored.StoredInstanceColumns.column.Goals as goal

pub bounds-columns-column : goal.bounds-columns-column
bounds-columns-column c =
    let h = c.args.self.now in
    let whole = held_at _ h c.args.space c.args.instance c.self.view_is c.self.invariant c.requires.instance in
    let is = held_is h c.args.space c.args.instance c.as_slice.result.now c.index-as_slice-space.result c.as_slice-instances.result.now c.index-instances-instance.result
    (c.as_slice.ensures ∙ ap (λ (x : Held). x.spaces) c.self.view_is) c.index-as_slice-space.is c.as_slice-instances.ensures c.index-instances-instance.is c.requires.instance in
    subst (λ n. c.args.column < n) (sym whole.wide ∙ ap length is ∙ sym (ap length c.as_slice-columns.ensures.items)) c.requires.column

pub returns-clause-long : goal.returns-clause-long
returns-clause-long c =
    let h = c.args.self.now in
    let whole = held_at _ h c.args.space c.args.instance c.self.view_is c.self.invariant c.requires.instance in
    let is = held_is h c.args.space c.args.instance c.as_slice.result.now c.index-as_slice-space.result c.as_slice-instances.result.now c.index-instances-instance.result
    (c.as_slice.ensures ∙ ap (λ (x : Held). x.spaces) c.self.view_is) c.index-as_slice-space.is c.as_slice-instances.ensures c.index-instances-instance.is c.requires.instance in
    let x = c.index-columns-column.result in
    ap length (c.as_slice-2.ensures.items ∙ c.index-columns-column.is ∙ ap (λ z. slice_index_or z c.args.column x) (c.as_slice-columns.ensures.items ∙ sym is))
    ∙ whole.high c.args.column x (subst (λ n. c.args.column < n) (sym whole.wide) c.requires.column)
