use Rattle.std.proofs.Common.{◌≡◌, [], ℕ, List, None, refl, sym, ap, subst, ◌∙◌}
use Rattle.tab_file.specs.Stands.{GoesOn}
use Rattle.tab_file.proofs.Headers.{nothing, no_tables, same_shape}
use Rattle.tab_file.proofs.pieces.TabReader.new.Goals as goal

pub returns-in_err-airs-clause-none : goal.returns-in_err-airs-clause-none
returns-in_err-airs-clause-none c = no_tables c.args.shape.now

pub returns-clause-none : goal.returns-clause-none
returns-clause-none c = no_tables c.args.shape.now

pub returns-clause-stands : goal.returns-clause-stands
returns-clause-stands c =
    let p = c.profile_so_far-profile.result in
    let here : GoesOn p None [] c.args.shape.now [] = nothing p c.args.shape.now [] refl c.profile_so_far-profile.ensures in
    record {
      shape_is = same_shape c.from_vec.result c.args.shape.now (c.from_vec.ensures ∙ c.in_ok-airs.ensures.items ∙ c.as_slice.ensures);
      state = subst (λ (xs : List ℕ). GoesOn p None xs c.args.shape.now []) (sym c.new.ensures.items) here;
    }
