use Rattle.std.proofs.Common.{ℕ, ◌≡◌, refl, sym, ap, subst, ◌∙◌}
use Rattle.pil_ast.specs.Tree.{namespaces}
use Rattle.pil_ast.specs.Columns.{Fits}
use Rattle.pil_program.specs.Publics.{NoneIsNamed}
use Rattle.fixed_cols.specs.Constants.{Fixed, fixed_of}
use Rattle.machine_text.specs.Machine.{machine}
use Rattle.whole_columns.specs.Whole.{Held, values_of_held}
use Rattle.verdict.specs.Frames.{held_of}
use Rattle.verdict.proofs.Alike.{none_is_named}
use Rattle.verdict.proofs.Whole.{held_few}
use Rattle.verdict.proofs.Start.{started}
use Rattle.verdict.proofs.run.VerdictRun.new.Goals as goal

pub new-requires-clause-unnamed : goal.new-requires-clause-unnamed
new-requires-clause-unnamed c = subst NoneIsNamed (sym c.in_ok-pil.ensures.made) (none_is_named c.args.sizes.now.profile)

pub new-requires-clause-fits : goal.new-requires-clause-fits
new-requires-clause-fits c =
    let is : c.in_ok-stored.stored ≡ held_of (fixed_of c.args.image.now c.args.sizes.now) c.args.sizes.now.profile = c.in_ok-stored.ensures ∙ ap (λ (f : Fixed). held_of f c.args.sizes.now.profile) c.in_ok-fixed.ensures in
    subst (λ ns. Fits ns (values_of_held c.in_ok-stored.stored)) (sym c.in_ok-pil.ensures.made)
    (subst (λ (h : Held). Fits (machine c.args.sizes.now.profile) (values_of_held h)) (sym is)
    (c.whole_laws.ensures.stored (held_of (fixed_of c.args.image.now c.args.sizes.now) c.args.sizes.now.profile) (held_few c.args.image.now c.args.sizes.now (c.columns_laws.ensures.few c.args.image.now c.args.sizes.now))))

pub add_spaces-requires-clause-fits : goal.add_spaces-requires-clause-fits
add_spaces-requires-clause-fits c =
    let is : c.in_ok-stored.stored ≡ held_of (fixed_of c.args.image.now c.args.sizes.now) c.args.sizes.now.profile = c.in_ok-stored.ensures ∙ ap (λ (f : Fixed). held_of f c.args.sizes.now.profile) c.in_ok-fixed.ensures in
    subst (λ ns. Fits ns (values_of_held c.in_ok-stored.stored)) (sym c.in_ok-pil.ensures.made)
    (subst (λ (h : Held). Fits (machine c.args.sizes.now.profile) (values_of_held h)) (sym is)
    (c.whole_laws.ensures.stored (held_of (fixed_of c.args.image.now c.args.sizes.now) c.args.sizes.now.profile) (held_few c.args.image.now c.args.sizes.now (c.columns_laws.ensures.few c.args.image.now c.args.sizes.now))))

pub returns : goal.returns
returns c =
    let is : c.in_ok-stored.stored ≡ held_of (fixed_of c.args.image.now c.args.sizes.now) c.args.sizes.now.profile = c.in_ok-stored.ensures ∙ ap (λ (f : Fixed). held_of f c.args.sizes.now.profile) c.in_ok-fixed.ensures in
    started c.args.image.now c.args.sizes.now _ c.in_ok-stored.stored c.in_ok-checker.checker c.requires c.in_ok-pil.ensures.made c.in_ok-pil.ensures.sound refl c.in_ok-fixed.ensures is
    c.in_ok-add_spaces.ensures.built c.in_ok-add_spaces.ensures.first c.in_ok-add_spaces.ensures.others c.in_ok-checker.ensures.stands c.in_ok-add_spaces.ensures.stands
