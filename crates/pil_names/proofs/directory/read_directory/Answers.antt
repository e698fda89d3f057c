use Rattle.std.proofs.Common.{◌∙◌, ap, map, subst}
use Rattle.std.specs.Prelude.{flat_map}
use Rattle.pil_names.specs.Outline.{Home}
use Rattle.pil_names.specs.Finding.{constant_entries, home_entries, public_entries, polynomial_entries}
use Rattle.pil_names.specs.Wrongs.{repeated_among}
use Rattle.pil_names.specs.Least.{least}
use Rattle.pil_names.specs.Directory.{ListsEach}
use Rattle.pil_names.specs.Shown.{home, outlined}
use Rattle.pil_names.proofs.Leasts.{least-four}
use Rattle.pil_names.proofs.directory.read_directory.Goals as goal

pub returns : goal.returns
returns c =
    let o = outlined c.args.outline.now in
    let constants = c.in_ok-constants.ensures in
    let homes = c.in_ok-homes.ensures in
    let publics = c.in_ok-publics.ensures in
    let names = c.in_ok-polynomials.polynomials.items in
    let inner = λ (h : Home). repeated_among (polynomial_entries h) in
    let each = subst (λ hs. ListsEach names (map home hs)) c.as_slice.ensures c.in_ok-polynomials.ensures.0 in
    let within = c.in_ok-polynomials.ensures.1 ∙ ap (λ hs. least (flat_map inner (map home hs))) c.as_slice.ensures in (
      record { constants = constants.names; homes = homes.names; publics = publics.names; spaces = each.spaces; polynomials = each.polynomials },
      least-four (repeated_among (constant_entries o)) (repeated_among (home_entries o)) (repeated_among (public_entries o)) (flat_map inner o.homes) _ _ _ _ _ _ _ constants.repeated homes.repeated publics.repeated within c.lesser-repeated.ensures c.lesser-repeated-2.ensures c.lesser-repeated-3.ensures,
    )
