use Rattle.std.proofs.Common.{Some, slice_get, sym, ap, ◌∙◌}
use Rattle.std.specs.Option.{option_map}
use Rattle.std.proofs.lemmas.Option.{slice_get-get_or, slice_get-map}
use Rattle.pil_ast.specs.Tree.{namespaces}
use Rattle.pil_lines.specs.Places.{item_of}
use Rattle.pil_lines.proofs.places.line_at.Goals as goal

pub item_at_place-requires : goal.item_at_place-requires
item_at_place-requires c = c.requires.places.inside c.args.number (record { space = 0; item = 0 }) c.requires.inside

pub returns : goal.returns
returns c =
    ap (λ ls. slice_get ls c.args.number) (sym c.requires.places.items) ∙ slice_get-map (item_of (namespaces c.args.pil.now)) c.args.places.now c.args.number
    ∙ ap (option_map (item_of (namespaces c.args.pil.now))) (slice_get-get_or c.args.places.now c.args.number (record { space = 0; item = 0 }) c.requires.inside)
    ∙ ap Some (sym c.item_at_place.ensures)
