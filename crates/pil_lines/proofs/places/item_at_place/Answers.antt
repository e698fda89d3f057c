use Rattle.std.proofs.Common.{◌<◌, ◌≡◌, List, length, map, sym, ap, subst, ◌∙◌, arith}
use Rattle.std.proofs.lemmas.List.{length-map}
use Rattle.pil_ast.specs.Tree.{line, namespaces, namespace}
use Rattle.pil_ast.specs.Term.{Line, item_at, space_at}
use Rattle.pil_lines.proofs.Lined.{items-here}
use Rattle.pil_lines.proofs.places.item_at_place.Goals as goal

pub item_in-requires : goal.item_in-requires
item_in-requires c =
    let long = length-map c.args.pil.now.spaces namespace in
    let inside : c.args.place.now.space < length c.as_slice.result.now = let l = c.requires.space in let same = ap length c.as_slice.ensures in omega arith in
    let mine : map line c.as_slice-2.result.now ≡ (space_at (namespaces c.args.pil.now) c.args.place.now.space).items = items-here c.args.pil.now.spaces c.as_slice.result.now c.args.place.now.space c.index-as_slice-place.result c.as_slice-2.result.now c.as_slice.ensures inside c.index-as_slice-place.is (c.as_slice-2.ensures ∙ ap (λ y. y.items) c.index-as_slice-place.is) in
    let l : c.args.place.now.item < length (map line c.as_slice-2.result.now) = subst (λ (ls : List Line). c.args.place.now.item < length ls) (sym mine) c.requires.item in
    let m = length-map c.as_slice-2.result.now line in
    omega arith

pub returns : goal.returns
returns c =
    let long = length-map c.args.pil.now.spaces namespace in
    let inside : c.args.place.now.space < length c.as_slice.result.now = let l = c.requires.space in let same = ap length c.as_slice.ensures in omega arith in
    let mine : map line c.as_slice-2.result.now ≡ (space_at (namespaces c.args.pil.now) c.args.place.now.space).items = items-here c.args.pil.now.spaces c.as_slice.result.now c.args.place.now.space c.index-as_slice-place.result c.as_slice-2.result.now c.as_slice.ensures inside c.index-as_slice-place.is (c.as_slice-2.ensures ∙ ap (λ y. y.items) c.index-as_slice-place.is) in
    c.item_in.ensures ∙ ap (λ ls. item_at ls c.args.place.now.item) mine
