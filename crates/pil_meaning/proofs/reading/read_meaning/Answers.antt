use Rattle.std.proofs.Common.{◌≡◌, ◌<◌, ◌+◌, List, [], ◌∷◌, ◌++◌, length, get_or, map, sym, ap, subst, ◌∙◌, arith}
use Rattle.std.proofs.lemmas.List.{length-map, map-append}
use Rattle.pil_ast.specs.Term.{Namespace}
use Rattle.pil_ast.specs.Tree.{namespace}
use Rattle.pil_names.specs.declared.outline.Home as H
use Rattle.pil_names.specs.Shown.{outlined, home}
use Rattle.pil_meaning.specs.Meaning.{read_home}
use Rattle.pil_meaning.specs.Fitting.{FitsSpace}
use Rattle.pil_meaning.specs.Firsts.{firsts_of_items}
use Rattle.pil_meaning.proofs.Places.{length-homes}
use Rattle.pil_meaning.proofs.Mapped.{few-columns, fits-here, homes-more, map-twice}
use Rattle.pil_meaning.proofs.reading.read_meaning.Goals as goal

pub first_columns-requires : goal.first_columns-requires
first_columns-requires c = few-columns (outlined c.args.outline.now) 0 c.args.outline.now.homes c.requires.fits.each

pub read_home-requires-clause-firsts : goal.read_home-requires-clause-firsts
read_home-requires-clause-firsts c = c.as_slice.ensures ∙ c.in_ok-firsts.ensures ∙ sym (map-twice (λ h. firsts_of_items h.items) home c.args.outline.now.homes)

pub read_home-requires-clause-fits : goal.read_home-requires-clause-fits
read_home-requires-clause-fits c =
    let o = outlined c.args.outline.now in
    let i = c.loop-home.home-index in
    let z : 0 + i ≡ c.loop-home.number = omega (arith, c.loop-home.invariant.0) in
    let within : i < length c.args.outline.now.homes = subst (λ (hs : List H.Home). i < length hs) c.as_slice-home-items.ensures c.loop-home-test.true in
    let here : c.home-item.result ≡ get_or c.args.outline.now.homes i c.home-item.result = c.home-item.is ∙ ap (λ (hs : List H.Home). get_or hs i c.home-item.result) c.as_slice-home-items.ensures in
    subst (λ k. FitsSpace (read_home o k (home c.home-item.result))) z (fits-here o 0 c.args.outline.now.homes i c.home-item.result c.requires.fits.each within here)

pub overflow_add-number : goal.overflow_add-number
overflow_add-number c =
    let o = outlined c.args.outline.now in
    let i = c.loop-home.home-index in
    let within : i < length c.args.outline.now.homes = subst (λ (hs : List H.Home). i < length hs) c.as_slice-home-items.ensures c.loop-home-test.true in
    omega (arith, c.loop-home.invariant.0, c.requires.fits.spaces, length-homes o 0 (map home c.args.outline.now.homes), length-map c.args.outline.now.homes home)

pub loop-home-preserved : goal.loop-home-preserved
loop-home-preserved c =
    let o = outlined c.args.outline.now in
    let hs = c.args.outline.now.homes in
    let i = c.loop-home.home-index in
    let z : c.loop-home.number ≡ 0 + i = omega (arith, c.loop-home.invariant.0) in
    let within : i < length hs = subst (λ (hs : List H.Home). i < length hs) c.as_slice-home-items.ensures c.loop-home-test.true in
    let here : c.home-item.result ≡ get_or hs i c.home-item.result = c.home-item.is ∙ ap (λ (hs : List H.Home). get_or hs i c.home-item.result) c.as_slice-home-items.ensures in (
      omega (arith, c.loop-home.invariant.0),
      ap (map namespace) c.in_ok-push.ensures.ok
          ∙ map-append namespace c.loop-home.spaces (c.in_ok-space.space ∷ [])
          ∙ ap (λ (n : Namespace). map namespace c.loop-home.spaces ++ n ∷ []) (c.in_ok-space.ensures ∙ ap (λ k. read_home o k (home c.home-item.result)) z)
          ∙ ap (λ (ns : List Namespace). ns ++ read_home o (0 + i) (home c.home-item.result) ∷ []) c.loop-home.invariant.1
          ∙ sym (homes-more o 0 hs i c.home-item.result within here),
    )
