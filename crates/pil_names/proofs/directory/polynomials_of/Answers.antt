use Rattle.std.proofs.Common.{◌∙◌, ◌+◌, sym, ap, subst, arith, length, map, drop}
use Rattle.std.specs.Prelude.{flat_map}
use Rattle.pil_names.specs.Outline.{Home}
use Rattle.pil_names.specs.Finding.{polynomial_entries, polynomials_from}
use Rattle.pil_names.specs.Least.{least, lesser}
use Rattle.pil_names.specs.Wrongs.{repeated_among}
use Rattle.pil_names.specs.Directory.{Registers}
use Rattle.pil_names.specs.Shown.{draft, home}
use Rattle.pil_names.proofs.Each.{ListsFirst, home_at-there, items-there, ListsFirst-push, least-drop}
use Rattle.pil_names.proofs.directory.polynomials_of.Goals as goal

pub register_polynomials-requires : goal.register_polynomials-requires
register_polynomials-requires c =
    let x = c.home-item.result in
    let e = items-there c.args.homes.now c.loop-home.home-index x x c.loop-home-test.true c.home-item.is in
    omega (arith, e, c.requires c.loop-home.home-index, ap length c.as_slice.ensures)

pub loop-home-preserved : goal.loop-home-preserved
loop-home-preserved c =
    let hs = c.args.homes.now in
    let i = c.loop-home.home-index in
    let x = c.home-item.result in
    let p = c.in_ok-polynomials.polynomials in
    let e = ap (λ l. polynomials_from 0 (map draft l)) c.as_slice.ensures ∙ ap (λ h. polynomials_from 0 (map draft h.items)) c.home-item.is in
    let r = subst (Registers p) e c.in_ok-polynomials.ensures in
    let there = ap polynomial_entries (home_at-there hs i x c.loop-home-test.true) in
    let each = λ (h : Home). repeated_among (polynomial_entries h) in
    record {
      listed = subst (λ ns. ListsFirst ns (map home hs) (i + 1)) (sym c.in_ok-push.ensures.items) (ListsFirst-push c.loop-home.names.items p.names (map home hs) i c.loop-home.invariant.listed (subst (Registers p) (sym there) r).names);
      repeated = ap (λ o. lesser o (least (flat_map each (map home (drop (i + 1) hs))))) c.lesser-repeated.ensures ∙ least-drop each hs i x c.loop-home.repeated _ p.repeated c.loop-home-test.true r.repeated c.loop-home.invariant.repeated;
    }
