use Rattle.std.proofs.Common.{◌≡◌, ◌<◌, ◌≤◌, All, map, length, false, refl, sym, ◌∙◌, ap, subst, arith, length-set}
use Rattle.std.proofs.lemmas.List.{length-map}
use Rattle.pil_ast.specs.Tree.{namespace, namespaces, line}
use Rattle.pil_ast.specs.Term.{space_at}
use Rattle.pil_ast.specs.Reading.{IsPlaceIn}
use Rattle.pil_ast.proofs.Trees.{items-at}
use Rattle.pil_ast.proofs.Limits.{places-in}
use Rattle.pil_ast.proofs.Known.{known-none, fill_more, filled, turn-inside, readable_inter, length-cond_set}
use Rattle.pil_ast.proofs.values.fill_turns.Goals as goal

pub loop-turn-init : goal.loop-turn-init
loop-turn-init g c = (known-none _ _ _ _, refl, refl)

pub fill_here-requires : goal.fill_here-requires
fill_here-requires g c =
    let inside : c.args.position.now.space < length (namespaces c.args.pil.now) = subst (λ n. c.args.position.now.space < n) c.requires.fits.spaces c.requires.position.space in
    let inside' : c.args.position.now.space < length c.args.pil.now.spaces = omega (arith, length-map c.args.pil.now.spaces namespace) in
    let same : map line c.as_slice-items.result.now ≡ (space_at (namespaces c.args.pil.now) c.args.position.now.space).items =
    items-at c.args.pil.now.spaces c.as_slice.result.now c.args.position.now.space c.index-as_slice-position.result c.as_slice-items.result.now c.as_slice.ensures inside' c.index-as_slice-position.is c.as_slice-items.ensures in
    let room : length (space_at (namespaces c.args.pil.now) c.args.position.now.space).items ≤ length c.loop-turn.here = omega (arith, c.requires.room, c.loop-turn.invariant.1) in
    let room' : length (space_at (namespaces c.args.pil.now) c.args.position.now.space).items ≤ length c.loop-turn.next = omega (arith, c.requires.room, c.requires.as_long, c.loop-turn.invariant.2) in
    let places : All (IsPlaceIn (g.C.Columns.values c.args.columns.now)) c.args.publics.now = subst (All (IsPlaceIn (g.C.Columns.values c.args.columns.now))) (sym c.requires.publics) (places-in (namespaces c.args.pil.now) (g.C.Columns.values c.args.columns.now) c.requires.sound c.requires.fits) in
    let on = turn-inside (space_at (namespaces c.args.pil.now) c.args.position.now.space).items c.args.turns.now c.loop-turn.turn-index (record { item = 0; ahead = false }) c.requires.plan c.loop-turn-test.true in
    record {
      position = c.requires.position;
      publics = places;
      as_long = ap length c.as_slice-in-loop-turn.ensures ∙ c.loop-turn.invariant.2 ∙ c.requires.as_long ∙ sym c.loop-turn.invariant.1;
      room = omega arith;
      readable = readable_inter (namespaces c.args.pil.now) (g.C.Columns.values c.args.columns.now) c.args.position.now.space (length c.loop-turn.here) _ (map line c.as_slice-items.result.now) c.args.publics.now c.requires.sound c.requires.fits inside same c.requires.publics room;
    }

pub fill_next-requires : goal.fill_next-requires
fill_next-requires g c =
    let inside : c.args.position.now.space < length (namespaces c.args.pil.now) = subst (λ n. c.args.position.now.space < n) c.requires.fits.spaces c.requires.position.space in
    let inside' : c.args.position.now.space < length c.args.pil.now.spaces = omega (arith, length-map c.args.pil.now.spaces namespace) in
    let same : map line c.as_slice-items.result.now ≡ (space_at (namespaces c.args.pil.now) c.args.position.now.space).items =
    items-at c.args.pil.now.spaces c.as_slice.result.now c.args.position.now.space c.index-as_slice-position.result c.as_slice-items.result.now c.as_slice.ensures inside' c.index-as_slice-position.is c.as_slice-items.ensures in
    let room : length (space_at (namespaces c.args.pil.now) c.args.position.now.space).items ≤ length c.loop-turn.here = omega (arith, c.requires.room, c.loop-turn.invariant.1) in
    let room' : length (space_at (namespaces c.args.pil.now) c.args.position.now.space).items ≤ length c.loop-turn.next = omega (arith, c.requires.room, c.requires.as_long, c.loop-turn.invariant.2) in
    let places : All (IsPlaceIn (g.C.Columns.values c.args.columns.now)) c.args.publics.now = subst (All (IsPlaceIn (g.C.Columns.values c.args.columns.now))) (sym c.requires.publics) (places-in (namespaces c.args.pil.now) (g.C.Columns.values c.args.columns.now) c.requires.sound c.requires.fits) in
    let on = turn-inside (space_at (namespaces c.args.pil.now) c.args.position.now.space).items c.args.turns.now c.loop-turn.turn-index (record { item = 0; ahead = false }) c.requires.plan c.loop-turn-test.true in
    record {
      position = c.requires.position;
      publics = places;
      room = omega arith;
      readable = readable_inter (namespaces c.args.pil.now) (g.C.Columns.values c.args.columns.now) c.args.position.now.space (length c.loop-turn.next) _ (map line c.as_slice-items.result.now) c.args.publics.now c.requires.sound c.requires.fits inside same c.requires.publics room';
    }

pub loop-turn-preserved : goal.loop-turn-preserved
loop-turn-preserved g c =
    let inside : c.args.position.now.space < length (namespaces c.args.pil.now) = subst (λ n. c.args.position.now.space < n) c.requires.fits.spaces c.requires.position.space in
    let inside' : c.args.position.now.space < length c.args.pil.now.spaces = omega (arith, length-map c.args.pil.now.spaces namespace) in
    let same : map line c.as_slice-items.result.now ≡ (space_at (namespaces c.args.pil.now) c.args.position.now.space).items =
    items-at c.args.pil.now.spaces c.as_slice.result.now c.args.position.now.space c.index-as_slice-position.result c.as_slice-items.result.now c.as_slice.ensures inside' c.index-as_slice-position.is c.as_slice-items.ensures in
    let room : length (space_at (namespaces c.args.pil.now) c.args.position.now.space).items ≤ length c.loop-turn.here = omega (arith, c.requires.room, c.loop-turn.invariant.1) in
    let room' : length (space_at (namespaces c.args.pil.now) c.args.position.now.space).items ≤ length c.loop-turn.next = omega (arith, c.requires.room, c.requires.as_long, c.loop-turn.invariant.2) in
    let places : All (IsPlaceIn (g.C.Columns.values c.args.columns.now)) c.args.publics.now = subst (All (IsPlaceIn (g.C.Columns.values c.args.columns.now))) (sym c.requires.publics) (places-in (namespaces c.args.pil.now) (g.C.Columns.values c.args.columns.now) c.requires.sound c.requires.fits) in
    let on = turn-inside (space_at (namespaces c.args.pil.now) c.args.position.now.space).items c.args.turns.now c.loop-turn.turn-index (record { item = 0; ahead = false }) c.requires.plan c.loop-turn-test.true in (
      fill_more (namespaces c.args.pil.now) (g.C.Columns.values c.args.columns.now) c.args.position.now c.args.turns.now c.loop-turn.turn-index (record { item = 0; ahead = false }) (map line c.as_slice-items.result.now) c.args.publics.now c.loop-turn.here c.loop-turn.next c.as_slice-in-loop-turn.result.now c.fill_here.new.here c.fill_next.new.next
          c.requires.sound inside c.requires.after c.requires.plan c.loop-turn.invariant.0 c.loop-turn-test.true room room' same c.requires.publics c.as_slice-in-loop-turn.ensures c.fill_here.ensures c.fill_next.ensures,
      ap length c.fill_here.ensures ∙ length-set c.loop-turn.here _ _ ∙ c.loop-turn.invariant.1,
      ap length c.fill_next.ensures ∙ length-cond_set _ c.loop-turn.next _ _ ∙ c.loop-turn.invariant.2,
    )

pub returns : goal.returns
returns g c = record {
  filled = filled _ _ c.args.position.now.space c.args.position.now.instance c.args.position.now.row c.loop-turn.turn-index c.args.turns.now c.loop-turn.here c.loop-turn.next c.requires.plan c.loop-turn-test.false c.loop-turn.invariant.0;
  here = c.loop-turn.invariant.1;
  next = c.loop-turn.invariant.2;
}
