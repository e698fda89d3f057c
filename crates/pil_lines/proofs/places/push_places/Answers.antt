use Rattle.std.proofs.Common.{ℕ, ◌<◌, ◌≡◌, List, [], ◌∷◌, ◌++◌, length, get_or, map, sym, ap, subst, ◌∙◌, arith, All}
use Rattle.std.proofs.lemmas.List.{map-append, length-map}
use Rattle.pil_ast.specs.Tree.{line, namespaces}
use Rattle.pil_ast.specs.Term.{Line, Namespace, item_at}
use Rattle.pil_laws.proofs.Loops.{mapped-here}
use Rattle.pil_lines.specs.declared.places.LinePlace.{LinePlace}
use Rattle.pil_lines.specs.Places.{item_of, IsInside}
use Rattle.pil_lines.proofs.Lined.{item_at-here, more-kept, more-passed, all-more}
use Rattle.pil_lines.proofs.places.push_places.Goals as goal
use Rattle.pil_lines.proofs.places.push_places.Goals.{then-is_line+in_ok-push, else-is_line}

pub loop-item-preserved : goal.loop-item-preserved
loop-item-preserved c =
    let ns : List Namespace = namespaces c.args.pil.now in
    let i : ℕ = c.loop-item.item in
    let x = c.index-items-item.result in
    let old : List LinePlace = c.loop-item.places.items in
    let before : List Line = map (item_of ns) c.args.places.now.items in
    let long = length-map c.args.items.now line in
    let inside : i < length c.args.items.now = c.loop-item-test.true in
    let inside' : i < length (map line c.args.items.now) = omega arith in
    let here : get_or (map line c.args.items.now) i (line x) ≡ line x = mapped-here line c.args.items.now i x inside c.index-items-item.is (line x) in
    elim c.if-is_line.branch [
      | then-is_line+in_ok-push w ↦
          let p : LinePlace = record { space = c.args.space; item = i } in
          let grown : c.if-is_line.places.items ≡ old ++ p ∷ [] = ap (λ v. v.items) w.places-is ∙ w.in_ok-push.ensures.items in
          let at : item_of ns p ≡ line x = ap (λ ls. item_at ls i) (sym c.requires.items) ∙ item_at-here c.args.items.now i x inside c.index-items-item.is in
          let mapped : map (item_of ns) c.if-is_line.places.items ≡ map (item_of ns) old ++ line x ∷ [] = ap (map (item_of ns)) grown ∙ map-append (item_of ns) old (p ∷ []) ∙ ap (λ l. map (item_of ns) old ++ l ∷ []) at in (
            more-kept (map line c.args.items.now) before (map (item_of ns) old) (map (item_of ns) c.if-is_line.places.items) i (line x) inside' here (sym c.is_line.ensures ∙ w.if-is_line.true) c.loop-item.invariant.0 mapped,
            subst (All (IsInside ns)) (sym grown) (all-more (IsInside ns) old p c.loop-item.invariant.1 (record { space = c.requires.space; item = subst (λ (ls : List Line). i < length ls) c.requires.items inside' })),
          )
      | else-is_line w ↦
          let same : c.if-is_line.places.items ≡ old = ap (λ v. v.items) w.places-is in (
            more-passed (map line c.args.items.now) before (map (item_of ns) c.if-is_line.places.items) i (line x) inside' here (sym c.is_line.ensures ∙ w.if-is_line.false) (ap (map (item_of ns)) same ∙ c.loop-item.invariant.0),
            subst (All (IsInside ns)) (sym same) c.loop-item.invariant.1,
          )
    ]
