use Rattle.std.proofs.Common.{◌<◌, ◌≡◌, List, ◌++◌, length, map, take, sym, ap, ◌∙◌, arith}
use Rattle.std.specs.Prelude.{filter}
use Rattle.std.proofs.lemmas.List.{length-map}
use Rattle.pil_ast.specs.Tree.{line, namespaces, namespace}
use Rattle.pil_ast.specs.Term.{Line, is_line}
use Rattle.pil_ast.specs.Holds.{lines}
use Rattle.pil_lines.proofs.Lined.{items-here, lines-more, all-lines, places-long}
use Rattle.pil_lines.proofs.places.line_places.Goals as goal

pub push_places-requires-clause-items : goal.push_places-requires-clause-items
push_places-requires-clause-items c = items-here c.args.pil.now.spaces c.as_slice-spaces.result.now c.loop-space.space c.index-spaces-space.result c.as_slice.result.now c.as_slice-spaces.ensures c.loop-space-test.true c.index-spaces-space.is c.as_slice.ensures

pub loop-space-preserved : goal.loop-space-preserved
loop-space-preserved c =
    let long = length-map c.args.pil.now.spaces namespace in
    let inside : c.loop-space.space < length (namespaces c.args.pil.now) = let l = c.loop-space-test.true in let same = ap length c.as_slice-spaces.ensures in omega arith in
    let mine : map line c.as_slice.result.now ≡ _ = items-here c.args.pil.now.spaces c.as_slice-spaces.result.now c.loop-space.space c.index-spaces-space.result c.as_slice.result.now c.as_slice-spaces.ensures c.loop-space-test.true c.index-spaces-space.is c.as_slice.ensures in (
      c.in_ok-push_places.ensures.items
          ∙ ap (λ (ls : List Line). ls ++ filter is_line (map line c.as_slice.result.now)) c.loop-space.invariant.0
          ∙ ap (λ ls. lines (take c.loop-space.space (namespaces c.args.pil.now)) ++ filter is_line ls) mine ∙ sym (lines-more (namespaces c.args.pil.now) c.loop-space.space inside),
      c.in_ok-push_places.ensures.inside,
    )

pub returns-clause-places : goal.returns-clause-places
returns-clause-places c = all-lines c.args.pil.now.spaces c.as_slice-spaces.result.now c.loop-space.places.items c.loop-space.space c.as_slice-spaces.ensures c.loop-space-test.false c.loop-space.invariant.0 c.loop-space.invariant.1

pub returns-clause-long : goal.returns-clause-long
returns-clause-long c = places-long (namespaces c.args.pil.now) c.loop-space.places.items (all-lines c.args.pil.now.spaces c.as_slice-spaces.result.now c.loop-space.places.items c.loop-space.space c.as_slice-spaces.ensures c.loop-space-test.false c.loop-space.invariant.0 c.loop-space.invariant.1)
