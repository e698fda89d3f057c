use Rattle.std.proofs.Common.{ℕ, ◌<◌, ◌≡◌, List, length, sym, ◌∙◌, ap, subst, arith}
use Rattle.std.proofs.lemmas.List.{length-map}
use Rattle.pil_ast.specs.Tree.{namespaces, line}
use Rattle.pil_ast.specs.Term.{Namespace, item_at}
use Rattle.pil_ast.specs.Holds.{lines}
use Rattle.pil_laws.proofs.Lines.{item-found}
use Rattle.pil_lines.specs.Places.{item_of}
use Rattle.bus_check.specs.Run.{Added, Takes}
use Rattle.bus_check.specs.declared.runs.Sides.{Sides}
use Rattle.bus_check.proofs.Run.{lists-of, first-none, first-more, first-all}
use Rattle.bus_check.proofs.runs.take_lines.Goals as goal

pub loop-line-init : goal.loop-line-init
loop-line-init g c = (c.requires.made, first-none _ c.args.sides.now)

pub take-requires-clause-lists : goal.take-requires-clause-lists
take-requires-clause-lists g c = lists-of (namespaces c.args.pil.now) c.loop-line.line (line c.line_at-item.result.now) c.requires.sound c.line_at-item.ensures

pub loop-line-preserved : goal.loop-line-preserved
loop-line-preserved g c =
    let ns : List Namespace = namespaces c.args.pil.now in
    let x : Added = record { columns = g.C.Columns.values c.args.columns.now; space = c.args.space; instance = c.args.instance } in
    let R : ℕ → Sides → Sides → Type 0 = λ k. Takes ns x (item_at (lines ns) k) in
    let many : length c.args.places.now ≡ length (lines ns) = sym (length-map c.args.places.now (item_of ns)) ∙ ap length c.requires.places.items in
    let h = c.loop-line.invariant.1 in
    let inside : c.loop-line.line < length c.loop-line.sides = let long = h.long in let all = c.requires.long in let l = c.loop-line-test.true in omega arith in
    let found : line c.line_at-item.result.now ≡ item_at (lines ns) c.loop-line.line = sym (item-found (lines ns) c.loop-line.line (line c.line_at-item.result.now) c.line_at-item.ensures) in (
      c.in_ok-take.ensures.made,
      first-more R c.loop-line.line c.args.sides.now c.loop-line.sides c.index-sides-line.result c.take.new.self h inside c.index-sides-line.is
          (subst (λ l. Takes ns x l c.index-sides-line.result c.take.new.self) found
          (subst (λ s. Takes ns x (line c.line_at-item.result.now) s c.take.new.self) (sym c.index-sides-line.is) c.in_ok-take.ensures.takes)),
    )

pub returns-clause-takes : goal.returns-clause-takes
returns-clause-takes g c =
    let many : length c.args.places.now ≡ length (lines (namespaces c.args.pil.now)) = sym (length-map c.args.places.now (item_of (namespaces c.args.pil.now))) ∙ ap length c.requires.places.items in
    let all = c.requires.long in
    let past = c.loop-line-test.false in
    first-all _ c.loop-line.line c.args.sides.now c.loop-line.sides c.loop-line.invariant.1 (omega arith)
