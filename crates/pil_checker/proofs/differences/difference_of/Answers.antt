use Rattle.std.proofs.Common.{◌≡◌, ◌-◌, ◌+◌, Some, length, slice_get, sym, ◌∙◌, ap, subst, arith, MatchOption}
use Rattle.std.proofs.lemmas.Result.{IfOk-weaker}
use Rattle.pil_ast.specs.Tree.{namespaces}
use Rattle.pil_ast.specs.Term.{item_at}
use Rattle.pil_ast.specs.Holds.{all_sent, lines}
use Rattle.row_check.specs.Breaks.{IsBreakOf}
use Rattle.pil_checker.specs.Programs.{nodes_at}
use Rattle.pil_checker.specs.Standing.{side_of, AgreesIfBus}
use Rattle.pil_checker.proofs.Elements.{read-found}
use Rattle.pil_checker.proofs.Grown.{few-lines}
use Rattle.pil_checker.proofs.Compared.{not-bus, side-all, compared}
use Rattle.pil_checker.proofs.Looked.{ok-more}
use Rattle.pil_checker.proofs.Stood.{planned-each}
use Rattle.pil_checker.proofs.Spanned.{IsBusAt, bus-at}
use Rattle.pil_checker.proofs.differences.difference_of.Goals as goal
use Rattle.pil_checker.proofs.differences.difference_of.Goals.{In-Nothing}

pub compare-requires-clause-few : goal.compare-requires-clause-few
compare-requires-clause-few c = let few = few-lines (namespaces c.args.pil.now) c.requires.sound in let l = c.requires.line in omega arith

here : (c : In-Nothing) → IsBusAt (namespaces c.args.pil.now) c.args.plan.now c.args.line c.index.result.now
here c =
    let h = c.requires.planned in
    let l = c.requires.line in
    let a = h.checks_long in
    let b = h.spans_long in
    bus-at (namespaces c.args.pil.now) c.args.plan.now c.args.line c.index-2.result.now c.index.result.now h
    (read-found c.args.plan.now.checks.items c.args.line c.index-2.result.now (omega arith) c.index-2.ensures) c.in-Nothing.is
    (read-found c.args.plan.now.spans.items c.args.line c.index.result.now (omega arith) c.index.ensures)

pub compare-requires-clause-first : goal.compare-requires-clause-first
compare-requires-clause-first c = let m = (here (goal.at.compare-requires-clause-first c).In-Nothing).middle in omega arith

pub compare-requires-clause-middle : goal.compare-requires-clause-middle
compare-requires-clause-middle c = let m = (here (goal.at.compare-requires-clause-middle c).In-Nothing).end in omega arith

pub compare-requires-clause-end : goal.compare-requires-clause-end
compare-requires-clause-end c = let m = (here (goal.at.compare-requires-clause-end c).In-Nothing).inside in omega arith

pub returns-in-Nothing-clause-found : goal.returns-in-Nothing-clause-found
returns-in-Nothing-clause-found c =
    let ns = namespaces c.args.pil.now in
    let plan = c.args.plan.now in
    let x = c.index.result.now in
    let parts = plan.parts.items in
    let b = c.requires.planned.spans_long in
    let l = c.requires.line in
    let span : slice_get plan.spans.items c.args.line ≡ Some x = read-found plan.spans.items c.args.line x (omega arith) c.index.ensures in
    let h : IsBusAt ns plan c.args.line x = here (goal.at.returns-in-Nothing-clause-found c).In-Nothing in
    let m : x.middle - x.first ≡ length h.left = let e = h.middle in omega arith in
    let n : x.end - x.middle ≡ length h.right = let e = h.end in omega arith in
    IfOk-weaker c.compare.result _ _
    (λ found g cs have.
    let left : side_of parts x.first (x.middle - x.first) ≡ all_sent ns cs h.left =
    ap (side_of parts x.first) m ∙ side-all ns (nodes_at plan.programs.items) cs parts x.first h.left (λ j p t low. have c.args.line x j p t (omega arith) span low) h.lefts in
    let right : side_of parts x.middle (x.end - x.middle) ≡ all_sent ns cs h.right =
    ap (side_of parts x.middle) n ∙ side-all ns (nodes_at plan.programs.items) cs parts x.middle h.right (λ j p t low. have c.args.line x j p t (omega arith) span (let e = h.middle in omega arith)) h.rights in
    subst (λ l. MatchOption found (AgreesIfBus ns cs l) (λ b. IsBreakOf ns cs l (c.args.line + 1) b)) (sym h.is)
    (compared ns cs found (c.args.line + 1) (side_of parts x.first (x.middle - x.first)) (side_of parts x.middle (x.end - x.middle)) h.left h.right left right g))
    c.compare.ensures.found

pub returns-in-Nothing-clause-planned : goal.returns-in-Nothing-clause-planned
returns-in-Nothing-clause-planned c =
    ok-more c.compare.result _ _ (λ h. planned-each (namespaces c.args.pil.now) c.args.plan.now (record c.args.plan.now { parts = c.compare.new.parts }) h.senders c.requires.planned) c.compare.ensures.gives

pub returns-in-Nothing-clause-rest : goal.returns-in-Nothing-clause-rest
returns-in-Nothing-clause-rest c =
    let plan = c.args.plan.now in
    let x = c.index.result.now in
    let b = c.requires.planned.spans_long in
    let l = c.requires.line in
    let span : slice_get plan.spans.items c.args.line ≡ Some x = read-found plan.spans.items c.args.line x (omega arith) c.index.ensures in
    ok-more c.compare.result _ _ (λ h cs have k y j p t low at first is of.
    let after = c.requires.planned.apart.apart c.args.line k x y (omega arith) span at in
    have k y j p t (omega arith) at first (sym (h.rest j (omega arith)) ∙ is) of) c.compare.ensures.gives

pub returns-in_default : goal.returns-in_default
returns-in_default c =
    let plan = c.args.plan.now in
    let l = c.requires.line in
    let a = c.requires.planned.checks_long in
    record {
      found = λ cs have.
          not-bus (namespaces c.args.pil.now) (nodes_at plan.programs.items) (length plan.tables.items) c.index-2.result.now (item_at (lines (namespaces c.args.pil.now)) c.args.line) cs
          (c.requires.planned.checks c.args.line c.index-2.result.now (read-found plan.checks.items c.args.line c.index-2.result.now (omega arith) c.index-2.ensures)) c.in_default.not-Nothing;
      planned = c.requires.planned;
      rest = λ cs have k y j p t low. have k y j p t (omega arith);
    }
