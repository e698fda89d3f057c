use Rattle.std.proofs.Common.{[], take, map, sym, subst}
use Rattle.pil_ast.specs.Tree.{namespaces, term}
use Rattle.pil_ast.specs.Sound.{IsTerm}
use Rattle.pil_program.specs.Publics.{NoPublic}
use Rattle.instance_pass.specs.Senders.{AllCompute}
use Rattle.pil_checker.specs.Programs.{nodes_at}
use Rattle.pil_checker.proofs.Elements.{map-all, map-take}
use Rattle.pil_checker.proofs.Grown.{all-kept, all-push, placing-none, placing-both}
use Rattle.pil_checker.proofs.placing.place_terms.Goals as goal

pub loop-expr-init : goal.loop-expr-init
loop-expr-init c = record {
  placing = placing-none (namespaces c.args.pil.now) c.args.programs.now.items c.requires.programs;
  computes = subst (AllCompute (namespaces c.args.pil.now) c.args.space (nodes_at c.args.programs.now.items c.args.space) []) (sym c.new-steps.ensures) tt;
}

pub place_in-requires-clause-term : goal.place_in-requires-clause-term
place_in-requires-clause-term c = map-all term (IsTerm (namespaces c.args.pil.now) c.args.space) c.args.exprs.now c.loop-expr.expr-index c.expr-item.result c.loop-expr-test.true c.expr-item.is c.requires.terms

pub place_in-requires-clause-unnamed : goal.place_in-requires-clause-unnamed
place_in-requires-clause-unnamed c = map-all term NoPublic c.args.exprs.now c.loop-expr.expr-index c.expr-item.result c.loop-expr-test.true c.expr-item.is c.requires.unnamed

pub loop-expr-preserved : goal.loop-expr-preserved
loop-expr-preserved c =
    let ns = namespaces c.args.pil.now in
    let s = c.args.space in
    let old = c.loop-expr.programs.items in
    let new = c.place_in.new.programs.items in
    let placing = c.in_ok-place_in.ensures.placing in
    let before = c.loop-expr.invariant in
    let computes = all-push ns s (nodes_at new s) (take c.loop-expr.expr-index (map term c.args.exprs.now)) c.loop-expr.steps (term c.expr-item.result) c.in_ok-place_in.field-0
    (all-kept ns s (nodes_at old s) (nodes_at new s) (take c.loop-expr.expr-index (map term c.args.exprs.now)) c.loop-expr.steps (placing.grows s) before.computes) c.in_ok-place_in.ensures.computes in
    record {
      placing = placing-both ns c.args.programs.now.items old new before.placing placing;
      computes = subst (λ es. AllCompute ns s (nodes_at new s) es c.push.new.self) (sym (map-take term c.args.exprs.now c.loop-expr.expr-index c.expr-item.result c.loop-expr-test.true c.expr-item.is))
          (subst (AllCompute ns s (nodes_at new s) _) (sym c.in_ok-push.ensures.ok) computes);
    }
