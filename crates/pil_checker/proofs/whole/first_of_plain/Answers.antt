use Rattle.std.proofs.Common.{◌≡◌, inl, inr, refl, sym, ◌∙◌, ap, arith}
use Rattle.std.proofs.lemmas.Bool.{cases_eq}
use Rattle.std.proofs.lemmas.List.{length-map}
use Rattle.std.proofs.lemmas.Result.{IfOk-weaker}
use Rattle.pil_ast.specs.Tree.{namespace, namespaces}
use Rattle.pil_checker.specs.Standing.{added}
use Rattle.pil_checker.proofs.Grown.{few-spaces}
use Rattle.pil_checker.proofs.whole.first_of_plain.Goals as goal

pub overflow_cast-space-end : goal.overflow_cast-space-end
overflow_cast-space-end g c =
    let few = few-spaces (namespaces c.args.pil.now) c.requires.sound in
    let long = length-map c.args.pil.now.spaces namespace in
    let e = c.len-space-end.ensures in
    omega arith

pub loop-space-init : goal.loop-space-init
loop-space-init g c = record {
  built = c.in_ok-checker.ensures.built;
  stands = c.in_ok-checker.ensures.stands (g.C.Columns.values c.args.columns.now) (λ k a b e t. refl);
  done = λ t l. absurd (omega arith);
  rest = λ t l. c.in_ok-checker.ensures.none t;
}

pub loop-space-preserved : goal.loop-space-preserved
loop-space-preserved g c =
    let d = g.C.Columns.values c.args.columns.now in
    let s = c.loop-space.space in
    let h = c.loop-space.invariant in
    let e = c.in_ok-add_space.ensures in
    record {
      built = e.built;
      stands = e.stands;
      done = λ t l. elim (cases_eq t s) [
        | inl same ↦ ap (added c.add_space.new.checker) same ∙ e.here ∙ ap d.instances (sym same)
        | inr ne ↦ e.elsewhere t ne ∙ h.done t (omega arith)
      ];
      rest = λ t l. e.elsewhere t (λ same. let w : t ≡ s = same in absurd (omega arith)) ∙ h.rest t (omega arith);
    }

pub returns : goal.returns
returns g c =
    let past = c.loop-space-test.false in
    let long = length-map c.args.pil.now.spaces namespace in
    let count = c.len-space-end.ensures in
    IfOk-weaker c.finish.result _ _ (λ found h. h (g.C.Columns.values c.args.columns.now) c.loop-space.invariant.stands (λ s l. c.loop-space.invariant.done s (omega arith))) c.finish.ensures
