use Rattle.std.proofs.Common.{ℕ, ◌≡◌, ◌≢◌, ◌+◌, ◌<◌, length, slice_index, set, refl, sym, ◌∙◌, ap, subst, arith}
use Rattle.pil_ast.specs.Tree.{namespaces}
use Rattle.pil_checker.proofs.Added.{count-here, count-other}
use Rattle.pil_checker.proofs.whole.add_space.Goals as goal

pub loop-instance-preserved : goal.loop-instance-preserved
loop-instance-preserved g c =
    let s = c.args.space in
    let h = c.loop-instance.invariant in
    let e = c.in_ok-add.ensures in
    let l : s < length c.loop-instance.checker.counts.items = let a = h.built.counts in let b = c.requires.fits.spaces in let d = c.requires.space in omega arith in
    record {
      built = e.built;
      stands = e.stands (g.C.Columns.values c.args.columns.now) h.stands (record { rows = refl; values = λ k r m m'. refl });
      here = ap (λ xs. slice_index xs s) e.counts ∙ count-here c.loop-instance.checker.counts.items s (c.loop-instance.instance + 1) l;
      elsewhere = λ t ne. ap (λ xs. slice_index xs t) e.counts ∙ count-other c.loop-instance.checker.counts.items s (c.loop-instance.instance + 1) t ne ∙ h.elsewhere t ne;
    }

pub returns-clause-here : goal.returns-clause-here
returns-clause-here g c =
    let past = c.loop-instance-test.false in
    let end = c.loop-instance.auto.instance-end in
    let all : c.loop-instance.instance ≡ c.instances-instance-end.result = omega arith in
    c.loop-instance.invariant.here ∙ all ∙ c.instances-instance-end.ensures
