use Rattle.std.proofs.Common.{ℕ, ◌≡◌, ◌<◌, length, refl, subst, arith}
use Rattle.pil_ast.specs.Tree.{namespaces}
use Rattle.verdict.proofs.Added.{Instances, instance_more}
use Rattle.verdict.proofs.run.add_instances.Goals as goal

pub loop-instance-init : goal.loop-instance-init
loop-instance-init g c = record { built = c.requires.built; here = c.requires.none; others = λ t ne. refl; stands = λ v a same. a }

pub add-requires-clause-built : goal.add-requires-clause-built
add-requires-clause-built g c = c.loop-instance.invariant.built

pub add-requires-clause-next : goal.add-requires-clause-next
add-requires-clause-next g c = c.loop-instance.invariant.here

pub loop-instance-preserved : goal.loop-instance-preserved
loop-instance-preserved g c =
    instance_more (namespaces c.args.pil.now) (g.C.Columns.values c.args.columns.now) c.args.space c.loop-instance.instance c.args.checker.now c.loop-instance.checker c.add.new.self
    (subst (λ n. c.args.space < n) c.requires.fits.spaces c.requires.space) (let t = c.loop-instance-test.true in let e = c.instances-instance-end.ensures in omega arith) c.loop-instance.invariant
    (record { built = c.in_ok-add.ensures.built; counts = c.in_ok-add.ensures.counts; stands = c.in_ok-add.ensures.stands })
