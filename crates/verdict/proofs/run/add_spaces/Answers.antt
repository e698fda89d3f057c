use Rattle.std.proofs.Common.{ℕ, ◌≡◌, arith}
use Rattle.pil_ast.specs.Tree.{namespaces}
use Rattle.verdict.proofs.Added.{Instances, Spaces, space_more}
use Rattle.verdict.proofs.run.add_spaces.Goals as goal

pub loop-space-init : goal.loop-space-init
loop-space-init g c = record { built = c.requires.built; here = λ s l. absurd (omega arith); others = λ s l. c.requires.none s; stands = λ v a same. a }

pub add_instances-requires-clause-built : goal.add_instances-requires-clause-built
add_instances-requires-clause-built g c = c.loop-space.invariant.built

pub add_instances-requires-clause-none : goal.add_instances-requires-clause-none
add_instances-requires-clause-none g c = c.loop-space.invariant.others c.loop-space.space (omega arith)

pub loop-space-preserved : goal.loop-space-preserved
loop-space-preserved g c =
    space_more (namespaces c.args.pil.now) (g.C.Columns.values c.args.columns.now) c.loop-space.space c.args.checker.now c.loop-space.checker c.add_instances.new.checker c.loop-space.invariant
    (record { built = c.in_ok-add_instances.ensures.built; here = c.in_ok-add_instances.ensures.here; others = c.in_ok-add_instances.ensures.others; stands = c.in_ok-add_instances.ensures.stands })

pub returns-clause-stands : goal.returns-clause-stands
returns-clause-stands g c = λ v a same. c.loop-space.invariant.stands v a (λ s i l m. same s i (let t = c.loop-space-test.false in omega arith) m)
