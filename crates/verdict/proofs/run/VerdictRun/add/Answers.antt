use Rattle.std.proofs.Common.{ℕ, ◌≡◌, ◌<◌, ◌++◌, List, length, refl, sym, ap, subst, ◌∙◌, arith}
use Rattle.pil_ast.specs.Tree.{namespaces}
use Rattle.pil_checker.specs.declared.checker.Checker.{Checker}
use Rattle.pil_checker.specs.Standing.{IsBuilt, StandsFor}
use Rattle.verdict.proofs.Adding.{fits, frame_is, is_framed, known, next_is, out_columns, out_rows, stands_more}
use Rattle.verdict.proofs.run.VerdictRun.add.Goals as goal

pub space_of-space-requires : goal.space_of-space-requires
space_of-space-requires c = (known c.args.image.now c.requires.sizes c.requires.tables c.args.self.now c.args.table.now c.requires.stands c.requires.next).low

pub new-frame-requires : goal.new-frame-requires
new-frame-requires c =
    is_framed c.args.image.now c.requires.sizes c.requires.tables c.args.self.now c.args.table.now c.requires.stands c.requires.next
    c.space_of-space.result c.rows.result c.in_ok-first.first c.as_slice-others.result.now c.space_of-space.ensures.is c.rows.ensures c.in_ok-first.ensures.columns c.as_slice-others.ensures.items c.in_ok-first.ensures.canonical

pub add-requires-clause-fits : goal.add-requires-clause-fits
add-requires-clause-fits c =
    fits c.args.image.now c.requires.sizes c.requires.tables c.args.self.now c.args.table.now c.requires.stands c.requires.next c.whole_laws.ensures.frame c.new-frame.result
    (c.new-frame.ensures ∙ frame_is c.args.image.now c.requires.sizes c.requires.tables c.args.self.now c.args.table.now c.requires.stands
    c.space_of-space.result c.rows.result c.in_ok-first.first c.as_slice-others.result.now c.space_of-space.ensures.is c.rows.ensures c.in_ok-first.ensures.columns c.as_slice-others.ensures.items)

pub add-requires-clause-next : goal.add-requires-clause-next
add-requires-clause-next c =
    next_is c.args.image.now c.requires.sizes c.requires.tables c.args.self.now c.args.table.now c.requires.stands c.requires.next c.space_of-space.result c.space_of-space.ensures.is

pub publish-requires-clause-columns : goal.publish-requires-clause-columns
publish-requires-clause-columns c = out_columns c.args.image.now c.requires.sizes c.requires.tables c.args.self.now c.args.table.now c.requires.stands c.requires.next

pub publish-requires-clause-rows : goal.publish-requires-clause-rows
publish-requires-clause-rows c = out_rows c.args.image.now c.requires.sizes c.requires.tables c.args.self.now c.args.table.now c.requires.stands c.requires.next

pub returns : goal.returns
returns c = λ sizes tables st comes.
    stands_more c.args.image.now sizes tables c.args.self.now c.args.table.now st comes c.columns_laws.ensures.tables c.publish.new.self c.new-frame.result c.space_of-space.result
    (c.new-frame.ensures ∙ frame_is c.args.image.now sizes tables c.args.self.now c.args.table.now st
    c.space_of-space.result c.rows.result c.in_ok-first.first c.as_slice-others.result.now c.space_of-space.ensures.is c.rows.ensures c.in_ok-first.ensures.columns c.as_slice-others.ensures.items)
    c.space_of-space.ensures.is c.publish.ensures.profile c.publish.ensures.pil c.publish.ensures.fixed
    (subst (IsBuilt (namespaces c.args.self.now.pil)) (sym c.publish.ensures.checker) c.in_ok-add.ensures.built)
    (ap (λ (k : Checker). k.counts.items) c.publish.ensures.checker ∙ c.in_ok-add.ensures.counts)
    (λ v a same. subst (StandsFor (namespaces c.args.self.now.pil) v) (sym c.publish.ensures.checker) (c.in_ok-add.ensures.stands v a same))
    c.publish.ensures.out c.publish.ensures.others
