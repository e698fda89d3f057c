use Rattle.std.proofs.Common.{subst, inr}
use Rattle.elf_load.specs.File.{headers_of}
use Rattle.elf_load.specs.Layout.{Ascends}
use Rattle.elf_load.proofs.Apart.{none_overlaps}
use Rattle.elf_load.proofs.Partners.{partner_refused, no_partner_passes}
use Rattle.elf_load.proofs.Order.{passes_more}
use Rattle.elf_load.proofs.layout.check_overlaps.Goals as goal

pub returns-then-are_apart-clause-ok : goal.returns-then-are_apart-clause-ok
returns-then-are_apart-clause-ok c =
    let file = c.args.file.now in
    let sorted = c.args.segments.now in
    let order : Ascends (headers_of file) sorted = subst (λ hs. Ascends hs sorted) c.requires.all c.requires.ascends in
    passes_more file 9 c.requires.passed (λ i j f. none_overlaps file sorted order (c.are_apart.ensures.0 c.if-are_apart.true) i j f)

pub returns-in-Some-clause-err : goal.returns-in-Some-clause-err
returns-in-Some-clause-err c = inr (partner_refused c.args.file.now c.args.headers.now c.in-Some.i c.in-Some.j c.requires.all c.requires.passed c.in-Some.ensures.0 c.in-Some.ensures.1)

pub returns-clause-ok : goal.returns-clause-ok
returns-clause-ok c = no_partner_passes c.args.file.now c.args.headers.now c.requires.all c.requires.passed c.in-None.ensures
