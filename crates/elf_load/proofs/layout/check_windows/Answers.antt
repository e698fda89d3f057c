use Rattle.std.proofs.Common.{refl}
use Rattle.elf_load.specs.File.{header}
use Rattle.elf_load.specs.Layout.{is_in_window}
use Rattle.elf_load.specs.declared.error.ElfErr.TheVariants.{WindowClash}
use Rattle.elf_load.proofs.Headers.{found, not_found, in_window_at, window_at}
use Rattle.elf_load.proofs.Order.{refused_first, passes_more}
use Rattle.elf_load.proofs.layout.check_windows.Goals as goal

pub returns-in-Some-clause-err : goal.returns-in-Some-clause-err
returns-in-Some-clause-err c =
    let file = c.args.file.now in
    let i = c.in-Some.index in
    let at = found file c.args.headers.now is_in_window i c.requires.all c.in-Some.ensures.first in
    let a = window_at (header file i) at.0.1 in
    refused_first file 10 (WindowClash i) c.requires.passed refl refl (at.0.0, a.0, a.1, a.2)
    (λ k j less f. at.1 k less (f.0, in_window_at (header file k) f.1 f.2 f.3))

pub returns-in-None-clause-ok : goal.returns-in-None-clause-ok
returns-in-None-clause-ok c =
    let file = c.args.file.now in
    passes_more file 10 c.requires.passed (λ k j f. not_found file c.args.headers.now is_in_window c.requires.all c.in-None.ensures.first k (f.0, in_window_at (header file k) f.1 f.2 f.3))
