use Rattle.std.proofs.Common.{refl, length}
use Rattle.elf_load.specs.Header.{is_dynamic, lacks_bytes, is_out_of_range}
use Rattle.elf_load.specs.Progress.{PassesFirst}
use Rattle.elf_load.specs.declared.error.ElfErr.TheVariants.{NotStatic, FilePart, OutOfRange}
use Rattle.elf_load.proofs.Headers.{found, not_found}
use Rattle.elf_load.proofs.Order.{refused_first, passes_more}
use Rattle.elf_load.proofs.program_headers.check_headers.Goals as goal

pub returns-in-Some-clause-err : goal.returns-in-Some-clause-err
returns-in-Some-clause-err c =
    let file = c.args.file.now in
    let i = c.in-Some.index in
    let at = found file c.args.headers.now is_dynamic i c.requires.all c.in-Some.ensures.first in
    refused_first file 6 (NotStatic i) c.requires.passed refl refl at.0 (λ k j less f. at.1 k less f)

pub returns-in-Some-first_lacking_bytes-clause-err : goal.returns-in-Some-first_lacking_bytes-clause-err
returns-in-Some-first_lacking_bytes-clause-err c =
    let file = c.args.file.now in
    let i = c.in-Some-first_lacking_bytes.index in
    let seven : PassesFirst 7 file = passes_more file 6 c.requires.passed (λ k j f. not_found file c.args.headers.now is_dynamic c.requires.all c.in_default.ensures.first k f) in
    let at = found file c.args.headers.now (lacks_bytes (length file)) i c.requires.all c.in-Some-first_lacking_bytes.ensures.first in
    refused_first file 7 (FilePart i) seven refl refl at.0 (λ k j less f. at.1 k less f)

pub returns-in-Some-first_out_of_range-clause-err : goal.returns-in-Some-first_out_of_range-clause-err
returns-in-Some-first_out_of_range-clause-err c =
    let file = c.args.file.now in
    let i = c.in-Some-first_out_of_range.index in
    let seven : PassesFirst 7 file = passes_more file 6 c.requires.passed (λ k j f. not_found file c.args.headers.now is_dynamic c.requires.all c.in_default.ensures.first k f) in
    let eight : PassesFirst 8 file = passes_more file 7 seven (λ k j f. not_found file c.args.headers.now (lacks_bytes (length file)) c.requires.all c.in_default-first_lacking_bytes.ensures.first k f) in
    let at = found file c.args.headers.now is_out_of_range i c.requires.all c.in-Some-first_out_of_range.ensures.first in
    refused_first file 8 (OutOfRange i) eight refl refl at.0 (λ k j less f. at.1 k less f)

pub returns-clause-ok : goal.returns-clause-ok
returns-clause-ok c =
    let file = c.args.file.now in
    let seven : PassesFirst 7 file = passes_more file 6 c.requires.passed (λ k j f. not_found file c.args.headers.now is_dynamic c.requires.all c.in_default.ensures.first k f) in
    let eight : PassesFirst 8 file = passes_more file 7 seven (λ k j f. not_found file c.args.headers.now (lacks_bytes (length file)) c.requires.all c.in_default-first_lacking_bytes.ensures.first k f) in
    passes_more file 8 eight (λ k j f. not_found file c.args.headers.now is_out_of_range c.requires.all c.in_default-first_out_of_range.ensures.first k f)
