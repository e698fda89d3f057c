use Rattle.std.proofs.Common.{◌≡◌, ℕ, ◌<◌, ◌≤◌, ◌-◌, ◌^◌, List, true, false, min, refl, sym, ◌∙◌, ap, subst, arith}
use Rattle.std.specs.List.{list_any}
use Rattle.rv_model.specs.declared.machine.TheConstants.{MOST_LOADED}
use Rattle.elf_load.specs.File.{headers_of}
use Rattle.elf_load.specs.Header.{holds_word}
use Rattle.elf_load.specs.Refusal.{HasWord, data_size}
use Rattle.elf_load.specs.Progress.{PassesFirst}
use Rattle.elf_load.specs.declared.header.ProgramHeader.{ProgramHeader}
use Rattle.elf_load.specs.declared.error.ElfErr.TheVariants.{EntryOutside}
use Rattle.elf_load.proofs.Headers.{some_passes, none_passes}
use Rattle.elf_load.proofs.Order.{refused, passes_more}
use Rattle.elf_load.proofs.loading.check_load.Goals as goal
use Rattle.elf_load.proofs.loading.check_load.Goals.{then-entry-ne0-via-then-entry-ne0, then-entry-ne0-via-else-entry-ne0+then-not-has_word}

-- so few bytes are not too many
twelve : (file : List ℕ) (hs : List ProgramHeader) (size : ℕ) → hs ≡ headers_of file → size ≡ data_size hs → size ≤ MOST_LOADED → PassesFirst 11 file → PassesFirst 12 file
twelve file hs size all is few passed =
    passes_more file 11 passed (λ i j f. let same : size ≡ data_size (headers_of file) = is ∙ ap data_size all in let most : MOST_LOADED < min (data_size (headers_of file)) (2 ^ 64 - 1) = f.1 in omega arith)

pub returns-then-entry-ne0-clause-err : goal.returns-then-entry-ne0-clause-err
returns-then-entry-ne0-clause-err c =
    let file = c.args.file.now in
    let entry = c.u64_at-entry.result in
    let none : HasWord file entry → ⊥ = λ w. elim c.then-entry-ne0.branch [
      | then-entry-ne0-via-then-entry-ne0 b ↦ b.if-entry-ne0.true w.0
      | then-entry-ne0-via-else-entry-ne0+then-not-has_word b ↦ none_passes file (holds_word entry) (subst (λ hs. list_any (holds_word entry) hs ≡ false) c.requires.all (sym b.if-not-has_word.ensures)) w.1 w.2
    ] in
    refused file 12 (EntryOutside entry) (twelve file c.args.headers.now c.data_size-size.result c.requires.all c.data_size-size.ensures (omega (arith, c.from.ensures, c.if-size-from.false)) c.requires.passed) refl refl refl (c.u64_at-entry.ensures, none)

pub returns-clause-ok : goal.returns-clause-ok
returns-clause-ok c =
    let file = c.args.file.now in
    let entry = c.u64_at-entry.result in
    let word = some_passes file (holds_word entry) (subst (λ hs. list_any (holds_word entry) hs ≡ true) c.requires.all (sym c.if-not-has_word.ensures)) in
    passes_more file 12 (twelve file c.args.headers.now c.data_size-size.result c.requires.all c.data_size-size.ensures (omega (arith, c.from.ensures, c.if-size-from.false)) c.requires.passed) (λ i j f. f.1 (subst (HasWord file) c.u64_at-entry.ensures (c.if-entry-ne0.false, word.0, word.1)))
