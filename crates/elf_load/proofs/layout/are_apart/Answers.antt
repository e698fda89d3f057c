use Rattle.std.proofs.Common.{rules, ◌≡◌, ◌+◌, ◌↔◌, nat_le, List, Bool, true, false, length, sym, refl, IsTrue}
use Rattle.std.proofs.lemmas.Bool.{leb-true, le-leb}
use Rattle.std.proofs.lemmas.List.Sorted.{answers_always}
use Rattle.std.specs.List.{AllAdjacentBelow, IsAllAdjacentAnswer}
use Rattle.elf_load.specs.Layout.{EndsBefore}
use Rattle.elf_load.specs.declared.header.ProgramHeader.{ProgramHeader}
use Rattle.elf_load.proofs.layout.are_apart.Goals as goal

zeros : ProgramHeader
zeros = record { p_type = 0; p_flags = 0; p_offset = 0; p_vaddr = 0; p_filesz = 0; p_memsz = 0 }

-- what the test of each element and the next answers
as_fact : (xs : List ProgramHeader) (r : Bool) → IsAllAdjacentAnswer (λ g h b. b ≡ nat_le (g.p_vaddr + g.p_memsz) h.p_vaddr) xs r → IsTrue r ↔ AllAdjacentBelow EndsBefore xs (length xs)
as_fact xs true h = (λ e k d l. leb-true _ _ (sym (h k d l)), λ all. refl)
as_fact xs false h = (λ e. absurd (cc), λ all. absurd (let yes = le-leb _ _ (all h.0 zeros h.1) in let no = h.2 zeros in cc))

pub returns : goal.returns
returns c =
    as_fact c.args.segments.now c.is_sorted_by.result
    (c.is_sorted_by.ensures.cases (λ g h. nat_le (g.p_vaddr + g.p_memsz) h.p_vaddr)
    (answers_always _ (λ a r. r ≡ nat_le (a.0.now.p_vaddr + a.0.now.p_memsz) a.1.0.now.p_vaddr) _ (λ f a r q k. search rules)))
