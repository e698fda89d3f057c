use Rattle.std.proofs.Common.{rules, subst}
use Rattle.std.specs.List.Sorted.{IsPermutation}
use Rattle.std.proofs.lemmas.List.Sorted.{IsNonDecreasingBy-from_sort_by_key}
use Rattle.elf_load.specs.declared.header.ProgramHeader.{ProgramHeader}
use Rattle.elf_load.proofs.layout.by_address.Goals as goal

pub returns : goal.returns
returns c = record {
  same = subst (λ xs. IsPermutation {X = ProgramHeader} xs c.sort_unstable_by_key.new.self.items) c.in_ok-segments.ensures c.sort_unstable_by_key.ensures.permutation;
  up = IsNonDecreasingBy-from_sort_by_key (λ h. h.p_vaddr) _ c.sort_unstable_by_key.ensures.sorted (λ a r q k. search rules);
}
