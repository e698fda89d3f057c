use Rattle.std.proofs.Common.{◌≡◌, ◌+◌, ◌<◌, [], ◌∷◌, ◌++◌, map, inl, inr, ◌∙◌, refl, arith, below_more, ap}
use Rattle.std.specs.List.{range_with_len}
use Rattle.std.proofs.lemmas.List.FromFn.{map-range_with_len_more}
use Rattle.elf_load.specs.File.{e_phnum, header, header_at}
use Rattle.elf_load.specs.declared.error.ElfErr.TheVariants.{BadPhdrs}
use Rattle.elf_load.proofs.Order.{refused_first}
use Rattle.elf_load.proofs.program_headers.program_headers.Goals as goal

pub returns-in-None-clause-err : goal.returns-in-None-clause-err
returns-in-None-clause-err c =
    let inside : c.loop-index.index < e_phnum c.args.file.now = omega arith in
    inr (refused_first c.args.file.now 5 (BadPhdrs c.loop-index.index) c.requires.passed refl refl (inside, c.in-None.ensures)
    (λ i j less fails. c.loop-index.invariant.found i less fails))

pub loop-index-preserved : goal.loop-index-preserved
loop-index-preserved c =
    let file = c.args.file.now in
    let i = c.loop-index.index in
    let same : c.header_at.result ≡ header file i = c.header_at.ensures ∙ ap (header_at file) c.in-Some.ensures.1 in
    let more : map (header file) (range_with_len 0 (i + 1)) ≡ map (header file) (range_with_len 0 i) ++ header file i ∷ [] = map-range_with_len_more (header file) 0 i i (omega arith) in
    record {
      read = c.in_ok-push-in-Some.ensures.items ∙ cc;
      count = omega (arith, c.in_ok-push-in-Some.ensures.len);
      found = below_more _ _ c.loop-index.invariant.found (λ f. elim f.1 [
        | inl other ↦ other c.in-Some.ensures.0
        | inr past ↦ absurd (omega (arith, c.in-Some.ensures.1, c.in-Some.ensures.2))
      ]);
    }
