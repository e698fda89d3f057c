use Rattle.std.proofs.Common.{◌≡◌, ◌*◌, ◌++◌, ℕ, List, length, take, ap, sym, ◌∙◌, arith}
use Rattle.std.specs.List.{flat_map}
use Rattle.std.proofs.lemmas.List.{take_all, length-map}
use Rattle.rv_word.specs.declared.instr.Instr.{Instr}
use Rattle.demo_program.specs.Demo.{words_of}
use Rattle.demo_program.specs.Tiny.{word, file_header, program_header, tiny}
use Rattle.demo_program.proofs.elf.tiny.Goals as goal

pub returns : goal.returns
unfolding tiny
returns c =
    let is : List Instr = c.args.instructions.now in
    let whole : take c.loop-instruction.instruction-index is ≡ is = take_all _ is (omega arith) in
    let count : length is ≡ length (words_of is) = sym (length-map is _) in
    c.loop-instruction.invariant
    ∙ ap (λ (xs : List Instr). file_header ++ program_header (4 * length is) ++ flat_map word (words_of xs)) whole
    ∙ ap (λ (n : ℕ). file_header ++ program_header (4 * n) ++ flat_map word (words_of is)) count
