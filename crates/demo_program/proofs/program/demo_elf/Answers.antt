use Rattle.std.proofs.Common.{◌≡◌, ◌+◌, List, All, IfOk, length, ap, sym, subst, ◌∙◌, arith}
use Rattle.rv_word.specs.declared.instr.Instr.{Instr}
use Rattle.demo_program.specs.Tiny.{tiny}
use Rattle.demo_program.specs.Demo.{demo_file, words_of, HasWord}
use Rattle.demo_program.proofs.Parts.{instructions_words}
use Rattle.demo_program.proofs.Halting.{length_instructions}
use Rattle.demo_program.proofs.program.demo_elf.Goals as goal

pub tiny-requires-clause-words : goal.tiny-requires-clause-words
tiny-requires-clause-words c =
    let P : List Instr → Type 0 = All HasWord in
    subst P (sym (c.deref.ensures.value ∙ c.in_ok-program.ensures)) (instructions_words c.args.number c.args.kind c.args.size)

pub tiny-requires-clause-few : goal.tiny-requires-clause-few
tiny-requires-clause-few c =
    let count : length c.deref.result.now ≡ c.args.size + 21 = ap length (c.deref.ensures.value ∙ c.in_ok-program.ensures) ∙ length_instructions c.args.number c.args.kind c.args.size in
    omega (arith, count, c.requires.1)

pub returns : goal.returns
unfolding demo_file
returns c =
    subst (λ (is : List Instr). IfOk c.tiny.result (λ v. v.items ≡ tiny (words_of is))) (c.deref.ensures.value ∙ c.in_ok-program.ensures) c.tiny.ensures
