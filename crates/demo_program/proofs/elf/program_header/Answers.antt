use Rattle.std.proofs.Common.{◌++◌, ℕ, List, ap, ◌∙◌}
use Rattle.demo_program.specs.Tiny.{word, long, start, program_header}
use Rattle.demo_program.proofs.elf.program_header.Goals as goal

pub returns : goal.returns
unfolding program_header
returns c =
    let after : List ℕ → List ℕ → List ℕ = λ field front. front ++ field in
    c.in_ok-push_long-6.ensures ∙ ap (after (long 4))
    (c.in_ok-push_long-5.ensures ∙ ap (after (long c.args.size))
    (c.in_ok-push_long-4.ensures ∙ ap (after (long c.args.size))
    (c.in_ok-push_long-3.ensures ∙ ap (after (long start))
    (c.in_ok-push_long-2.ensures ∙ ap (after (long start))
    (c.in_ok-push_long.ensures ∙ ap (after (long 120))
    (c.in_ok-push_word-2.ensures ∙ ap (after (word 5))
    (c.in_ok-push_word.ensures ∙ ap (after (word 1)) (c.new-header.ensures.items))))))))
