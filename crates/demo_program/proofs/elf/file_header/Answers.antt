use Rattle.std.proofs.Common.{◌++◌, ℕ, List, ap, ◌∙◌}
use Rattle.demo_program.specs.Tiny.{half, word, long, start, file_header}
use Rattle.demo_program.proofs.elf.file_header.Goals as goal

pub returns : goal.returns
unfolding file_header
returns c =
    let after : List ℕ → List ℕ → List ℕ = λ field front. front ++ field in
    c.in_ok-push_half-8.ensures ∙ ap (after (half 0))
    (c.in_ok-push_half-7.ensures ∙ ap (after (half 0))
    (c.in_ok-push_half-6.ensures ∙ ap (after (half 0))
    (c.in_ok-push_half-5.ensures ∙ ap (after (half 1))
    (c.in_ok-push_half-4.ensures ∙ ap (after (half 56))
    (c.in_ok-push_half-3.ensures ∙ ap (after (half 64))
    (c.in_ok-push_word-2.ensures ∙ ap (after (word 0))
    (c.in_ok-push_long-3.ensures ∙ ap (after (long 0))
    (c.in_ok-push_long-2.ensures ∙ ap (after (long 64))
    (c.in_ok-push_long.ensures ∙ ap (after (long start))
    (c.in_ok-push_word.ensures ∙ ap (after (word 1))
    (c.in_ok-push_half-2.ensures ∙ ap (after (half 243))
    (c.in_ok-push_half.ensures ∙ ap (after (half 2)) (c.in_ok-header.ensures.items)))))))))))))
