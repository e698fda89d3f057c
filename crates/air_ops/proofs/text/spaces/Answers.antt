use Rattle.std.proofs.Common.{◌∙◌, ap}
use Rattle.std.specs.List.{remove}
use Rattle.air_ops.proofs.text.spaces.Goals as goal

pub returns : goal.returns
returns c =
    c.leave_out-7.ensures ∙ ap (λ n. remove n 4) (c.leave_out-6.ensures ∙ ap (λ n. remove n 5) (c.leave_out-5.ensures ∙ ap (λ n. remove n 6) (c.leave_out-4.ensures ∙ ap (λ n. remove n 7) (c.leave_out-3.ensures ∙ ap (λ n. remove n 8) (c.leave_out-2.ensures ∙ ap (λ n. remove n 9) (c.leave_out.ensures ∙ ap (λ n. remove n 12) c.in_ok-spaces.ensures.made))))))
