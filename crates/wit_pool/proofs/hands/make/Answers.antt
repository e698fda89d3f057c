use Rattle.std.proofs.Common.{◌++◌, ◌∷◌, [], ap, ◌∙◌}
use Rattle.wit_pool.proofs.hands.make.Goals as goal

pub returns : goal.returns
returns c = λ n halts. c.in_ok-push.ensures.items ∙ ap (λ t. c.args.done.now.items ++ t ∷ []) (c.in_ok-table.ensures n (c.requires.whole n halts))
