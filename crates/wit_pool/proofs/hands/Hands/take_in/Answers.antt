use Rattle.std.proofs.Common.{◌≡◌, ◌++◌, arith}
use Rattle.std.proofs.lemmas.Grind.{common_steps}
use Rattle.wit_pool.specs.Serving.{shares_of, pushed_of}
use Rattle.wit_pool.proofs.Results.{or_false}
use Rattle.wit_pool.proofs.Serves.{took_in}
use Rattle.wit_pool.proofs.hands.Hands.take_in.Goals as goal

pub returns : goal.returns
returns c =
    let a = c.args.self in let b = c.args.other in
    took_in c.args.queue.now (shares_of a) (pushed_of a) a b _ c.requires.serves c.requires.other c.join-pass.ensures.queue c.join-pass.ensures.view
    (λ e.
    let x = or_false _ c.is_err-lacks.result e in let y = or_false a.short b.short x.0 in
    let fine = x.1 in
    let items : c.append.new.self.items ≡ a.done.items ++ b.done.items = grind (arith, common_steps) in
    (y.0, y.1, items))
