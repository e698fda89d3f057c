use Rattle.std.proofs.Common.{◌<◌, ◌≡◌, ◌-◌, Some, length, slice_get, sym, ◌∙◌, ap, arith}
use Rattle.std.proofs.lemmas.Option.{slice_get-get_or}
use Rattle.std.proofs.lemmas.Result.{IfOk-weaker}
use Rattle.pil_ast.specs.Term.{item_at}
use Rattle.pil_ast.specs.Holds.{lines}
use Rattle.bus_check.proofs.Run.{compared}
use Rattle.bus_check.proofs.runs.BusRun.finish.Goals as goal

pub returns-then-before-len-clause-counts : goal.returns-then-before-len-clause-counts
returns-then-before-len-clause-counts c =
    let sides = c.args.self.now.sides.items in
    let k = c.args.line - 1 in
    let l : k < length sides = let t = c.if-before-len.true in let n = c.len.ensures in omega arith in
    let found : slice_get sides k ≡ Some c.index.result.now = slice_get-get_or sides k c.index.result.now l ∙ ap Some (sym c.index.ensures) in
    IfOk-weaker c.difference.result _ _ (λ f h ns xs stands inside is. compared ns xs (item_at (lines ns) k) c.index.result.now c.args.line f (stands.each k c.index.result.now found) is h) c.difference.ensures
