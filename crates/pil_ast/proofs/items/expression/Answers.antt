use Rattle.std.proofs.Common.{refl, sym, subst, MatchOption}
use Rattle.pil_ast.specs.Tree.{term}
use Rattle.pil_ast.specs.Term.{Line}
use Rattle.pil_ast.specs.Sound.{IsBody, IsNoBody}
use Rattle.pil_ast.proofs.Trees.{item_at-found, item_at-none}
use Rattle.pil_ast.proofs.items.expression.Goals as goal

pub returns-in-Some : goal.returns-in-Some
returns-in-Some c =
    let P : Line → Type 0 = λ l. MatchOption c.body.result (IsNoBody l) (λ e. IsBody l (term e.now)) in
    subst P (sym (item_at-found c.args.items.now c.args.item c.in-Some.item.now (sym c.in-Some.ensures))) c.body.ensures

pub returns-in-None : goal.returns-in-None
returns-in-None c = subst IsNoBody (sym (item_at-none c.args.items.now c.args.item (sym c.in-None.ensures))) ((λ w. w), refl)
