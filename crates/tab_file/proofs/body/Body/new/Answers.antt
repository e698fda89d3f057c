use Rattle.std.proofs.Common.{sym, ap, subst, ◌≡◌, ◌∙◌, [], ℕ, List, length, drop}
use Rattle.tab_file.specs.Parts.{Done}
use Rattle.tab_file.proofs.Bodies.{Done-none}
use Rattle.tab_file.proofs.body.Body.new.Goals as goal

pub returns-clause-stands : goal.returns-clause-stands
returns-clause-stands c file rest le stands =
    let n = length c.args.airs.items in
    c.in_ok-begin.ensures.stands file n c.args.at _ [] [] rest (sym (ap length c.new.ensures.airs)) (sym c.new.ensures.all)
    (subst (λ (m : ℕ). Done file n c.args.at m [] []) (sym c.none.ensures.at) (Done-none file n c.args.at le)) (ap (λ (m : ℕ). drop m file) c.none.ensures.at ∙ stands)
