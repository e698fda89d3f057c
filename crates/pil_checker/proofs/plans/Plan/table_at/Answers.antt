use Rattle.std.proofs.Common.{◌∙◌, ap}
use Rattle.pil_ast.specs.Tree.{namespaces, tuples, line}
use Rattle.pil_ast.specs.Term.{item_at}
use Rattle.pil_ast.specs.Holds.{lines}
use Rattle.pil_laws.proofs.Lines.{item-found}
use Rattle.pil_checker.specs.Programs.{nodes_at}
use Rattle.pil_checker.proofs.Elements.{read-found}
use Rattle.pil_checker.proofs.Lined.{table-known, match-more}
use Rattle.pil_checker.proofs.plans.Plan.table_at.Goals as goal

pub returns-then-same_list : goal.returns-then-same_list
returns-then-same_list c =
    let ns = namespaces c.args.pil.now in
    let plan = c.args.self.now in
    let k = c.args.number in
    let check = read-found plan.checks.items k c.index.result.now c.requires.inside c.index.ensures in
    match-more c.table_of_check.result _ _
    (λ t at d tabled. table-known ns d (nodes_at plan.programs.items) plan.tables.items c.index.result.now (item_at (lines ns) k) t (tuples c.in-Lookup.left) (tuples c.in-Lookup.other) (tuples c.args.right.now)
    (c.requires.planned.checks k c.index.result.now check) (tabled k c.index.result.now check) at
    (item-found (lines ns) k (line c.line_at.result.now) c.line_at.ensures ∙ ap line c.in-Lookup.is) (c.same_list.ensures c.if-same_list.true)) c.table_of_check.ensures
