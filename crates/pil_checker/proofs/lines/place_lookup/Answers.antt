use Rattle.pil_ast.specs.Tree.{namespaces, tuples}
use Rattle.pil_checker.specs.Programs.{nodes_at}
use Rattle.pil_checker.proofs.Grown.{placing-both, sender-kept}
use Rattle.pil_checker.proofs.lines.place_lookup.Goals as goal

pub returns-clause-placing : goal.returns-clause-placing
returns-clause-placing g c =
    placing-both (namespaces c.args.pil.now) c.args.programs.now.items c.place_list.new.programs.items c.table_for.new.programs.items c.in_ok-from.ensures.placing c.in_ok-table.ensures.placing

pub returns-clause-check : goal.returns-clause-check
returns-clause-check g c =
    let s = c.args.left.now.space in (
      c.in_ok-table.ensures.table.0,
      sender-kept (namespaces c.args.pil.now) (nodes_at c.place_list.new.programs.items s) (nodes_at c.table_for.new.programs.items s) (tuples c.args.left.now) c.in_ok-from.from (c.in_ok-table.ensures.placing.grows s) c.in_ok-from.ensures.sender,
    )
