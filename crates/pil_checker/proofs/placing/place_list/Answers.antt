use Rattle.std.proofs.Common.{map, refl, subst}
use Rattle.pil_ast.specs.Tree.{term}
use Rattle.instance_pass.specs.Senders.{AllCompute}
use Rattle.pil_ast.specs.Tree.{namespaces, tuples}
use Rattle.instance_pass.specs.Senders.{selector}
use Rattle.pil_checker.specs.Programs.{nodes_at}
use Rattle.pil_checker.proofs.Grown.{computes-kept, placing-both}
use Rattle.pil_checker.proofs.placing.place_list.Goals as goal

pub returns-clause-sender : goal.returns-clause-sender
returns-clause-sender c =
    let ns = namespaces c.args.pil.now in
    let s = c.args.list.now.space in
    record {
      space = refl;
      sel = computes-kept ns s (nodes_at c.place_selector.new.programs.items s) (nodes_at c.place_terms.new.programs.items s) 0 (selector (tuples c.args.list.now).sel) c.in_ok-sel.sel (c.in_ok-terms.ensures.placing.grows s) c.in_ok-sel.ensures.computes;
      terms = subst (λ es. AllCompute ns s (nodes_at c.place_terms.new.programs.items s) (map term es) c.in_ok-terms.terms) c.as_slice.ensures c.in_ok-terms.ensures.computes;
    }

pub returns-clause-placing : goal.returns-clause-placing
returns-clause-placing c =
    placing-both (namespaces c.args.pil.now) c.args.programs.now.items c.place_selector.new.programs.items c.place_terms.new.programs.items c.in_ok-sel.ensures.placing c.in_ok-terms.ensures.placing
