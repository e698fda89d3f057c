use Rattle.std.proofs.Common.{inr, refl}
use Rattle.pil_ast.specs.Tree.{namespaces}
use Rattle.pil_text.specs.Text.{Fails}
use Rattle.zk_top.proofs.Constraints.{only_text, only_fault, unless_memory}
use Rattle.zk_top.proofs.checking.constraints_of.Goals as goal

pub returns-in-Ok-clause-only : goal.returns-in-Ok-clause-only
returns-in-Ok-clause-only c = only_text c.args.text.now (namespaces c.in-Ok.pil) (c.one_answer.ensures.decided c.args.text.now) c.in-Ok.ensures.found

pub returns-in_default : goal.returns-in_default
returns-in_default c = record {
  only = tt;
  sound = tt;
  refused =
      let e = c.in-Err.e in
      let fails = unless_memory e.kind (Fails c.args.text.now e) c.in_default.not-NoMemory c.in-Err.ensures.refused in
      inr (e, refl, only_fault c.args.text.now e (c.one_answer.ensures.decided c.args.text.now) fails);
}
