use Rattle.std.proofs.Common.{ℕ, ◌≡◌, ◌+◌, ◌∷◌, [], Some, slice_get, length, length-append, ◌∙◌, ap, sym, subst, arith}
use Rattle.std.proofs.lemmas.List.{length-map}
use Rattle.pil_ast.specs.Tree.{namespace, namespaces}
use Rattle.pil_program.specs.declared.compiling.Program.{Program}
use Rattle.pil_program.specs.Program.{IsProgramOf}
use Rattle.pil_checker.proofs.Grown.{programs-more, few-spaces}
use Rattle.pil_checker.proofs.placing.programs_of.Goals as goal

pub overflow_cast-space-end : goal.overflow_cast-space-end
overflow_cast-space-end c =
    let few = few-spaces (namespaces c.args.pil.now) c.requires.sound in
    let long = length-map c.args.pil.now.spaces namespace in
    let e = c.len-space-end.ensures in
    omega arith

pub loop-space-preserved : goal.loop-space-preserved
loop-space-preserved c =
    let old = c.loop-space.programs.items in
    let same = c.in_ok-push.ensures.items in
    record {
      long = ap length same ∙ length-append old (c.in_ok-new.field-0 ∷ []) ∙ ap (λ n. n + 1) c.loop-space.invariant.long;
      each = subst (λ ps. (s : ℕ) (p : Program) → slice_get ps s ≡ Some p → IsProgramOf (namespaces c.args.pil.now) s p.nodes p.here p.next) (sym same)
          (programs-more (namespaces c.args.pil.now) old c.loop-space.space c.in_ok-new.field-0 c.loop-space.invariant.long c.loop-space.invariant.each c.in_ok-new.ensures);
    }
