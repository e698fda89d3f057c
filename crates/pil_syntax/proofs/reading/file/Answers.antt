use Rattle.std.proofs.Common.{◌≡◌, List, [], ◌∷◌, ◌++◌, map, Bool, ap, sym, ◌∙◌}
use Rattle.std.proofs.lemmas.List.{map-append}
use Rattle.pil_syntax.specs.Grammar.{limits}
use Rattle.pil_syntax.specs.Shown.{sentence}
use Rattle.pil_syntax.specs.Tree.{Sentence}
use Rattle.pil_syntax.specs.State.{between}
use Rattle.pil_syntax.specs.Machine.{run, has_namespace, begun_after}
use Rattle.pil_syntax.proofs.CompleteFiles.{has_after}
use Rattle.pil_syntax.proofs.reading.file.Goals as goal

pub each-preserved : goal.each-preserved
each-preserved c =
    let d = map sentence c.each.statements in
    let q = sentence c.in_ok-statement.statement in
    let s : map sentence c.push.new.self ≡ d ++ q ∷ [] = ap (map sentence) c.in_ok-push.ensures.ok ∙ map-append sentence c.each.statements (c.in_ok-statement.statement ∷ []) in
    record {
      reads = c.each.invariant.reads ∙ (c.in_ok-statement.ensures.ends d c.each.invariant.begun ∙ ap (λ (us : List Sentence). run limits us between c.in_ok-statement.after.now) (sym s));
      begun = ap has_namespace s ∙ (has_after d q ∙ (ap (λ (b : Bool). begun_after b q) c.each.invariant.begun ∙ sym c.begun_behind-begun.ensures));
    }
