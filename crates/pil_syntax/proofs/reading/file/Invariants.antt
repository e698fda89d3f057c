use Rattle.std.proofs.Common.{◌≡◌, length, map, List, []}
use Rattle.pil_syntax.specs.Grammar.{limits}
use Rattle.pil_syntax.specs.Shown.{sentence}
use Rattle.pil_syntax.specs.Tree.{Sentence}
use Rattle.pil_syntax.specs.State.{between}
use Rattle.pil_syntax.specs.Machine.{run, has_namespace}
use Rattle.pil_syntax.proofs.reading.file.Given as goal

abbrev pub invariant-each : goal.invariant-each
invariant-each l = record {
  reads : let d : List Sentence = [] in run limits d between l.fn.tokens ≡ run limits (map sentence l.statements) between l.rest;
  begun : has_namespace (map sentence l.statements) ≡ l.begun;
}

abbrev pub decreases-each : goal.decreases-each
decreases-each l = length l.rest
