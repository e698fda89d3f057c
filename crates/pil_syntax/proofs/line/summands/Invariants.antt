use Rattle.std.proofs.Common.{◌≡◌, ◌≤◌, length, map, List}
use Rattle.pil_syntax.specs.Grammar.{limits}
use Rattle.pil_syntax.specs.Shown.{tuple}
use Rattle.pil_syntax.specs.Tree.{Tuple, Sentence}
use Rattle.pil_syntax.specs.State.{among, against, list_wanted}
use Rattle.pil_syntax.specs.Machine.{run}
use Rattle.pil_syntax.proofs.line.summands.Given as goal

abbrev pub invariant-each : goal.invariant-each
invariant-each l = record {
  left : (d : List Sentence) → run limits d (list_wanted (among (map tuple l.fn.lists))) l.fn.tokens ≡ run limits d (list_wanted (among (map tuple l.lists))) l.rest;
  right : (d : List Sentence) (ls : List Tuple) → run limits d (list_wanted (against ls (map tuple l.fn.lists))) l.fn.tokens ≡ run limits d (list_wanted (against ls (map tuple l.lists))) l.rest;
  shorter : length l.rest ≤ length l.fn.tokens;
}

abbrev pub decreases-each : goal.decreases-each
decreases-each l = length l.rest
