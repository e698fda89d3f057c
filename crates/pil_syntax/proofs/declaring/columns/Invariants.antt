use Rattle.std.proofs.Common.{◌≡◌, ◌≤◌, length, List, []}
use Rattle.pil_syntax.specs.declared.tree.Declaration.{Declaration}
use Rattle.pil_syntax.specs.Grammar.{limits}
use Rattle.pil_syntax.specs.Tree.{Sentence}
use Rattle.pil_syntax.specs.State.{columns_word}
use Rattle.pil_syntax.specs.Machine.{run}
use Rattle.pil_syntax.proofs.declaring.columns.Given as goal

abbrev pub invariant-each : goal.invariant-each
invariant-each l = record {
  leads : (d : List Sentence) → let ds : List Declaration = [] in run limits d (columns_word l.fn.kind ds) l.fn.tokens ≡ run limits d (columns_word l.fn.kind l.declarations) l.rest;
  shorter : length l.rest ≤ length l.fn.tokens;
}

abbrev pub decreases-each : goal.decreases-each
decreases-each l = length l.rest
