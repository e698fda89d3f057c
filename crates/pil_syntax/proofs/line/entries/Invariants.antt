use Rattle.std.proofs.Common.{◌≡◌, ◌≤◌, ℕ, length, map, List, []}
use Rattle.pil_syntax.specs.Grammar.{limits}
use Rattle.pil_syntax.specs.Shown.{term}
use Rattle.pil_syntax.specs.Tree.{Term, Filter, Sentence}
use Rattle.pil_syntax.specs.State.{Joint, entering}
use Rattle.pil_syntax.specs.Machine.{run}
use Rattle.pil_syntax.proofs.line.entries.Given as goal

abbrev pub invariant-each : goal.invariant-each
invariant-each l = record {
  leads : (d : List Sentence) (j : Joint) (f : Filter) (i : ℕ) → let es : List Term = [] in run limits d (entering j f i es) l.fn.tokens ≡ run limits d (entering j f i (map term l.entries)) l.rest;
  shorter : length l.rest ≤ length l.fn.tokens;
}

abbrev pub decreases-each : goal.decreases-each
decreases-each l = length l.rest
