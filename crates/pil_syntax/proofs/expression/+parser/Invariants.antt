use Rattle.std.proofs.Common.{◌≡◌, ◌<◌, length, ◌+◌, ◌*◌, List}
use Rattle.pil_syntax.specs.Grammar.{limits}
use Rattle.pil_syntax.specs.Tree.{Sentence}
use Rattle.pil_syntax.specs.Shown.{term}
use Rattle.pil_syntax.specs.State.{Sum, Around, sum_depth, around_depth, want, have, plain, first}
use Rattle.pil_syntax.specs.Machine.{run, NoStar}
use Rattle.pil_syntax.proofs.expression.+parser.Given as goal

abbrev pub decreases-factor : goal.decreases-factor
decreases-factor l = 3 * length l.tokens.now

abbrev pub decreases-product : goal.decreases-product
decreases-product l = 3 * length l.tokens.now + 1

abbrev pub decreases-sum : goal.decreases-sum
decreases-sum l = 3 * length l.tokens.now + 2

abbrev pub invariant-product-each : goal.invariant-product-each
invariant-product-each l = record {
  leads : (d : List Sentence) (k : Sum) → sum_depth k ≡ l.fn.depth → run limits d (want (plain k) l.fn.ops) l.fn.tokens ≡ run limits d (have k (term l.value) l.count) l.rest;
  shorter : length l.rest < length l.fn.tokens;
}

abbrev pub decreases-product-each : goal.decreases-product-each
decreases-product-each l = length l.rest

abbrev pub invariant-sum-each : goal.invariant-sum-each
invariant-sum-each l = record {
  leads : (d : List Sentence) (k : Around) → around_depth k ≡ l.fn.depth → run limits d (want (plain (first k)) l.fn.ops) l.fn.tokens ≡ run limits d (have (first k) (term l.value) l.count) l.rest;
  shorter : length l.rest < length l.fn.tokens;
  ends : NoStar l.rest;
}

abbrev pub decreases-sum-each : goal.decreases-sum-each
decreases-sum-each l = length l.rest
