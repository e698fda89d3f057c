use Rattle.std.proofs.Common.{ℕ, ◌<◌, List, [], ◌∷◌, ◌++◌, Option, length, arith, ◌∙◌, ap, sym}
use Rattle.pil_names.specs.Shown.{draft}
use Rattle.pil_meaning.specs.Meaning.{constant_columns, committed_columns}
use Rattle.pil_meaning.specs.Firsts.{first_of}
use Rattle.pil_meaning.proofs.Columns.{sum-more, sum-within, firsts-more}
use Rattle.pil_meaning.proofs.firsts.firsts_of_home.Goals as goal

pub overflow_add-constants : goal.overflow_add-constants
overflow_add-constants c =
    let xs = c.args.items.now in
    omega (arith, sum-within constant_columns xs c.loop-item.item-index c.item-item.result (omega arith) c.item-item.is, c.loop-item.invariant.1, c.constant_columns-constants.ensures, c.requires)

pub committed_columns-committed-requires : goal.committed_columns-committed-requires
committed_columns-committed-requires c =
    let xs = c.args.items.now in
    omega (arith, sum-within committed_columns xs c.loop-item.item-index c.item-item.result (omega arith) c.item-item.is, c.requires)

pub overflow_add-committed : goal.overflow_add-committed
overflow_add-committed c =
    let xs = c.args.items.now in
    omega (arith, sum-within committed_columns xs c.loop-item.item-index c.item-item.result (omega arith) c.item-item.is, c.loop-item.invariant.2, c.committed_columns-committed.ensures, c.requires)

pub loop-item-preserved : goal.loop-item-preserved
loop-item-preserved c =
    let xs = c.args.items.now in
    let i = c.loop-item.item-index in
    let x = c.item-item.result in
    let l : i < length xs = omega arith in
    let a = c.loop-item.constants in
    let b = c.loop-item.committed in (
      c.in_ok-push.ensures.ok
          ∙ ap (λ (o : Option ℕ). c.loop-item.firsts ++ o ∷ []) c.first_of.ensures
          ∙ ap (λ (s : List (Option ℕ)). s ++ first_of a b (draft x) ∷ []) c.loop-item.invariant.0
          ∙ sym (firsts-more xs i x a b l c.item-item.is c.loop-item.invariant.1 c.loop-item.invariant.2),
      omega (arith, c.loop-item.invariant.1, c.constant_columns-constants.ensures, sum-more constant_columns xs i x l c.item-item.is),
      omega (arith, c.loop-item.invariant.2, c.committed_columns-committed.ensures, sum-more committed_columns xs i x l c.item-item.is),
    )
