use Rattle.std.proofs.Common.{ℕ, ◌≡◌, ◌<◌, ◌+◌, List, [], ◌∷◌, ◌++◌, length, map, take, sum_by, Bor, ap, sym, ◌∙◌, arith}
use Rattle.pil_ast.specs.declared.tree.Item.{Item}
use Rattle.pil_ast.specs.Tree.{line}
use Rattle.pil_ast.specs.Term.{columns_of}
use Rattle.pil_print.specs.Tables.{firsts_from}
use Rattle.pil_print.proofs.Starts.{firsts-more, sum-more}
use Rattle.pil_print.proofs.tables.first_columns.Goals as goal

pub loop-item-preserved : goal.loop-item-preserved
loop-item-preserved c =
    let xs = c.args.items.now in
    let i = c.loop-item.item-index in
    let x = c.item-item.result in
    let l : i < length xs = omega arith in
    let zero : c.loop-item.columns ≡ 0 + sum_by (λ (j : Bor Item). columns_of (line j.now)) (take i xs) = omega (arith, c.loop-item.invariant.columns) in
    record {
      firsts = c.in_ok-push.ensures.ok
          ∙ (ap (λ (s : List ℕ). s ++ c.loop-item.columns ∷ []) c.loop-item.invariant.firsts
          ∙ (ap (λ (n : ℕ). firsts_from 0 (map (λ (j : Bor Item). line j.now) (take i xs)) ++ n ∷ []) zero ∙ sym (firsts-more (λ (j : Bor Item). line j.now) 0 xs i x l c.item-item.is)));
      columns = omega (arith, c.loop-item.invariant.columns, c.columns_of-columns.ensures, sum-more (λ (j : Bor Item). columns_of (line j.now)) xs i x l c.item-item.is);
    }
