use Rattle.std.proofs.Common.{ℕ, zero, suc, ◌<◌, ◌+◌, List, [], ◌∷◌, ◌++◌, map, length, sym, ◌∙◌, ap, subst, length-append}
use Rattle.pil_ast.specs.Tree.{line}
use Rattle.pil_ast.specs.Term.{body_of, inter_at}
use Rattle.pil_ast.specs.Sound.{NamesOnly}
use Rattle.pil_ast.specs.declared.tree.Item.{Item}
use Rattle.pil_cycles.proofs.tests.namespace.Goals as goal

pushed : (P : ℕ → Type 0) (items : List Item) (item : Item) → ((k : ℕ) → NamesOnly P (inter_at (map line items) k)) → NamesOnly P (body_of (line item)) → (k : ℕ) → NamesOnly P (inter_at (map line (items ++ item ∷ [])) k)
pushed P [] item h this zero = this
pushed P [] item h this (suc k) = tt
pushed P (x ∷ xs) item h this zero = h zero
pushed P (x ∷ xs) item h this (suc k) = pushed P xs item (λ j. h (suc j)) this k

pub loop-item-preserved : goal.loop-item-preserved
loop-item-preserved c = (
  ap length c.in_ok-push.ensures.ok ∙ length-append c.loop-item.items _ ∙ ap (λ n. n + 1) c.loop-item.invariant.0,
  subst (λ s. (k : ℕ) → NamesOnly (λ j. j < c.args.count) (inter_at (map line s) k)) (sym c.in_ok-push.ensures.ok)
      (pushed (λ j. j < c.args.count) c.loop-item.items _ c.loop-item.invariant.1 c.in_ok-sum_of.ensures),
)
