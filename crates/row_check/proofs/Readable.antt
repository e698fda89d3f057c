-- The small text of the test can be read.
use Rattle.std.proofs.Common.{ℕ, zero, suc, ◌<◌, ◌≡◌, List, [], ◌∷◌, ◌++◌, None, map, refl, ap, ◌∙◌, arith, All}
use Rattle.std.proofs.lemmas.List.Elements.{All-nil, All-cons}
use Rattle.pil_ast.specs.Term.{Line, commit, inter_at, space_at}
use Rattle.pil_ast.specs.Sound.{IsItem, IsSpace, IsSound, NamesOnly}
use Rattle.row_check.specs.Small.{small_line, small_items, small_text}

falling : (k : ℕ) → NamesOnly (λ j. 0 < 0) (inter_at small_items k)
falling zero = tt
falling (suc zero) = tt
falling (suc (suc k)) = tt

space : (s : ℕ) → s < 1 → IsSpace small_text s (space_at small_text s)
space zero h = record {
  some_rows = omega arith;
  few_rows = omega arith;
  items =
      All-cons (IsItem small_text 0) (commit [] None) (small_line ∷ []) tt
      (All-cons (IsItem small_text 0) small_line [] (omega arith, (refl, omega arith), ((refl, omega arith), omega arith)) (All-nil (IsItem small_text 0)));
  acyclic = ((λ k. 0), record { bounded = λ k. omega arith; falling = falling });
}
space (suc s) h = absurd (omega arith)

pub sound : IsSound small_text
sound = record { spaces = space; signs = omega arith }

-- two items, put one after the other
pub two : {X Y : Type 0} (h : X → Y) (s0 s1 s2 : List X) (a b : X) → s0 ≡ [] → s1 ≡ s0 ++ a ∷ [] → s2 ≡ s1 ++ b ∷ [] → map h s2 ≡ h a ∷ h b ∷ []
two h s0 s1 s2 a b e0 e1 e2 = ap (map h) e2 ∙ ap (λ s. map h (s ++ b ∷ [])) e1 ∙ ap (λ s. map h ((s ++ a ∷ []) ++ b ∷ [])) e0

pub same_items : (a b : Line) → a ≡ commit [] None → b ≡ small_line → a ∷ b ∷ [] ≡ small_items
same_items a b e f = ap (λ x. x ∷ b ∷ []) e ∙ ap (λ x. commit [] None ∷ x ∷ []) f
