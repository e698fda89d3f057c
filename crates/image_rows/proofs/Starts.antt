-- Segments in ascending order start one after the other.
use Rattle.std.proofs.Common.{◌≡◌, ◌+◌, ◌<◌, ◌≤◌, ◌⊎◌, ⊎_elim, ℕ, List, length, get_or, ap, ◌∙◌, sym, arith}
use Rattle.std.specs.Prelude.{AllPairs}
use Rattle.std.proofs.lemmas.Bool.{cases_lt}
use Rattle.std.proofs.lemmas.List.{get_or_default}
use Rattle.rv_model.specs.Image.{Seg, EndsBefore}

pub starts_after : (segments : List Seg) (i j : ℕ) (d e : Seg) → AllPairs EndsBefore segments → i ≤ j → j < length segments → (get_or segments i d).start ≤ (get_or segments j e).start
starts_after segments i j d e ascending le lt =
    let same : (get_or segments i d).start ≡ (get_or segments i e).start = ap (λ (s : Seg). s.start) (get_or_default segments i d e (omega arith)) in
    ⊎_elim (λ less. let h = ascending i j e less lt in omega arith)
    (λ from. let is : i ≡ j = omega arith in let at = ap (λ k. (get_or segments k e).start) is in omega arith) (cases_lt i j)
