-- The steps by which a plan is made.
use Rattle.std.proofs.Common.{ℕ, ◌≡◌, ◌<◌, ◌≤◌, ◌+◌, Bool, false, not, inl, inr, List, [], ◌∷◌, ◌++◌, length, get_or, set, take, refl, sym, ◌∙◌, ap, subst, arith, slice_get, Some, All, Contains}
use Rattle.std.proofs.lemmas.Bool.{cases_eq}
use Rattle.std.proofs.lemmas.Option.{slice_get-get_or}
use Rattle.std.proofs.lemmas.List.{take_more, map-append, get_or-set_same, get_or-set_other, take_all}
use Rattle.std.proofs.lemmas.List.Elements.{All-nil, All-push, Contains-push_cases}
use Rattle.pil_ast.specs.declared.turns.Turn.{Turn}
use Rattle.pil_ast.specs.Term.{Line, inter_at}
use Rattle.pil_ast.specs.Sound.{NamesOnly, IsAcyclic}
use Rattle.pil_ast.specs.Written.{marked, marked_at, marked_by}
use Rattle.pil_ast.specs.Order.{IsOrder, IsWhole}
use Rattle.pil_ast.specs.Turns.{IsPlan, items_of, is_marked}
use Rattle.pil_ast.proofs.Parts.{names_weaker}
use Rattle.pil_ast.proofs.Fuel.{marked_by-same, inter_mark-is}

-- the turns are those of the first n items, whose marks are kept
pub record PlansUpTo (items : List Line) (order : List ℕ) (n : ℕ) (turns : List Turn) (marks : List Bool) : Type 0 where
  pub same : items_of turns ≡ take n order
  pub aheads : All (λ t. t.ahead ≡ not (marked items (inter_at items t.item))) turns
  pub kept : (k : ℕ) → Contains (take n order) k → is_marked marks k ≡ marked items (inter_at items k)

pub plans-none : (items : List Line) (order : List ℕ) (turns : List Turn) (marks : List Bool) → turns ≡ [] → PlansUpTo items order 0 turns marks
plans-none items order turns marks e =
    subst (λ t. PlansUpTo items order 0 t marks) (sym e)
    record {
      same = refl;
      aheads = All-nil (λ t. t.ahead ≡ not (marked items (inter_at items t.item)));
      kept = λ k on. let l : on.0 < 0 = on.1 in absurd (omega arith);
    }

pub plans-more : (items : List Line) (order : List ℕ) (n k : ℕ) (turns more : List Turn) (marks : List Bool) (mark : Bool) → IsAcyclic items → IsOrder items order → length marks ≡ length items → PlansUpTo items order n turns marks → n < length order → k ≡ get_or order n k → mark ≡ marked_by (is_marked marks) (inter_at items k) → more ≡ turns ++ record { item = k; ahead = not mark } ∷ [] → PlansUpTo items order (n + 1) more (set marks k mark)
plans-more items order n k turns more marks mark acyclic ordered long h l at is longer =
    let here : slice_get order n ≡ Some k = slice_get-get_or order n k l ∙ ap Some (sym at) in
    let inside : k < length items = subst (λ i. i < length items) (sym at) (ordered.inside n k l) in
    let fits : k < length marks = omega arith in
    let agree : NamesOnly (λ j. is_marked marks j ≡ marked_at items (length items) (inter_at items j)) (inter_at items k) =
    names_weaker (Contains (take n order)) (λ j. is_marked marks j ≡ marked_at items (length items) (inter_at items j)) (λ j on. h.kept j on ∙ sym (inter_mark-is items acyclic.0 j acyclic.1)) (inter_at items k) (ordered.after n k here) in
    let right : mark ≡ marked items (inter_at items k) = is ∙ marked_by-same (is_marked marks) (λ j. marked_at items (length items) (inter_at items j)) (inter_at items k) agree in
    let next : take (n + 1) order ≡ take n order ++ k ∷ [] = take_more order n k l ∙ ap (λ i. take n order ++ i ∷ []) (sym at) in
    let written : is_marked (set marks k mark) k ≡ marked items (inter_at items k) = get_or-set_same marks k mark false fits ∙ right in
    let P : ℕ → Type 0 = λ i. is_marked (set marks k mark) i ≡ marked items (inter_at items i) in
    subst (λ t. PlansUpTo items order (n + 1) t (set marks k mark)) (sym longer)
    record {
      same = map-append (λ t. t.item) turns (record { item = k; ahead = not mark } ∷ []) ∙ ap (λ s. s ++ k ∷ []) h.same ∙ sym next;
      aheads = All-push (λ t. t.ahead ≡ not (marked items (inter_at items t.item))) turns (record { item = k; ahead = not mark }) h.aheads (ap not right);
      kept = λ i on. elim (cases_eq i k) [
        | inl e ↦ subst P (sym e) written
        | inr ne ↦
            let on' : Contains (take n order ++ k ∷ []) i = subst (λ s. Contains s i) next on in
            elim (Contains-push_cases (take n order) k i on') [
              | inl before ↦ get_or-set_other marks k i mark false ne ∙ h.kept i before
              | inr e ↦ absurd (ne (sym e))
            ]
      ];
    }

pub plans-all : (items : List Line) (order : List ℕ) (n : ℕ) (turns : List Turn) (marks : List Bool) → IsWhole items order → PlansUpTo items order n turns marks → length order ≤ n → IsPlan items turns
plans-all items order n turns marks whole h past =
    let same : items_of turns ≡ order = h.same ∙ take_all n order past in
    record { whole = subst (IsWhole items) (sym same) whole; marks = h.aheads }
