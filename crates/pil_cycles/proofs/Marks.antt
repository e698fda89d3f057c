-- Verdicts that are written.
use Rattle.std.proofs.Common.{ℕ, ◌≡◌, ◌<◌, ◌+◌, cond, ◌⊎◌, inl, inr, List, [], ◌∷◌, ◌++◌, length, get_or, set, refl, sym, ◌∙◌, ap, subst, arith, slice_get, Some, Contains, length-append, length-set}
use Rattle.std.proofs.lemmas.Bool.{cases_eq}
use Rattle.std.proofs.lemmas.Option.{slice_get_within, slice_get-get_or, get_or_from_slice_get}
use Rattle.std.proofs.lemmas.List.Elements.{Contains-append_left, Contains-push, Contains-push_cases}
use Rattle.std.proofs.lemmas.List.Sums.{sum_by-set}
use Rattle.pil_cycles.specs.declared.components.Verdict.{Verdict}
use Rattle.pil_cycles.specs.declared.components.Verdict.TheVariants.{Unknown, Free, Cyclic}
use Rattle.pil_cycles.specs.Verdicts.{IsUnknown, IsCyclic, IsKnown, IsMarked, is_unknown, unknown_count}
use Rattle.pil_cycles.proofs.Lists.{slice_get-set_same, slice_get-set_other, nothing_in}

pub not_both : (verdicts : List Verdict) (k : ℕ) → IsKnown verdicts k → IsUnknown verdicts k → ⊥
not_both verdicts k known u = elim known as (λ x. ⊥) [ inl e ↦ let n : ⊥ = cc in n | inr e ↦ let n : ⊥ = cc in n ]

pub known_where : (verdicts : List Verdict) (k : ℕ) → k < length verdicts → ¬ IsUnknown verdicts k → IsKnown verdicts k
known_where verdicts k fits not_u = of (get_or verdicts k Unknown) (slice_get-get_or verdicts k Unknown fits)
  where
    of : (v : Verdict) → slice_get verdicts k ≡ Some v → IsKnown verdicts k
    of Unknown e = absurd (not_u e)
    of Free e = inl e
    of Cyclic e = inr e

pub known_same : (old now : List Verdict) (k : ℕ) → slice_get now k ≡ slice_get old k → IsKnown old k → IsKnown now k
known_same old now k same known = elim known as (λ x. IsKnown now k) [ inl e ↦ inl (same ∙ e) | inr e ↦ inr (same ∙ e) ]

pub unknown_count-set : (verdicts : List Verdict) (k : ℕ) (v : Verdict) → is_unknown v ≡ is_unknown Free → IsUnknown verdicts k → unknown_count (set verdicts k v) + 1 ≡ unknown_count verdicts
unknown_count-set verdicts k v not_u e =
    let fits : k < length verdicts = slice_get_within verdicts k Unknown e in
    let was : get_or verdicts k Unknown ≡ Unknown = get_or_from_slice_get verdicts k Unknown Unknown e in
    let one : Verdict → ℕ = λ s. cond (is_unknown s) 1 0 in
    let before : one (get_or verdicts k Unknown) ≡ 1 = ap one was in
    let after : one v ≡ 0 = ap (λ b. cond b 1 0) not_u in
    let sum : unknown_count (set verdicts k v) + one (get_or verdicts k Unknown) ≡ unknown_count verdicts + one v = sum_by-set one verdicts k v Unknown fits in
    omega (arith, before, after, sum)

pub marks_none : (verdicts : List Verdict) (todo : List ℕ) → IsMarked [] verdicts verdicts todo todo
marks_none verdicts todo = record {
  long = refl;
  all = λ k on. absurd (nothing_in k on);
  each = λ k. inl refl;
  kept = λ k on. on;
  only = λ k on. inl on;
  size = refl;
}

-- one that is judged already
pub marks_known : (list : List ℕ) (old now : List Verdict) (todo more : List ℕ) (item : ℕ) → IsMarked list old now todo more → item < length old → ¬ IsUnknown now item → IsMarked (list ++ item ∷ []) old now todo more
marks_known list old now todo more item h fits not_u = record {
  long = h.long;
  all = λ k on. elim (Contains-push_cases list item k on) as (λ u. IsKnown now k) [
    | inl c ↦ h.all k c
    | inr e ↦ subst (λ x. IsKnown now x) e (known_where now item (omega (arith, h.long)) not_u)
  ];
  each = λ k. elim (h.each k) as (λ u. (slice_get now k ≡ slice_get old k) ⊎ (IsUnknown old k × IsCyclic now k × Contains (list ++ item ∷ []) k × Contains more k)) [
    | inl e ↦ inl e
    | inr w ↦ inr (w.0, w.1, Contains-append_left list (item ∷ []) k w.2, w.3)
  ];
  kept = h.kept;
  only = λ k on. elim (h.only k on) as (λ u. Contains todo k ⊎ (IsUnknown old k × Contains (list ++ item ∷ []) k)) [
    | inl c ↦ inl c
    | inr w ↦ inr (w.0, Contains-append_left list (item ∷ []) k w.1)
  ];
  size = h.size;
}

-- one that is marked now
pub marks_new : (list : List ℕ) (old now : List Verdict) (todo more longer : List ℕ) (item : ℕ) → IsMarked list old now todo more → IsUnknown now item → longer ≡ more ++ item ∷ [] → IsMarked (list ++ item ∷ []) old (set now item Cyclic) todo longer
marks_new list old now todo more longer item h new same = subst (λ s. IsMarked (list ++ item ∷ []) old (set now item Cyclic) todo s) (sym same) record {
  long = length-set now _ _ ∙ h.long;
  all = λ k on. elim (cases_eq k item) as (λ u. IsKnown (set now item Cyclic) k) [
    | inl e ↦ inr (marked k e)
    | inr ne ↦ elim (Contains-push_cases list item k on) as (λ u. IsKnown (set now item Cyclic) k) [
      | inl c ↦ known_same now (set now item Cyclic) k (slice_get-set_other now item k Cyclic ne) (h.all k c)
      | inr e ↦ absurd (ne (sym e))
    ]
  ];
  each = λ k. elim (cases_eq k item) as (λ u. (slice_get (set now item Cyclic) k ≡ slice_get old k) ⊎ (IsUnknown old k × IsCyclic (set now item Cyclic) k × Contains (list ++ item ∷ []) k × Contains (more ++ item ∷ []) k)) [
    | inl e ↦ inr (was k e, marked k e, subst (λ x. Contains (list ++ item ∷ []) x) (sym e) (Contains-push list item), subst (λ x. Contains (more ++ item ∷ []) x) (sym e) (Contains-push more item))
    | inr ne ↦ elim (h.each k) as (λ u. (slice_get (set now item Cyclic) k ≡ slice_get old k) ⊎ (IsUnknown old k × IsCyclic (set now item Cyclic) k × Contains (list ++ item ∷ []) k × Contains (more ++ item ∷ []) k)) [
      | inl e ↦ inl (slice_get-set_other now item k Cyclic ne ∙ e)
      | inr w ↦ inr (w.0, slice_get-set_other now item k Cyclic ne ∙ w.1, Contains-append_left list (item ∷ []) k w.2, Contains-append_left more (item ∷ []) k w.3)
    ]
  ];
  kept = λ k on. Contains-append_left more (item ∷ []) k (h.kept k on);
  only = λ k on. elim (Contains-push_cases more item k on) as (λ u. Contains todo k ⊎ (IsUnknown old k × Contains (list ++ item ∷ []) k)) [
    | inl c ↦ elim (h.only k c) as (λ u. Contains todo k ⊎ (IsUnknown old k × Contains (list ++ item ∷ []) k)) [
      | inl d ↦ inl d
      | inr w ↦ inr (w.0, Contains-append_left list (item ∷ []) k w.1)
    ]
    | inr e ↦ inr (was k (sym e), subst (λ x. Contains (list ++ item ∷ []) x) e (Contains-push list item))
  ];
  size =
      let fewer = unknown_count-set now item Cyclic refl new in
      let long : length (more ++ item ∷ []) ≡ length more + 1 = length-append more (item ∷ []) in
      let before = h.size in
      omega arith;
}
  where
    marked : (k : ℕ) → k ≡ item → IsCyclic (set now item Cyclic) k
    marked k e = subst (λ x. IsCyclic (set now item Cyclic) x) (sym e) (slice_get-set_same now item Cyclic (slice_get_within now item Unknown new))

    was_item : IsUnknown old item
    was_item = elim (h.each item) as (λ u. IsUnknown old item) [ inl e ↦ sym e ∙ new | inr w ↦ absurd (let c : IsCyclic now item = w.1 in let n : ⊥ = cc in n) ]

    was : (k : ℕ) → k ≡ item → IsUnknown old k
    was k e = subst (λ x. IsUnknown old x) (sym e) was_item
