-- Lists in order, and where a search in them ends.
use Rattle.std.proofs.Common.{ℕ, ◌+◌, ◌<◌, ◌≤◌, ◌≡◌, ◌≢◌, false, inl, inr, List, [], ◌∷◌, length, get_or, refl, sym, ap, subst, ◌∙◌, arith}
use Rattle.std.specs.Global.{Vec}
use Rattle.std.specs.Ordering.{nat_cmp, is_lt, is_eq, ordering_reverse}
use Rattle.std.specs.declared.cmp.Ordering.{Ordering}
use Rattle.std.specs.declared.cmp.Ordering.TheVariants.{Less, Equal, Greater}
use Rattle.std.specs.Cmp.Lexicographic.{slice_cmp}
use Rattle.std.specs.List.Sorted.{IsSortedBy}
use Rattle.std.proofs.lemmas.List.{get_or-map, get_or_default}
use Rattle.std.proofs.lemmas.Bool.{cases_lt, true≢false}
use Rattle.std.proofs.lemmas.Cmp.{nat_list_cmp_total}
use Rattle.std.proofs.lemmas.Map.Lookups.{exact_bytes}
use Rattle.std.proofs.lemmas.Map.Text.{is_eq-slice_cmp}
use Rattle.pil_ast.specs.Holds.{times}
use Rattle.pil_ast.specs.Broken.{ComesBefore}
use Rattle.bus_check.specs.Bus.{numbers, Ascend}
use Rattle.pil_laws.proofs.Times.{times_nowhere, times_somewhere}
use Rattle.bus_check.proofs.Times.{numbers-long}
use Rattle.bus_check.proofs.Least.{rises, turned, before-through}

-- the order in which the vectors stand
abbrev pub Stand : List (Vec ℕ) → Type 0
Stand vs = IsSortedBy (λ v w. is_lt (slice_cmp nat_cmp v.items w.items)) vs

pub ascend-from : (vs : List (Vec ℕ)) → Stand vs → Ascend (numbers vs)
ascend-from [] up = λ k d a b. absurd (omega arith)
ascend-from (v ∷ vs) up = λ k d a b.
    let long = numbers-long (v ∷ vs) in
    let lower = get_or-map (λ v. v.items) (v ∷ vs) k v d (omega arith) in
    let upper = get_or-map (λ v. v.items) (v ∷ vs) (k + 1) v d (omega arith) in
    subst (λ x. is_lt (slice_cmp nat_cmp x (get_or (numbers (v ∷ vs)) k d)) ≡ false) (sym upper)
    (subst (λ x. is_lt (slice_cmp nat_cmp (get_or (v ∷ vs) (k + 1) v).items x) ≡ false) (sym lower) (up k v a (omega arith)))

-- what isn't greater than one that comes before u comes before u
through-below : (x y u : List ℕ) (o : Ordering) → slice_cmp nat_cmp y x ≡ o → is_lt o ≡ false → ComesBefore y u → ComesBefore x u
through-below x y u Less e h b = absurd (true≢false h)
through-below x y u Equal e h b = subst (λ z. ComesBefore z u) (exact_bytes y x e) b
through-below x y u Greater e h b = nat_list_cmp_total.trans x y u (nat_list_cmp_total.antisymm x y ∙ ap ordering_reverse e) b

-- a tuple is looked for from place low on, before high: those before come before it, and it before the others
pub record IsSearched (xs : List (List ℕ)) (t : List ℕ) (low high : ℕ) : Type 0 where
  pub inside : high ≤ length xs
  pub below : (k : ℕ) (d : List ℕ) → k < low → ComesBefore (get_or xs k d) t
  pub above : (k : ℕ) (d : List ℕ) → high ≤ k → k < length xs → ComesBefore t (get_or xs k d)

module _ (xs : List (List ℕ)) (t : List ℕ) where
  pub search-all : (n : ℕ) → n ≡ length xs → IsSearched xs t 0 n
  search-all n e = record { inside = omega arith; below = λ k d l. absurd (omega arith); above = λ k d l m. absurd (omega arith) }

  pub search-up : (low high m : ℕ) (d : List ℕ) → Ascend xs → IsSearched xs t low high → m < high → slice_cmp nat_cmp (get_or xs m d) t ≡ Less → IsSearched xs t (m + 1) high
  search-up low high m d up h l e = record {
    inside = h.inside;
    below = λ k b q. let i = h.inside in through-below _ _ t _ refl (rises xs up k m b (omega arith) (omega arith)) (ap (λ x. slice_cmp nat_cmp x t) (get_or_default xs m b d (omega arith)) ∙ e);
    above = h.above;
  }

  pub search-down : (low high m : ℕ) (d : List ℕ) → Ascend xs → IsSearched xs t low high → m < length xs → slice_cmp nat_cmp (get_or xs m d) t ≡ Greater → IsSearched xs t low m
  search-down low high m d up h l e = record {
    inside = omega arith;
    below = h.below;
    above = λ k b q r. before-through t _ _ _ refl (rises xs up m k b q r) (nat_list_cmp_total.antisymm t (get_or xs m b) ∙ ap ordering_reverse (ap (λ x. slice_cmp nat_cmp x t) (get_or_default xs m b d l) ∙ e));
  }

  pub search-found : (m : ℕ) (d : List ℕ) → m < length xs → slice_cmp nat_cmp (get_or xs m d) t ≡ Equal → times t xs ≢ 0
  search-found m d l e = times_somewhere t xs m d l (exact_bytes _ t e)

  pub search-missed : (low high : ℕ) → IsSearched xs t low high → high ≤ low → times t xs ≡ 0
  search-missed low high h l = times_nowhere t xs (λ k d q. sym (is_eq-slice_cmp (get_or xs k d) t) ∙ elim (cases_lt k low) [
    | inl b ↦ ap is_eq (h.below k d b)
    | inr b ↦ ap is_eq (turned (get_or xs k d) t (h.above k d (omega arith) q))
  ])
