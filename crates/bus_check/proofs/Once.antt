-- Each instance once, in any order, gives the counts of whole columns.
use Rattle.std.proofs.Common.{ℕ, ◌+◌, ◌<◌, ◌≡◌, ◌==◌, inl, inr, Bool, true, false, cond, List, [], ◌∷◌, ◌++◌, length, map, filter, flat_map, refl, sym, ◌∙◌, ap, arith, All}
use Rattle.std.specs.List.{range_with_len, sum_by}
use Rattle.std.proofs.lemmas.Bool.{eqb-true, eq-eqb, ne_eqb, cases_eq}
use Rattle.std.proofs.lemmas.List.Elements.{All-head, All-tail}
use Rattle.std.proofs.lemmas.List.Sums.{sum_by-cons}
use Rattle.std.proofs.lemmas.List.Sorted.{sum_by-IsPermutation}
use Rattle.pil_ast.specs.Term.{Tuples, Namespace}
use Rattle.pil_ast.specs.Columns.{Columns}
use Rattle.pil_ast.specs.Holds.{row_sent, sent, all_sent, times, AsOften}
use Rattle.pil_laws.proofs.Ranges.{ranges_same}
use Rattle.pil_laws.proofs.Times.{times_none, times_append, times_split}
use Rattle.bus_check.specs.Run.{Added, sent_from, all_sent_from, SendsAlike, instances_in, AreAllOnce}

eqb-sym : (a b : ℕ) → (a == b) ≡ (b == a)
eqb-sym a b = elim (cases_eq a b) [
  | inl e ↦ eq-eqb a b e ∙ sym (eq-eqb b a (sym e))
  | inr n ↦ ne_eqb a b n ∙ sym (ne_eqb b a (λ e. n (sym e)))
]

-- the counts of the pieces add up
times-pieces : {X : Type 0} (t : List ℕ) (f : X → List (List ℕ)) (xs : List X) → times t (flat_map f xs) ≡ sum_by (λ x. times t (f x)) xs
times-pieces t f [] = times_none t
times-pieces t f (x ∷ xs) = let a = times_append t (f x) (flat_map f xs) in let b = times-pieces t f xs in let c = sum_by-cons (λ y. times t (f y)) x xs in omega arith

times-nothing : {X : Type 0} (t : List ℕ) (xs : List X) → times t (flat_map (λ x. []) xs) ≡ 0
times-nothing t [] = times_none t
times-nothing t (x ∷ xs) = times-nothing t xs

module _ (ns : List Namespace) (c : Columns) (a : Tuples) (t : List ℕ) where
  -- what an instance of the list's namespace sends
  of_instance : ℕ → List (List ℕ)
  of_instance i = flat_map (row_sent ns c a i) (range_with_len 0 (c.rows a.space))

  alike : (x : Added) → SendsAlike ns c x → x.space ≡ a.space → flat_map (row_sent ns x.columns a x.instance) (range_with_len 0 (x.columns.rows a.space)) ≡ of_instance x.instance
  unfolding of_instance
  alike x h same =
      let long : x.columns.rows a.space ≡ c.rows a.space = ap x.columns.rows (sym same) ∙ h.rows ∙ ap c.rows same in
      ap (λ n. flat_map (row_sent ns x.columns a x.instance) (range_with_len 0 n)) long
      ∙ ranges_same (row_sent ns x.columns a x.instance) (row_sent ns c a x.instance) (c.rows a.space) 0 0 (λ k l. h.sent a (0 + k) (sym same))

  by_own : (xs : List Added) → All (SendsAlike ns c) xs → times t (flat_map (λ x. sent_from ns x a) xs) ≡ times t (flat_map of_instance (instances_in xs a.space))
  by_own [] all = refl
  by_own (x ∷ xs) all = by (x.space == a.space) refl (eqb-sym a.space x.space) (by_own xs (All-tail (SendsAlike ns c) x xs all))
    where
      rest : List (List ℕ)
      rest = flat_map (λ y. sent_from ns y a) xs

      by : (b : Bool) → (x.space == a.space) ≡ b → (a.space == x.space) ≡ (x.space == a.space) → times t rest ≡ times t (flat_map of_instance (instances_in xs a.space)) → times t (sent_from ns x a ++ rest) ≡ times t (flat_map of_instance (map (λ y. y.instance) (cond b (x ∷ filter (λ y. y.space == a.space) xs) (filter (λ y. y.space == a.space) xs))))
      by true e turned ih =
          let here : sent_from ns x a ≡ of_instance x.instance =
          ap (λ b. cond b (flat_map (row_sent ns x.columns a x.instance) (range_with_len 0 (x.columns.rows a.space))) []) (turned ∙ e)
          ∙ alike x (All-head (SendsAlike ns c) x xs all) (eqb-true x.space a.space e) in
          let l = times_append t (sent_from ns x a) rest in
          let m = times_append t (of_instance x.instance) (flat_map of_instance (instances_in xs a.space)) in
          let n = ap (times t) here in
          omega arith
      by false e turned ih =
          let here : sent_from ns x a ≡ [] = ap (λ b. cond b (flat_map (row_sent ns x.columns a x.instance) (range_with_len 0 (x.columns.rows a.space))) []) (turned ∙ e) in
          ap (λ ts. times t (ts ++ rest)) here ∙ ih

  in_order : (xs : List Added) → AreAllOnce ns c xs → a.space < length ns → times t (flat_map (λ x. sent_from ns x a) xs) ≡ times t (sent ns c a)
  unfolding sent of_instance
  in_order xs h l =
      by_own xs h.alike ∙ times-pieces t of_instance (instances_in xs a.space)
      ∙ sym (sum_by-IsPermutation (λ i. times t (of_instance i)) (instances_in xs a.space) (range_with_len 0 (c.instances a.space)) (h.once a.space l))
      ∙ sym (times-pieces t of_instance (range_with_len 0 (c.instances a.space)))

-- a sum of lists sends as often
pub once-often : (ns : List Namespace) (c : Columns) (xs : List Added) (ls : List Tuples) → AreAllOnce ns c xs → All (λ a. a.space < length ns) ls → AsOften (all_sent_from ns xs ls) (all_sent ns c ls)
unfolding all_sent
once-often ns c xs [] h all t = times-nothing t xs ∙ sym (times_none t)
once-often ns c xs (a ∷ ls) h all t =
    let split = times_split t (λ (x : Added). sent_from ns x a) (λ (x : Added). flat_map (sent_from ns x) ls) xs in
    let first = in_order ns c a t xs h (All-head (λ b. b.space < length ns) a ls all) in
    let rest = once-often ns c xs ls h (All-tail (λ b. b.space < length ns) a ls all) t in
    let whole = times_append t (sent ns c a) (flat_map (sent ns c) ls) in
    omega arith
