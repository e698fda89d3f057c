-- What several lists send.
use Rattle.std.proofs.Common.{ℕ, ◌+◌, ◌≡◌, ◌≢◌, List, [], ◌∷◌, ◌++◌, flat_map, refl, ap, subst, ◌∙◌, arith}
use Rattle.std.specs.List.{sum_by, Contains}
use Rattle.std.proofs.lemmas.List.Sums.{sum_by-append}
use Rattle.std.proofs.lemmas.Grind.{flat_map-append}
use Rattle.pil_ast.specs.Term.{Tuples, lookup, Namespace}
use Rattle.pil_ast.specs.Columns.{Columns}
use Rattle.pil_ast.specs.Holds.{Holds, times, AsOften, sent, all_sent}
use Rattle.pil_laws.specs.Sends.{Sends}
use Rattle.pil_laws.proofs.Sent.{from_sent, into_sent}
use Rattle.pil_laws.proofs.Times.{times_none, times_append, times_part, part_times}

module _ (ns : List Namespace) (c : Columns) where
  -- what several lists send together, one of them sends
  pub from_all : (t : List ℕ) (ls : List Tuples) → times t (all_sent ns c ls) ≢ 0 → (a : Tuples) × Contains ls a × Sends ns c a t
  unfolding all_sent
  from_all t ls h = let w = times_part (sent ns c) t ls h in (w.0, w.1, from_sent ns c w.0 t w.2)

  pub into_all : (t : List ℕ) (ls : List Tuples) (a : Tuples) → Contains ls a → Sends ns c a t → times t (all_sent ns c ls) ≢ 0
  unfolding all_sent
  into_all t ls a h s = part_times (sent ns c) t a ls h (into_sent ns c a t s)

  pub times_single : (a : Tuples) (t : List ℕ) → times t (all_sent ns c (a ∷ [])) ≡ times t (sent ns c a)
  unfolding all_sent
  times_single a t =
      let e : times t (all_sent ns c (a ∷ [])) ≡ times t (sent ns c a) + times t [] = times_append t (sent ns c a) [] in
      let n = times_none t in
      omega arith

  pub times_more : (a : Tuples) (ls : List Tuples) (t : List ℕ) → times t (all_sent ns c (a ∷ ls)) ≡ times t (sent ns c a) + times t (all_sent ns c ls)
  unfolding all_sent
  times_more a ls t = times_append t (sent ns c a) (flat_map (sent ns c) ls)

  apart : (ls ks : List Tuples) → all_sent ns c (ls ++ ks) ≡ all_sent ns c ls ++ all_sent ns c ks
  unfolding all_sent
  apart ls ks = flat_map-append (sent ns c) ls ks

  pub times_both : (ls ks : List Tuples) (t : List ℕ) → times t (all_sent ns c (ls ++ ks)) ≡ times t (all_sent ns c ls) + times t (all_sent ns c ks)
  times_both ls ks t = ap (times t) (apart ls ks) ∙ times_append t (all_sent ns c ls) (all_sent ns c ks)

  pub weigh_more : (h : List ℕ → ℕ) (a : Tuples) (ls : List Tuples) → sum_by h (all_sent ns c (a ∷ ls)) ≡ sum_by h (sent ns c a) + sum_by h (all_sent ns c ls)
  unfolding all_sent
  weigh_more h a ls = sum_by-append h (sent ns c a) (flat_map (sent ns c) ls)

  -- Where an `is` holds, what a row sends on one side, a row sends on the other.
  pub carried : (ls rs : List Tuples) → AsOften (all_sent ns c ls) (all_sent ns c rs) → (t : List ℕ) (a : Tuples) → Contains ls a → Sends ns c a t → (b : Tuples) × Contains rs b × Sends ns c b t
  carried ls rs e t a h s = from_all t rs (λ z. into_all t ls a h s (e t ∙ z))

  -- The same of two lists.
  pub other_side : (a b : Tuples) → AsOften (all_sent ns c (a ∷ [])) (all_sent ns c (b ∷ [])) → (t : List ℕ) → Sends ns c b t → Sends ns c a t
  other_side a b e t s =
      from_sent ns c a t (λ z. into_sent ns c b t s (let x = times_single a t in let y = times_single b t in let w = e t in omega arith))

  -- An `in` holds where what a row sends on the left, a row sends on the right, and only there.
  pub contained : (a b : Tuples) → Holds ns c (lookup a b) → (t : List ℕ) → Sends ns c a t → Sends ns c b t
  contained a b h t s = from_sent ns c b t (subst (λ u. times u (sent ns c b) ≢ 0) s.is_tuple (h s.instance s.row s.is_instance s.is_row s.is_selected))

  pub contains : (a b : Tuples) → ((t : List ℕ) → Sends ns c a t → Sends ns c b t) → Holds ns c (lookup a b)
  contains a b h = λ i r l m on. into_sent ns c b _ (h _ (record { instance = i; row = r; is_instance = l; is_row = m; is_selected = on; is_tuple = refl }))
