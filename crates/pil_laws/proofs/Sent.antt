-- What the rows of a namespace send, by rows.
use Rattle.std.proofs.Common.{ℕ, zero, suc, ◌+◌, ◌<◌, ◌≤◌, ◌≡◌, ◌≢◌, inl, inr, Bool, true, false, cond, List, [], ◌∷◌, flat_map, refl, ap, subst, arith}
use Rattle.std.specs.List.{range_with_len}
use Rattle.std.proofs.lemmas.Bool.{cases_eq, false≢true}
use Rattle.pil_ast.specs.Term.{Tuples, Namespace}
use Rattle.pil_ast.specs.Columns.{Columns}
use Rattle.pil_ast.specs.Holds.{times, sent, row_sent, selected, tuple}
use Rattle.pil_laws.specs.Sends.{Sends}
use Rattle.pil_laws.proofs.Times.{times_none, times_append, times_head, is_alone}

module _ (t : List ℕ) (f : ℕ → List (List ℕ)) where
  first_piece : (a n : ℕ) → times t (flat_map f (range_with_len a (suc n))) ≡ times t (f a) + times t (flat_map f (range_with_len (a + 1) n))
  first_piece a n = times_append t (f a) (flat_map f (range_with_len (a + 1) n))

  -- the piece that a tuple comes from
  from_piece : (n a : ℕ) → times t (flat_map f (range_with_len a n)) ≢ 0 → (k : ℕ) × (a ≤ k) × (k < a + n) × (times t (f k) ≢ 0)
  from_piece zero a h = absurd (h (times_none t))
  from_piece (suc n) a h =
      let e = first_piece a n in
      elim (cases_eq (times t (f a)) 0) [
        | inl z ↦ (let w = from_piece n (a + 1) (λ y. h (omega arith)) in (w.0, omega arith, omega arith, w.3))
        | inr z ↦ (a, omega arith, omega arith, z)
      ]

  into_piece : (n a k : ℕ) → a ≤ k → k < a + n → times t (f k) ≤ times t (flat_map f (range_with_len a n))
  into_piece zero a k l h = absurd (omega arith)
  into_piece (suc n) a k l h =
      let e = first_piece a n in
      elim (cases_eq a k) [
        | inl z ↦ (let s = ap (λ j. times t (f j)) z in omega arith)
        | inr z ↦ (let s = into_piece n (a + 1) k (omega arith) (omega arith) in omega arith)
      ]

from_row : (t u : List ℕ) (b : Bool) → times t (cond b (u ∷ []) []) ≢ 0 → (b ≡ true) × (u ≡ t)
from_row t u true h = (refl, is_alone t u h)
from_row t u false h = absurd (h (times_none t))

into_row : (u : List ℕ) (b : Bool) → b ≡ true → times u (cond b (u ∷ []) []) ≢ 0
into_row u true e = times_head u []
into_row u false e = absurd (false≢true e)

module _ (ns : List Namespace) (c : Columns) (a : Tuples) (t : List ℕ) where
  -- what is sent, a row sends, and back
  pub from_sent : times t (sent ns c a) ≢ 0 → Sends ns c a t
  unfolding sent
  from_sent h =
      let w = from_piece t (λ i. flat_map (row_sent ns c a i) (range_with_len 0 (c.rows a.space))) (c.instances a.space) 0 h in
      let v = from_piece t (row_sent ns c a w.0) (c.rows a.space) 0 w.3 in
      let o = from_row t (tuple ns c a.space w.0 v.0 a.terms) (selected ns c a.space w.0 v.0 a.sel) v.3 in
      record { instance = w.0; row = v.0; is_instance = omega (arith, w.2); is_row = omega (arith, v.2); is_selected = o.0; is_tuple = o.1 }

  pub into_sent : Sends ns c a t → times t (sent ns c a) ≢ 0
  unfolding sent
  into_sent s =
      let one : times t (row_sent ns c a s.instance s.row) ≢ 0 = subst (λ u. times u (row_sent ns c a s.instance s.row) ≢ 0) s.is_tuple (into_row (tuple ns c a.space s.instance s.row a.terms) (selected ns c a.space s.instance s.row a.sel) s.is_selected) in
      let v = into_piece t (row_sent ns c a s.instance) (c.rows a.space) 0 s.row (omega arith) (omega (arith, s.is_row)) in
      let w = into_piece t (λ i. flat_map (row_sent ns c a i) (range_with_len 0 (c.rows a.space))) (c.instances a.space) 0 s.instance (omega arith) (omega (arith, s.is_instance)) in
      λ z. one (omega arith)

-- a row that isn't selected sends nothing, and a selected one its tuple
module _ (ns : List Namespace) (c : Columns) (a : Tuples) (i r : ℕ) where
  pub unsent : selected ns c a.space i r a.sel ≡ false → row_sent ns c a i r ≡ []
  unsent e = ap (λ b. cond b (tuple ns c a.space i r a.terms ∷ []) []) e

  pub sent_one : selected ns c a.space i r a.sel ≡ true → row_sent ns c a i r ≡ tuple ns c a.space i r a.terms ∷ []
  sent_one e = ap (λ b. cond b (tuple ns c a.space i r a.terms ∷ []) []) e
