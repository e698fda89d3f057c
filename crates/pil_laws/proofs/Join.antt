-- What joins the instances of a namespace: values carried from the last row of each to the first row of the next.
use Rattle.std.proofs.Common.{ℕ, zero, suc, ◌+◌, ◌%◌, ◌<◌, ◌≤◌, ◌≡◌, true, false, not, cond, eqb, ltb, ◌&&◌, List, [], ◌∷◌, ◌++◌, flat_map, refl, sym, ap, subst, ◌∙◌, arith}
use Rattle.std.specs.List.{range_with_len}
use Rattle.std.proofs.lemmas.List.{append-nil}
use Rattle.std.proofs.lemmas.Bool.Decides.{nat_tests}
use Rattle.gold.specs.Field.{p}
use Rattle.pil_ast.specs.Term.{Term, Tuples, Namespace}
use Rattle.pil_ast.specs.Columns.{Columns}
use Rattle.pil_ast.specs.Holds.{Holds, tuple, times, by_rows, sent, all_sent, row_sent}
use Rattle.pil_laws.specs.Sends.{Sends}
use Rattle.pil_laws.specs.Joints.{Joints, leaving, entering, joint}
use Rattle.pil_laws.proofs.Ranges.{ranges_same, range_split, range_empty}
use Rattle.pil_laws.proofs.Sent.{unsent, sent_one}
use Rattle.pil_laws.proofs.Sums.{other_side}

is_last : (v r n i m : ℕ) → v ≡ cond (eqb (r + 1) n && ltb (i + 1) m) 1 0 → not (eqb v 0) ≡ true → r + 1 ≡ n
is_last v r n i m e h = grind (arith, nat_tests)

first_on : (v i : ℕ) → v ≡ cond (eqb 0 0 && ltb 0 (i + 1)) 1 0 → not (eqb v 0) ≡ true
first_on v i e = grind (arith, nat_tests)

number_is : (v j i w : ℕ) → v ≡ j → w ≡ i + 1 → (v + 1) % p ≡ w → j ≤ 4194304 → j ≡ i
number_is v j i w e f h l = omega arith

number_next : (v w i : ℕ) → v ≡ i → w ≡ i + 1 → i ≤ 4194304 → (v + 1) % p ≡ w
number_next v w i e f h = omega arith

heads : (a b : ℕ) (xs ys : List ℕ) → a ∷ xs ≡ b ∷ ys → a ≡ b
heads a b xs ys h = cc

tails : (a b : ℕ) (xs ys : List ℕ) → a ∷ xs ≡ b ∷ ys → xs ≡ ys
tails a b xs ys h = cc

alike : (a b : ℕ) (xs ys : List ℕ) → a ≡ b → xs ≡ ys → a ∷ xs ≡ b ∷ ys
alike a b xs ys e f = cc

not_last : (v r n i m : ℕ) → v ≡ cond (eqb (r + 1) n && ltb (i + 1) m) 1 0 → r + 1 < n → not (eqb v 0) ≡ false
not_last v r n i m e h = grind (arith, nat_tests)

last_of_all : (v r n i m : ℕ) → v ≡ cond (eqb (r + 1) n && ltb (i + 1) m) 1 0 → i + 1 ≡ m → not (eqb v 0) ≡ false
last_of_all v r n i m e h = grind (arith, nat_tests)

last_on : (v r n i m : ℕ) → v ≡ cond (eqb (r + 1) n && ltb (i + 1) m) 1 0 → r + 1 ≡ n → i + 1 < m → not (eqb v 0) ≡ true
last_on v r n i m e h l = grind (arith, nat_tests)

not_first : (v r i : ℕ) → v ≡ cond (eqb r 0 && ltb 0 i) 1 0 → 1 ≤ r → not (eqb v 0) ≡ false
not_first v r i e h = grind (arith, nat_tests)

first_of_all : (v r : ℕ) → v ≡ cond (eqb r 0 && ltb 0 0) 1 0 → not (eqb v 0) ≡ false
first_of_all v r e = grind (arith, nat_tests)

one_more : (n : ℕ) → suc n ≡ n + 1
one_more n = omega arith

turned : (n : ℕ) → suc n ≡ 1 + n
turned n = omega arith

nothing : {X : Type 0} (h : ℕ → List X) (n a : ℕ) → ((r : ℕ) → r < n → h (a + r) ≡ []) → flat_map h (range_with_len a n) ≡ []
nothing h n a z = ranges_same h (λ r. []) n a 0 z ∙ range_empty n 0

-- a range of which the last number alone gives something, or the first
at_end : {X : Type 0} (h : ℕ → List X) (n : ℕ) → ((r : ℕ) → r < n → h r ≡ []) → flat_map h (range_with_len 0 (suc n)) ≡ h n
at_end h n z =
    ap (λ k. flat_map h (range_with_len 0 k)) (one_more n) ∙ range_split h n 0 1 ∙ ap (λ xs. xs ++ (h (0 + n) ++ [])) (nothing h n 0 (λ r l. ap h (omega arith) ∙ z r l)) ∙ append-nil (h (0 + n)) ∙ ap h (omega arith)

at_start : {X : Type 0} (h : ℕ → List X) (n : ℕ) → ((r : ℕ) → r < n → h (1 + r) ≡ []) → flat_map h (range_with_len 0 (suc n)) ≡ h 0
at_start h n z = ap (λ xs. h 0 ++ xs) (nothing h n 1 z) ∙ append-nil (h 0)

-- f gives something at the last row of each instance but the last, and g the same at the first row of the next
module _ {X : Type 0} (f g : ℕ → ℕ → List X) (m n : ℕ)
    (f_before : (i r : ℕ) → i < m → r < n → f i r ≡ []) (f_end : (i : ℕ) → i + 1 ≡ m → f i n ≡ [])
    (g_after : (i r : ℕ) → i < m → r < n → g i (1 + r) ≡ []) (g_start : 0 < m → g 0 0 ≡ [])
    (same : (i : ℕ) → i + 1 < m → f i n ≡ g (i + 1) 0) where
  across : (k : ℕ) → k ≡ m → flat_map (λ i. f i n) (range_with_len 0 k) ≡ flat_map (λ i. g i 0) (range_with_len 0 k)
  across zero e = refl
  across (suc k) e =
      ap (λ j. flat_map (λ i. f i n) (range_with_len 0 j)) (one_more k) ∙ range_split (λ i. f i n) k 0 1 ∙ ap (λ xs. flat_map (λ i. f i n) (range_with_len 0 k) ++ (xs ++ [])) (f_end (0 + k) (omega arith))
      ∙ append-nil (flat_map (λ i. f i n) (range_with_len 0 k)) ∙ ranges_same (λ i. f i n) (λ i. g i 0) k 0 1 (λ j l. ap (λ i. f i n) (omega arith) ∙ same j (omega arith) ∙ ap (λ i. g i 0) (omega arith))
      ∙ ap (λ xs. xs ++ flat_map (λ i. g i 0) (range_with_len 1 k)) (sym (g_start (omega arith)))

  -- what each instance but the last hands on, each but the first takes up, in the same order
  chain : by_rows f m (suc n) ≡ by_rows g m (suc n)
  chain =
      ranges_same (λ i. flat_map (f i) (range_with_len 0 (suc n))) (λ i. f i n) m 0 0 (λ i l. at_end (f (0 + i)) n (λ r w. f_before (0 + i) r (omega arith) w)) ∙ across m refl
      ∙ ranges_same (λ i. g i 0) (λ i. flat_map (g i) (range_with_len 0 (suc n))) m 0 0 (λ i l. sym (at_start (g (0 + i)) n (λ r w. g_after (0 + i) r (omega arith) w)))

module _ (ns : List Namespace) (c : Columns) (home inst clast cfirst : ℕ) (es fs : List Term) (k : Joints c home inst clast cfirst) where
  -- Where the `is` holds, the values that leave an instance enter the next.
  pub joined : Holds ns c (joint home inst clast cfirst es fs) → (i r : ℕ) → i + 1 < c.instances home → r + 1 ≡ c.rows home → tuple ns c home i r es ≡ tuple ns c home (i + 1) 0 fs
  joined h i r l e =
      let s : Sends ns c (entering home inst cfirst fs) (tuple ns c home (i + 1) 0 (entering home inst cfirst fs).terms) = record { instance = i + 1; row = 0; is_instance = l; is_row = k.rows; is_selected = first_on _ i (k.is_cfirst (i + 1) 0 l k.rows); is_tuple = refl } in
      let w = other_side ns c (leaving home inst clast es) (entering home inst cfirst fs) h _ s in
      let q : w.row + 1 ≡ c.rows home = is_last _ w.row (c.rows home) w.instance (c.instances home) (k.is_clast w.instance w.row w.is_instance w.is_row) w.is_selected in
      let limit = k.instances in
      let wi = w.is_instance in
      let j : w.instance ≡ i = number_is _ w.instance i _ (k.is_inst w.instance w.row w.is_instance w.is_row) (k.is_inst (i + 1) 0 l k.rows) (heads _ _ _ _ w.is_tuple) (omega arith) in
      let q' : w.row ≡ r = omega arith in
      subst (λ z. tuple ns c home z r es ≡ tuple ns c home (i + 1) 0 fs) j (subst (λ z. tuple ns c home w.instance z es ≡ tuple ns c home (i + 1) 0 fs) q' (tails _ _ _ _ w.is_tuple))

  abbrev out : Tuples
  out = leaving home inst clast es

  abbrev inward : Tuples
  inward = entering home inst cfirst fs

  module _ (n : ℕ) (rows : c.rows home ≡ suc n) (agree : (i : ℕ) → i + 1 < c.instances home → tuple ns c home i n es ≡ tuple ns c home (i + 1) 0 fs) where
    silent_before : (i r : ℕ) → i < c.instances home → r < n → row_sent ns c out i r ≡ []
    silent_before i r l w = unsent ns c out i r (not_last _ r (c.rows home) i (c.instances home) (k.is_clast i r l (omega arith)) (omega arith))

    silent_end : (i : ℕ) → i + 1 ≡ c.instances home → row_sent ns c out i n ≡ []
    silent_end i e = unsent ns c out i n (last_of_all _ n (c.rows home) i (c.instances home) (k.is_clast i n (omega arith) (omega arith)) e)

    silent_after : (i r : ℕ) → i < c.instances home → r < n → row_sent ns c inward i (1 + r) ≡ []
    silent_after i r l w = unsent ns c inward i (1 + r) (not_first _ (1 + r) i (k.is_cfirst i (1 + r) l (omega arith)) (omega arith))

    silent_start : 0 < c.instances home → row_sent ns c inward 0 0 ≡ []
    silent_start l = unsent ns c inward 0 0 (first_of_all _ 0 (k.is_cfirst 0 0 l k.rows))

    same_tuple : (i : ℕ) → i + 1 < c.instances home → tuple ns c home i n out.terms ≡ tuple ns c home (i + 1) 0 inward.terms
    same_tuple i l =
        let limit = k.instances in
        alike _ _ _ _ (number_next _ _ i (k.is_inst i n (omega arith) (omega arith)) (k.is_inst (i + 1) 0 l k.rows) (omega arith)) (agree i l)

    handed : (i : ℕ) → i + 1 < c.instances home → row_sent ns c out i n ≡ row_sent ns c inward (i + 1) 0
    handed i l =
        sent_one ns c out i n (last_on _ n (c.rows home) i (c.instances home) (k.is_clast i n (omega arith) (omega arith)) (omega arith) l) ∙ ap (λ u. u ∷ []) (same_tuple i l)
        ∙ sym (sent_one ns c inward (i + 1) 0 (first_on _ i (k.is_cfirst (i + 1) 0 l k.rows)))

    both_sides : sent ns c out ≡ sent ns c inward
    unfolding sent
    both_sides =
        ap (by_rows (row_sent ns c out) (c.instances home)) rows ∙ chain (row_sent ns c out) (row_sent ns c inward) (c.instances home) n silent_before silent_end silent_after silent_start handed
        ∙ sym (ap (by_rows (row_sent ns c inward) (c.instances home)) rows)

  -- Where they do, the `is` holds.
  pub joins : ((i r : ℕ) → i + 1 < c.instances home → r + 1 ≡ c.rows home → tuple ns c home i r es ≡ tuple ns c home (i + 1) 0 fs) → Holds ns c (joint home inst clast cfirst es fs)
  unfolding all_sent
  joins h t = of (c.rows home) refl k.rows
    where
      of : (m : ℕ) → c.rows home ≡ m → 0 < m → times t (all_sent ns c (out ∷ [])) ≡ times t (all_sent ns c (inward ∷ []))
      of zero e l = absurd (omega arith)
      of (suc n) e l = ap (λ xs. times t (xs ++ [])) (both_sides n e (λ i w. h i n w (last n e)))
        where
          last : (n : ℕ) → c.rows home ≡ suc n → n + 1 ≡ c.rows home
          last n e = omega arith
