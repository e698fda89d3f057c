-- The least tuple that two ascending lists don't have equally often.
use Rattle.std.proofs.Common.{ℕ, zero, suc, ◌<◌, ◌≤◌, ◌≡◌, false, cond, List, [], ◌∷◌, length, get_or, refl, sym, ap, subst, ◌∙◌, arith}
use Rattle.std.proofs.lemmas.Bool.{true≢false}
use Rattle.std.specs.Str.{bytes_eq}
use Rattle.std.specs.Ordering.{nat_cmp, is_lt, is_eq, ordering_reverse}
use Rattle.std.specs.declared.cmp.Ordering.{Ordering}
use Rattle.std.specs.declared.cmp.Ordering.TheVariants.{Less, Equal, Greater}
use Rattle.std.specs.Cmp.Lexicographic.{slice_cmp}
use Rattle.std.proofs.lemmas.Cmp.{nat_list_cmp_total, alike_right}
use Rattle.std.proofs.lemmas.Map.Text.{is_eq-slice_cmp}
use Rattle.std.proofs.lemmas.Map.Lookups.{exact_bytes}
use Rattle.std.proofs.lemmas.List.{get_or_default}
use Rattle.std.proofs.lemmas.List.Sorted.{sorted_far, ranks_by}
use Rattle.pil_ast.specs.Holds.{times}
use Rattle.pil_ast.specs.Broken.{ComesBefore}
use Rattle.bus_check.specs.Bus.{Ascend, IsLeast, PartAt}
use Rattle.pil_laws.proofs.Times.{is_one, times_cons, times_none, times_here, times_nowhere, same_self}

-- no tuple is less than one before it
abbrev pub Rises : List (List ℕ) → Type 0
Rises xs = (i j : ℕ) (d : List ℕ) → i ≤ j → j < length xs → is_lt (slice_cmp nat_cmp (get_or xs j d) (get_or xs i d)) ≡ false

pub rises : (xs : List (List ℕ)) → Ascend xs → Rises xs
rises xs up = sorted_far _ (ranks_by nat_list_cmp_total (λ x. x)) xs up

rises-tail : (x : List ℕ) (xs : List (List ℕ)) → Rises (x ∷ xs) → Rises xs
rises-tail x xs up i j d a b = up (suc i) (suc j) d (omega arith) (omega arith)

pub turned : (x u : List ℕ) → ComesBefore u x → slice_cmp nat_cmp x u ≡ Greater
turned x u e = nat_list_cmp_total.antisymm x u ∙ ap ordering_reverse e

pub before-other : (x u : List ℕ) → ComesBefore u x → bytes_eq x u ≡ false
before-other x u e = sym (is_eq-slice_cmp x u) ∙ ap is_eq (turned x u e)

-- what comes before x comes before all that isn't less than x
pub before-through : (u x y : List ℕ) (o : Ordering) → slice_cmp nat_cmp y x ≡ o → is_lt o ≡ false → ComesBefore u x → ComesBefore u y
before-through u x y Less e h b = absurd (true≢false h)
before-through u x y Equal e h b = alike_right nat_list_cmp_total y x u e ∙ b
before-through u x y Greater e h b = nat_list_cmp_total.trans u x y b (nat_list_cmp_total.antisymm x y ∙ ap ordering_reverse e)

-- what comes before the first tuple isn't in the list
before-all : (u x : List ℕ) (xs : List (List ℕ)) → Rises (x ∷ xs) → ComesBefore u x → times u (x ∷ xs) ≡ 0
before-all u x xs up b = times_nowhere u (x ∷ xs) (λ k d l. before-other _ u (before-through u x _ _ refl (up 0 k d (omega arith) l) b))

pub least-sym : (xs ys : List (List ℕ)) (t : List ℕ) → IsLeast xs ys t → IsLeast ys xs t
least-sym xs ys t h = record { differ = λ e. h.differ (sym e); first = λ u b. sym (h.first u b) }

least-cons : (x y : List ℕ) (xs ys : List (List ℕ)) (t : List ℕ) → x ≡ y → IsLeast xs ys t → IsLeast (x ∷ xs) (y ∷ ys) t
least-cons x y xs ys t e h = record {
  differ = λ w. h.differ (
      let a = times_cons t x xs in
      let b = times_cons t y ys in
      let k = ap (λ z. is_one (bytes_eq z t)) e in
      omega arith);
  first = λ u l.
      let a = times_cons u x xs in
      let b = times_cons u y ys in
      let k = ap (λ z. is_one (bytes_eq z u)) e in
      let w = h.first u l in
      omega arith;
}

-- the first tuple of one list, where the other list is empty or begins with a greater one
least-first : (x : List ℕ) (xs ys : List (List ℕ)) → Rises (x ∷ xs) → Rises ys → ((d : List ℕ) → 0 < length ys → ComesBefore x (get_or ys 0 d)) → IsLeast (x ∷ xs) ys x
least-first x xs [] up down h = record {
  differ = λ w. let a = times_here x x xs (same_self x) in let b = times_none x in omega arith;
  first = λ u l. before-all u x xs up l ∙ sym (times_none u);
}
least-first x xs (y ∷ ys) up down h =
    let b : ComesBefore x y = h x (omega arith) in record {
      differ = λ w. let a = times_here x x xs (same_self x) in let z = before-all x y ys down b in omega arith;
      first = λ u l. before-all u x xs up l ∙ sym (before-all u y ys down (nat_list_cmp_total.trans u x y l b));
    }

-- two rising lists have the same tuples before place n, and there the first has a lesser one, or the second ends
pub least-at : (n : ℕ) (xs ys : List (List ℕ)) (e : List ℕ) → n < length xs → n ≤ length ys → ((k : ℕ) (d : List ℕ) → k < n → get_or xs k d ≡ get_or ys k d) → Rises xs → Rises ys → ((d : List ℕ) → n < length ys → ComesBefore (get_or xs n e) (get_or ys n d)) → IsLeast xs ys (get_or xs n e)
least-at n [] ys e l m same up down h = absurd (omega arith)
least-at zero (x ∷ xs) ys e l m same up down h = least-first x xs ys up down h
least-at (suc n) (x ∷ xs) [] e l m same up down h = absurd (omega arith)
least-at (suc n) (x ∷ xs) (y ∷ ys) e l m same up down h =
    least-cons x y xs ys (get_or xs n e) (same 0 x (omega arith))
    (least-at n xs ys e (omega arith) (omega arith) (λ k d q. same (suc k) d (omega arith)) (rises-tail x xs up) (rises-tail y ys down) (λ d q. h d (omega arith)))

-- lists that are the same at each place hold each tuple equally often
pub often-same : (xs ys : List (List ℕ)) → length xs ≡ length ys → ((k : ℕ) (d : List ℕ) → k < length xs → get_or xs k d ≡ get_or ys k d) → (t : List ℕ) → times t xs ≡ times t ys
often-same [] [] l same t = refl
often-same [] (y ∷ ys) l same t = absurd (omega arith)
often-same (x ∷ xs) [] l same t = absurd (omega arith)
often-same (x ∷ xs) (y ∷ ys) l same t =
    let a = times_cons t x xs in
    let b = times_cons t y ys in
    let k = ap (λ z. is_one (bytes_eq z t)) (same 0 x (omega arith)) in
    let w = often-same xs ys (omega arith) (λ k d q. same (suc k) d (omega arith)) t in
    omega arith

part-turned : (xs ys : List (List ℕ)) (n : ℕ) → PartAt xs ys n → PartAt ys xs n
part-turned xs ys n p = record { left = p.right; right = p.left; same = λ k d l. sym (p.same k d l); differ = λ d l m e. p.differ d m l (sym e) }

-- both lists end at the place
pub part-end : (xs ys : List (List ℕ)) (n : ℕ) → PartAt xs ys n → length xs ≤ n → length ys ≤ n → (t : List ℕ) → times t xs ≡ times t ys
part-end xs ys n p l m = let pl = p.left in let pr = p.right in often-same xs ys (omega arith) (λ k d q. p.same k d (omega arith))

-- the second list ends there
pub part-left : (xs ys : List (List ℕ)) (n : ℕ) (e : List ℕ) → PartAt xs ys n → Ascend xs → Ascend ys → n < length xs → length ys ≤ n → IsLeast xs ys (get_or xs n e)
part-left xs ys n e p up down l m = least-at n xs ys e l p.right p.same (rises xs up) (rises ys down) (λ d q. absurd (omega arith))

-- the first list ends there
pub part-right : (xs ys : List (List ℕ)) (n : ℕ) (e : List ℕ) → PartAt xs ys n → Ascend xs → Ascend ys → length xs ≤ n → n < length ys → IsLeast xs ys (get_or ys n e)
part-right xs ys n e p up down l m = least-sym ys xs _ (part-left ys xs n e (part-turned xs ys n p) down up m l)

lesser-is : (xs ys : List (List ℕ)) (n : ℕ) (e : List ℕ) (o : Ordering) → slice_cmp nat_cmp (get_or xs n e) (get_or ys n e) ≡ o → PartAt xs ys n → Ascend xs → Ascend ys → n < length xs → n < length ys → IsLeast xs ys (cond (is_lt o) (get_or xs n e) (get_or ys n e))
lesser-is xs ys n e Less w p up down l m =
    least-at n xs ys e l p.right p.same (rises xs up) (rises ys down) (λ d q. subst (λ y. ComesBefore (get_or xs n e) y) (get_or_default ys n e d m) w)
lesser-is xs ys n e Equal w p up down l m = absurd (p.differ e l m (exact_bytes _ _ w))
lesser-is xs ys n e Greater w p up down l m =
    least-sym ys xs _ (least-at n ys xs e m p.left (λ k d q. sym (p.same k d q)) (rises ys down) (rises xs up)
    (λ d q. subst (λ x. ComesBefore (get_or ys n e) x) (get_or_default xs n e d l) (nat_list_cmp_total.antisymm (get_or ys n e) (get_or xs n e) ∙ ap ordering_reverse w)))

-- neither list ends there
pub part-lesser : (xs ys : List (List ℕ)) (n : ℕ) (e : List ℕ) → PartAt xs ys n → Ascend xs → Ascend ys → n < length xs → n < length ys → IsLeast xs ys (cond (is_lt (slice_cmp nat_cmp (get_or xs n e) (get_or ys n e))) (get_or xs n e) (get_or ys n e))
part-lesser xs ys n e p up down l m = lesser-is xs ys n e _ refl p up down l m
