-- The accesses that are sent, and the rows that send them.
use Rattle.std.proofs.Common.{ℕ, zero, suc, ◌<◌, ◌≤◌, ◌≡◌, ◌≢◌, inl, inr, false, cond, eqb, map, List, [], ◌∷◌, length, refl, ap, subst, get_or, arith}
use Rattle.std.specs.List.{Contains, All}
use Rattle.std.proofs.lemmas.List.{get_or_default}
use Rattle.std.proofs.lemmas.Bool.Decides.{nat_tests}
use Rattle.std.specs.Str.{bytes_eq}
use Rattle.std.proofs.lemmas.Slice.Eq.{bytes_eq-Decides}
use Rattle.std.proofs.lemmas.Bool.{cases_Bool}
use Rattle.pil_ast.specs.Term.{Tuples, Namespace}
use Rattle.pil_ast.specs.Columns.{Columns}
use Rattle.pil_ast.specs.Holds.{all_sent, times}
use Rattle.pil_laws.specs.Sends.{Sends}
use Rattle.pil_laws.proofs.Times.{is_one, times_cons, times_head, times_tail, times_none}
use Rattle.pil_laws.proofs.Sums.{from_all, into_all}
use Rattle.air_mem.specs.Access.{Access, memory_tuple, InReach}
use Rattle.air_mem.specs.Lists.{read_access, IsShaped}

third : (w : ℕ) → w ≤ 1 → cond (eqb w 1) 1 0 ≡ w
third w h = grind (arith, nat_tests)

five : (k t w l h v : ℕ) → v ≡ w → k ∷ t ∷ v ∷ l ∷ h ∷ [] ≡ k ∷ t ∷ w ∷ l ∷ h ∷ []
five k t w l h v e = cc

pub shaped_back : (t : List ℕ) → IsShaped t → memory_tuple (read_access t) ≡ t
shaped_back (k ∷ t ∷ w ∷ l ∷ h ∷ []) s = five k t w l h _ (third w s.2)
shaped_back [] s = absurd s
shaped_back (k ∷ []) s = absurd s
shaped_back (k ∷ t ∷ []) s = absurd s
shaped_back (k ∷ t ∷ w ∷ []) s = absurd s
shaped_back (k ∷ t ∷ w ∷ l ∷ []) s = absurd s
shaped_back (k ∷ t ∷ w ∷ l ∷ h ∷ m ∷ ms) s = absurd s

pub shaped_reach : (t : List ℕ) → IsShaped t → InReach (read_access t)
shaped_reach (k ∷ t ∷ w ∷ l ∷ h ∷ []) s = record { key = s.0; time = s.1 }
shaped_reach [] s = absurd s
shaped_reach (k ∷ []) s = absurd s
shaped_reach (k ∷ t ∷ []) s = absurd s
shaped_reach (k ∷ t ∷ w ∷ []) s = absurd s
shaped_reach (k ∷ t ∷ w ∷ l ∷ []) s = absurd s
shaped_reach (k ∷ t ∷ w ∷ l ∷ h ∷ m ∷ ms) s = absurd s

cons_same : {X : Type 0} (x y : X) (xs ys : List X) → x ≡ y → xs ≡ ys → x ∷ xs ≡ y ∷ ys
cons_same x y xs ys e f = cc

pub map_back : {X : Type 0} (f : X → List ℕ) (g : List ℕ → X) (ts : List (List ℕ)) → ((t : List ℕ) → times t ts ≢ 0 → f (g t) ≡ t) → map f (map g ts) ≡ ts
map_back f g [] h = refl
map_back f g (t ∷ ts) h = cons_same _ _ _ _ (h t (times_head t ts)) (map_back f g ts (λ u n. h u (times_tail u t ts n)))

mapped_all : {X : Type 0} (g : List ℕ → X) (P : X → Type 0) (ts : List (List ℕ)) → ((t : List ℕ) → times t ts ≢ 0 → P (g t)) → (x : X) (k : ℕ) → k < length (map g ts) → get_or (map g ts) k x ≡ x → P x
mapped_all g P [] h x k l e = absurd (omega arith)
mapped_all g P (t ∷ ts) h x zero l e = subst P e (h t (times_head t ts))
mapped_all g P (t ∷ ts) h x (suc k) l e = mapped_all g P ts (λ u n. h u (times_tail u t ts n)) x k (omega arith) e

pub mapped_reach : (ts : List (List ℕ)) → ((t : List ℕ) → times t ts ≢ 0 → InReach (read_access t)) → All InReach (map read_access ts)
mapped_reach ts h k d l = mapped_all read_access InReach ts h (get_or (map read_access ts) k d) k l (get_or_default (map read_access ts) k _ _ l)

above_none : (n : ℕ) → 0 < suc n
above_none n = omega arith

more_below : (k n : ℕ) → k < n → suc k < suc n
more_below k n h = omega arith

-- what is sent is among the accesses
counted_there : {X : Type 0} (g : List ℕ → X) (t : List ℕ) (ts : List (List ℕ)) → times t ts ≢ 0 → Contains (map g ts) (g t)
counted_there g t [] h = absurd (h (times_none t))
counted_there g t (u ∷ ts) h =
    elim (cases_Bool (bytes_eq u t)) [
      | inl e ↦ (0, above_none (length (map g ts)), ap g ((bytes_eq-Decides u t).0 e))
      | inr e ↦ (
          let k : is_one (bytes_eq u t) ≡ is_one false = ap is_one e in
          let m = times_cons t u ts in
          let w = counted_there g t ts (λ z. h (omega arith)) in
          (suc w.0, more_below w.0 (length (map g ts)) w.1, w.2))
    ]

pub sent_there : (ns : List Namespace) (c : Columns) (ls : List Tuples) (a : Tuples) (t : List ℕ) → Contains ls a → Sends ns c a t → Contains (map read_access (all_sent ns c ls)) (read_access t)
sent_there ns c ls a t h s = counted_there read_access t (all_sent ns c ls) (into_all ns c t ls a h s)

-- and each access was sent by a row of one of the lists
pub there_sent : (ns : List Namespace) (c : Columns) (ls : List Tuples) (x : Access) → Contains (map read_access (all_sent ns c ls)) x → (t : List ℕ) × (x ≡ read_access t) × ((a : Tuples) × Contains ls a × Sends ns c a t)
there_sent ns c ls x h =
    mapped_all read_access (λ y. (t : List ℕ) × (y ≡ read_access t) × ((a : Tuples) × Contains ls a × Sends ns c a t)) (all_sent ns c ls) (λ t n. (t, refl, from_all ns c t ls n)) x h.0 h.1 h.2
