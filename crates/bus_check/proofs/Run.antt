-- A run over instances: what is sent from them, and the sides that change one after the other.
use Rattle.std.proofs.Common.{ℕ, zero, suc, ◌+◌, ◌<◌, ◌≤◌, ◌≡◌, ◌≢◌, ◌⊎◌, inl, inr, cond, List, [], ◌∷◌, ◌++◌, Option, Some, length, get_or, set, take, drop, flat_map, slice_get, refl, sym, ◌∙◌, ap, subst, arith, length-set, MatchOption}
use Rattle.std.specs.List.{range_with_len}
use Rattle.std.proofs.Math.Seq.{take-append_seam}
use Rattle.std.proofs.lemmas.Bool.{cases_eq, eq-eqb, ne_eqb}
use Rattle.std.proofs.lemmas.List.{flat_map_more}
use Rattle.std.proofs.lemmas.Option.{slice_get-get_or, slice_get_within}
use Rattle.pil_ast.specs.Term.{Tuples, Line, constant, commit, inter, published, identity, lookup, bus, Namespace, item_at}
use Rattle.pil_ast.specs.Holds.{AsOften, row_sent, lines}
use Rattle.pil_ast.specs.Sound.{IsSound}
use Rattle.pil_laws.proofs.Lines.{item-found}
use Rattle.row_check.specs.declared.broken.Broken.{Broken}
use Rattle.bus_check.specs.declared.runs.Sides.{Sides}
use Rattle.bus_check.specs.Bus.{IsBus, IsBusOf, DiffersBy}
use Rattle.bus_check.specs.Run.{Added, sent_from, all_sent_from, IsSum, AgreeFrom, DifferFrom, HaveSent, Takes, AtEach, AtFirst}
use Rattle.bus_check.proofs.InText.{line-bus}

-- What a list sends from an instance of its namespace, or of another.
pub sent-here : (ns : List Namespace) (x : Added) (a : Tuples) → a.space ≡ x.space → sent_from ns x a ≡ flat_map (row_sent ns x.columns a x.instance) (range_with_len 0 (x.columns.rows a.space))
sent-here ns x a e = ap (λ b. cond b (flat_map (row_sent ns x.columns a x.instance) (range_with_len 0 (x.columns.rows a.space))) []) (eq-eqb a.space x.space e)

pub sent-elsewhere : (ns : List Namespace) (x : Added) (a : Tuples) → a.space ≢ x.space → sent_from ns x a ≡ []
sent-elsewhere ns x a n = ap (λ b. cond b (flat_map (row_sent ns x.columns a x.instance) (range_with_len 0 (x.columns.rows a.space))) []) (ne_eqb a.space x.space n)

-- The lists of a line that is found.
pub lists-of : (ns : List Namespace) (k : ℕ) (l : Line) → IsSound ns → slice_get (lines ns) k ≡ Some l → IsBus l → IsBusOf ns l
lists-of ns k l sound e is = line-bus ns k l sound e (subst IsBus (sym (item-found (lines ns) k l e)) is)

-- One more instance.
from-more : (ns : List Namespace) (xs : List Added) (x : Added) (ls : List Tuples) (old new : List (List ℕ)) → old ≡ all_sent_from ns xs ls → new ≡ old ++ flat_map (sent_from ns x) ls → new ≡ all_sent_from ns (xs ++ x ∷ []) ls
from-more ns xs x ls old new e w =
    w ∙ ap (λ ts. ts ++ flat_map (sent_from ns x) ls) e ∙ flat_map_more (λ (y : Added). flat_map (sent_from ns y) ls) [] xs x

pub have-more : (ns : List Namespace) (xs : List Added) (x : Added) (l : Line) (s t : Sides) → HaveSent ns xs l s → Takes ns x l s t → HaveSent ns (xs ++ x ∷ []) l t
have-more ns xs x (bus ls rs) s t h w = (from-more ns xs x ls s.left t.left h.0 w.0, from-more ns xs x rs s.right t.right h.1 w.1)
have-more ns xs x (constant n len) s t h w = tt
have-more ns xs x (commit n len) s t h w = tt
have-more ns xs x (inter n e) s t h w = tt
have-more ns xs x (published n m k r) s t h w = tt
have-more ns xs x (identity m a b) s t h w = tt
have-more ns xs x (lookup a b) s t h w = tt

pub have-none : (ns : List Namespace) (l : Line) (s : Sides) → s.left ≡ [] → s.right ≡ [] → HaveSent ns [] l s
have-none ns (bus ls rs) s e w = (e, w)
have-none ns (constant n len) s e w = tt
have-none ns (commit n len) s e w = tt
have-none ns (inter n t) s e w = tt
have-none ns (published n m k r) s e w = tt
have-none ns (identity m a b) s e w = tt
have-none ns (lookup a b) s e w = tt

pub sides-more : (ns : List Namespace) (xs : List Added) (x : Added) (old new : List Sides) → ((k : ℕ) (s : Sides) → slice_get old k ≡ Some s → HaveSent ns xs (item_at (lines ns) k) s) → AtEach (λ k. Takes ns x (item_at (lines ns) k)) old new → (k : ℕ) (t : Sides) → slice_get new k ≡ Some t → HaveSent ns (xs ++ x ∷ []) (item_at (lines ns) k) t
sides-more ns xs x old new h w k t is =
    let l = slice_get_within new k t is in
    let long = w.long in
    let s : Sides = get_or old k t in
    let found : slice_get old k ≡ Some s = slice_get-get_or old k t (omega arith) in
    have-more ns xs x (item_at (lines ns) k) s t (h k s found) (w.each k s t found is)

-- What the comparison of the sides says of the line.
pub compared : (ns : List Namespace) (xs : List Added) (l : Line) (s : Sides) (k : ℕ) (found : Option Broken) → HaveSent ns xs l s → IsSum l → MatchOption found (AsOften s.left s.right) (λ b. DiffersBy k s.left s.right b) → MatchOption found (AgreeFrom ns xs l) (λ b. DifferFrom ns xs l k b)
compared ns xs (bus ls rs) s k found h is m =
    subst (λ (ts : List (List ℕ)). MatchOption found (AsOften ts (all_sent_from ns xs rs)) (λ b. DiffersBy k ts (all_sent_from ns xs rs) b)) h.0
    (subst (λ (ts : List (List ℕ)). MatchOption found (AsOften s.left ts) (λ b. DiffersBy k s.left ts b)) h.1 m)
compared ns xs (constant n len) s k found h is m = absurd is
compared ns xs (commit n len) s k found h is m = absurd is
compared ns xs (inter n t) s k found h is m = absurd is
compared ns xs (published n j i r) s k found h is m = absurd is
compared ns xs (identity j a b) s k found h is m = absurd is
compared ns xs (lookup a b) s k found h is m = absurd is

-- an element of a list with one more at its end
pub slice_get-push : {X : Type 0} (xs : List X) (y x : X) (j : ℕ) → slice_get (xs ++ y ∷ []) j ≡ Some x → ((j < length xs) × (slice_get xs j ≡ Some x)) ⊎ ((j ≡ length xs) × (y ≡ x))
slice_get-push [] y x zero e = let s : y ≡ x = cc in inr (refl, s)
slice_get-push [] y x (suc j) e = let n : ⊥ = cc in absurd n
slice_get-push (z ∷ xs) y x zero e = inl (omega arith, e)
slice_get-push (z ∷ xs) y x (suc j) e = elim (slice_get-push xs y x j e) [ inl (l, p) ↦ inl (omega arith, p) | inr (l, p) ↦ inr (ap suc l, p) ]

-- a vector after its elements were lent as a slice
pub lent-back : {X : Type 0} (n : ℕ) (old new : List X) → length new ≡ n → take n (new ++ drop (length new) old) ≡ new
lent-back n old new e = ap (λ k. take k (new ++ drop (length new) old)) (sym e) ∙ take-append_seam new (drop (length new) old)

-- Sides that change one after the other.
get-set_same : {X : Type 0} (xs : List X) (i : ℕ) (v : X) → i < length xs → slice_get (set xs i v) i ≡ Some v
get-set_same [] i v l = absurd (omega arith)
get-set_same (x ∷ xs) zero v l = refl
get-set_same (x ∷ xs) (suc i) v l = get-set_same xs i v (omega arith)

get-set_other : {X : Type 0} (xs : List X) (i k : ℕ) (v : X) → k ≢ i → slice_get (set xs i v) k ≡ slice_get xs k
get-set_other [] i k v n = refl
get-set_other (x ∷ xs) zero zero v n = absurd (n refl)
get-set_other (x ∷ xs) zero (suc k) v n = refl
get-set_other (x ∷ xs) (suc i) zero v n = refl
get-set_other (x ∷ xs) (suc i) (suc k) v n = get-set_other xs i k v (λ e. n (ap suc e))

some-same : {X : Type 0} (x y : X) → Some x ≡ Some y → x ≡ y
some-same x y e = cc

module _ (R : ℕ → Sides → Sides → Type 0) where
  pub first-none : (xs : List Sides) → AtFirst R 0 xs xs
  first-none xs = record { long = refl; done = λ k s t l is is'. absurd (omega arith); rest = λ k l. refl }

  -- the sides that are read next are still those that were there
  first-next : (n : ℕ) (old new : List Sides) (s : Sides) → AtFirst R n old new → n < length new → s ≡ get_or new n s → slice_get old n ≡ Some s
  first-next n old new s h l at = sym (h.rest n (omega arith)) ∙ slice_get-get_or new n s l ∙ ap Some (sym at)

  pub first-more : (n : ℕ) (old new : List Sides) (s t : Sides) → AtFirst R n old new → n < length new → s ≡ get_or new n s → R n s t → AtFirst R (n + 1) old (set new n t)
  first-more n old new s t h l at r = record {
    long = length-set new n t ∙ h.long;
    done = λ k p q w is is'. elim (cases_eq k n) [
      | inl e ↦
          let first : p ≡ s = some-same p s (sym is ∙ ap (slice_get old) e ∙ first-next n old new s h l at) in
          let second : t ≡ q = some-same t q (sym (get-set_same new n t l) ∙ ap (slice_get (set new n t)) (sym e) ∙ is') in
          subst (λ j. R j p q) (sym e) (subst (λ y. R n y q) (sym first) (subst (R n s) second r))
      | inr ne ↦ h.done k p q (omega arith) is (sym (get-set_other new n k t ne) ∙ is')
    ];
    rest = λ k w. get-set_other new n k t (λ e. let j : k ≡ n = e in absurd (omega arith)) ∙ h.rest k (omega arith);
  }

  pub first-all : (n : ℕ) (old new : List Sides) → AtFirst R n old new → length old ≤ n → AtEach R old new
  first-all n old new h l = record { long = h.long; each = λ k s t is is'. h.done k s t (let w = slice_get_within old k s is in omega arith) is is' }
