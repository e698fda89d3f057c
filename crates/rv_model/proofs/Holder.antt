-- Of segments that ascend, only the last that starts at or before an address can have it.
use Rattle.std.proofs.Common.{◌≡◌, ◌≢◌, ℕ, zero, suc, ◌+◌, ◌-◌, ◌<◌, ◌≤◌, Bool, true, false, nat_le, List, [], ◌∷◌, length, get_or, Some, None, All, AllPairs, find, refl, ap, inl, inr, sym, ◌∙◌, arith}
use Rattle.std.proofs.lemmas.Grind.{common_steps}
use Rattle.std.proofs.lemmas.Bool.Decides.{nat_tests}
use Rattle.std.proofs.lemmas.Bool.{leb-true, cases_Bool}
use Rattle.std.proofs.lemmas.List.Sorted.{IsPartitionedBy-leb}
use Rattle.std.specs.List.Sorted.{IsPartitionPoint, IsPartitionedBy, IsNonDecreasingBy}
use Rattle.rv_model.specs.Image.{Seg, EndsBefore, runs_at, has, kept_if}

-- the test passes no segment but one that has the address
abbrev pub TestsAddress : (Seg → Bool) → ℕ → Type 0
TestsAddress p a = (s : Seg) → p s ≡ true → (s.start ≤ a) × (a < s.start + s.len)

pub runs_at-address : (a : ℕ) → TestsAddress (runs_at a) a
runs_at-address a s h = (grind (arith, nat_tests), grind (arith, nat_tests))

pub has-address : (a : ℕ) → TestsAddress (has a) a
has-address a s h = (grind (arith, nat_tests), grind (arith, nat_tests))

-- a segment without the address fails the test
outside : (p : Seg → Bool) (a : ℕ) (s : Seg) → TestsAddress p a → ((s.start ≤ a) × (a < s.start + s.len) → ⊥) → p s ≡ false
outside p a s tests not_within = elim (cases_Bool (p s)) [ inl passes ↦ absurd (not_within (tests s passes)) | inr fails ↦ fails ]

above : (a n : ℕ) → nat_le n a ≡ false → a < n
above a n h = grind (arith, nat_tests)

-- where no element passes, none is found
find_none : (p : Seg → Bool) (xs : List Seg) → All (λ s. p s ≡ false) xs → find p xs ≡ None
find_none p [] none = refl
find_none p (x ∷ xs) none =
    let here : p x ≡ false = none 0 x (grind (arith, common_steps)) in
    rw here (find_none p xs (λ k d below. none (suc k) d (grind (arith, common_steps))))

-- where only the element at n can pass, it is found or none is
find_only : (p : Seg → Bool) (xs : List Seg) (n : ℕ) (d : Seg) → n < length xs → ((k : ℕ) (e : Seg) → k < length xs → k ≢ n → p (get_or xs k e) ≡ false) → find p xs ≡ kept_if p (Some (get_or xs n d))
find_only p [] n d below others = absurd (grind (arith, common_steps))
find_only p (x ∷ xs) zero d below others =
    let none : find p xs ≡ None = find_none p xs (λ k e l. others (suc k) e (grind (arith, common_steps)) (omega arith)) in rw none refl
find_only p (x ∷ xs) (suc n) d below others =
    let here : p x ≡ false = others 0 x (grind (arith, common_steps)) (omega arith) in
    rw here (find_only p xs n d (grind (arith, common_steps)) (λ k e l differs. others (suc k) e (grind (arith, common_steps)) (omega arith)))

-- the starts of segments that ascend
starts_rise : (xs : List Seg) → AllPairs EndsBefore xs → IsNonDecreasingBy (λ s. s.start) xs
starts_rise xs ascending i j d ij below = grind (arith, ascending i j d)

pub starts_partitioned : (xs : List Seg) (a : ℕ) → AllPairs EndsBefore xs → IsPartitionedBy (λ s. nat_le s.start a) xs
starts_partitioned xs a ascending = IsPartitionedBy-leb (λ s. s.start) xs a (starts_rise xs ascending)

-- the first n segments start at or before the address, and the others after it
abbrev pub Splits : ℕ → List Seg → ℕ → Type 0
Splits a xs n = IsPartitionPoint (λ s. nat_le s.start a ≡ true) (λ s. nat_le s.start a ≡ false) xs n

-- no segment starts at or before the address
pub find_before : (p : Seg → Bool) (a : ℕ) (xs : List Seg) (n : ℕ) → TestsAddress p a → Splits a xs n → n ≡ 0 → find p xs ≡ None
find_before p a xs n tests splits zero_is = find_none p xs λ k d below.
    let late : nat_le (get_or xs k d).start a ≡ false = splits.1 k d (omega arith) below in
    outside p a (get_or xs k d) tests (λ within. omega (arith, above a _ late))

-- the last that does is at n - 1
pub find_last : (p : Seg → Bool) (a : ℕ) (xs : List Seg) (n : ℕ) (last : Seg) → TestsAddress p a → AllPairs EndsBefore xs → Splits a xs n → 0 < n → n ≤ length xs → last ≡ get_or xs (n - 1) last → find p xs ≡ kept_if p (Some last)
find_last p a xs n last tests ascending splits some bound is =
    let others : (k : ℕ) (e : Seg) → k < length xs → k ≢ n - 1 → p (get_or xs k e) ≡ false = λ k e below differs.
    let early : k < n - 1 → (get_or xs k e).start + (get_or xs k e).len ≤ (get_or xs (n - 1) e).start = λ l. ascending k (n - 1) e l (omega arith) in
    let starts : (get_or xs (n - 1) e).start ≤ a = leb-true _ _ (splits.0 (n - 1) e (omega arith) (omega arith)) in
    let late : n ≤ k → a < (get_or xs k e).start = λ l. above a _ (splits.1 k e l below) in
    outside p a (get_or xs k e) tests (λ within. grind arith) in
    find_only p xs (n - 1) last (omega arith) others
    ∙ ap (λ s. kept_if p (Some s)) (sym is)
