-- The values that accesses lead to, and reads that have them.
use Rattle.std.proofs.Common.{◌≡◌, ◌==◌, ◌+◌, ◌<◌, ◌≤◌, ◌⊎◌, inl, inr, ⊎_elim, ℕ, zero, suc, Bool, true, false, true≢false, cond, List, [], ◌∷◌, ◌++◌, length, get_or, refl, ap, sym, ◌∙◌, subst, arith, append_assoc}
use Rattle.std.specs.Prelude.{All, AllPairs, Contains}
use Rattle.std.proofs.lemmas.Bool.{cases_eq, eqb-true, ne_eqb, eq-eqb}
use Rattle.std.proofs.lemmas.List.Elements.{All-contains, Contains-append_left, Contains-append_right, Contains-append_cases}
use Rattle.mem_rows.specs.declared.access.Access.{Access}
use Rattle.mem_rows.specs.Order.{of_key}
use Rattle.mem_rows.specs.Sequence.{IsEarlierWrite, IsLastWrite, HasLast, written, never, IsReadLastWrite}
use Rattle.mem_rows.proofs.Pairs.{Later, across, first_with, pairs_behind, pairs_front}

-- the value at each key, after one access and after some
abbrev pub put : (ℕ → ℕ) → Access → ℕ → ℕ
put f a k = cond a.write (cond (a.key == k) a.value (f k)) (f k)

abbrev pub after_all : (ℕ → ℕ) → List Access → ℕ → ℕ
after_all f [] k = f k
after_all f (a ∷ xs) k = after_all (put f a) xs k

-- each read has the value at its key
abbrev pub Reads : (ℕ → ℕ) → List Access → Type 0
Reads f [] = Unit {0}
Reads f (a ∷ xs) = (a.write ≡ false → a.value ≡ f a.key) × Reads (put f a) xs

abbrev pub Same : (ℕ → ℕ) → (ℕ → ℕ) → Type 0
Same f g = (k : ℕ) → f k ≡ g k

pub same_put : (f g : ℕ → ℕ) (a : Access) → Same f g → Same (put f a) (put g a)
same_put f g a h k = rw (h k) refl

pub same_after : (f g : ℕ → ℕ) (xs : List Access) → Same f g → Same (after_all f xs) (after_all g xs)
same_after f g [] h k = h k
same_after f g (a ∷ xs) h k = same_after (put f a) (put g a) xs (same_put f g a h) k

pub same_reads : (f g : ℕ → ℕ) (xs : List Access) → Same f g → Reads f xs → Reads g xs
same_reads f g [] h r = tt
same_reads f g (a ∷ xs) h (r, rest) = ((λ e. r e ∙ h a.key), same_reads (put f a) (put g a) xs (same_put f g a h) rest)

pub after_append : (f : ℕ → ℕ) (xs ys : List Access) → Same (after_all f (xs ++ ys)) (after_all (after_all f xs) ys)
after_append f [] ys k = refl
after_append f (a ∷ xs) ys k = after_append (put f a) xs ys k

pub reads_append : (f : ℕ → ℕ) (xs ys : List Access) → Reads f xs → Reads (after_all f xs) ys → Reads f (xs ++ ys)
reads_append f [] ys r s = s
reads_append f (a ∷ xs) ys (r, rest) s = (r, reads_append (put f a) xs ys rest s)

either_way : (b : Bool) (v : ℕ) → cond b v v ≡ v
either_way true v = refl
either_way false v = refl

-- a key's value comes of its own accesses
pub after_own : (f g : ℕ → ℕ) (xs : List Access) (k : ℕ) → f k ≡ g k → after_all f xs k ≡ after_all g (of_key xs k) k
after_own f g [] k e = e
after_own f g (a ∷ xs) k e =
    ⊎_elim
    (λ same. let yes : (a.key == k) ≡ true = eq-eqb a.key k same in rw yes (after_own (put f a) (put g a) xs k (rw (yes, e) refl)))
    (λ other. let no : (a.key == k) ≡ false = ne_eqb a.key k other in rw no (after_own (put f a) g xs k (rw no (either_way a.write (f k)) ∙ e))) (cases_eq a.key k)

-- ---- the last write of a key
data Last (f : ℕ → ℕ) (xs : List Access) (k : ℕ) : Type 0 where
  found : (w : Access) → Contains xs w → w.write ≡ true → w.key ≡ k → after_all f xs k ≡ w.value → ((v : Access) → Contains xs v → v.write ≡ true → v.key ≡ k → v.time ≤ w.time) → Last f xs k
  none : ((v : Access) → Contains xs v → v.write ≡ true → v.key ≡ k → ⊥) → after_all f xs k ≡ f k → Last f xs k

one_on : (x : Access) (xs : List Access) (w : Access) → Contains xs w → Contains (x ∷ xs) w
one_on x xs w (k, lt, e) = (suc k, (omega arith), e)

-- an element of a list is its first or one of the others
first_or : (x : Access) (xs : List Access) (v : Access) → Contains (x ∷ xs) v → (x ≡ v) ⊎ Contains xs v
first_or x xs v (zero, lt, e) = inl e
first_or x xs v (suc k, lt, e) = inr (k, (omega arith), e)

at_first : (f : ℕ → ℕ) (x : Access) (xs : List Access) (k : ℕ) → ((v : Access) → Contains xs v → v.write ≡ true → v.key ≡ k → ⊥) → after_all (put f x) xs k ≡ put f x k → (x.write ≡ true) ⊎ (x.write ≡ false) → (x.key ≡ k) ⊎ (x.key ≡ k → ⊥) → Last f (x ∷ xs) k
at_first f x xs k off e (inl w) (inl same) =
    let yes : (x.key == k) ≡ true = eq-eqb x.key k same in
    found x (0, (omega arith), refl) w same (e ∙ rw (w, yes) refl)
    (λ v at wv kv. ⊎_elim (λ is. let t : x.time ≡ v.time = ap (λ (a : Access). a.time) is in omega arith) (λ behind. absurd (off v behind wv kv)) (first_or x xs v at))
at_first f x xs k off e (inl w) (inr other) =
    let no : (x.key == k) ≡ false = ne_eqb x.key k other in
    none (λ v at wv kv. ⊎_elim (λ is. other (ap (λ (a : Access). a.key) is ∙ kv)) (λ behind. off v behind wv kv) (first_or x xs v at)) (e ∙ rw (w, no) refl)
at_first f x xs k off e (inr r) or =
    none (λ v at wv kv. ⊎_elim (λ is. absurd (true≢false (sym wv ∙ sym (ap (λ (a : Access). a.write) is) ∙ r))) (λ behind. off v behind wv kv) (first_or x xs v at)) (e ∙ rw r refl)

writes_or : (b : Bool) → (b ≡ true) ⊎ (b ≡ false)
writes_or true = inl refl
writes_or false = inr refl

last_of : (f : ℕ → ℕ) (xs : List Access) (k : ℕ) → AllPairs Later xs → Last f xs k
last_of f [] k h = none (λ v (i, lt, e) w kv. omega arith) refl
last_of f (x ∷ xs) k h = more (last_of (put f x) xs k (pairs_behind Later x xs h))
  where
    more : Last (put f x) xs k → Last f (x ∷ xs) k
    more (found w at ww kw e greatest) =
        found w (one_on x xs w at) ww kw e
        (λ v av wv kv. ⊎_elim
        (λ is. let lt : x.time < w.time = All-contains (Later x) xs w (first_with Later x xs h) at (ap (λ (a : Access). a.key) is ∙ kv ∙ sym kw) in let t : x.time ≡ v.time = ap (λ (a : Access). a.time) is in omega arith) (λ behind. greatest v behind wv kv) (first_or x xs v av))
    more (none off e) = at_first f x xs k off e (writes_or x.write) (cases_eq x.key k)

abbrev zeros : ℕ → ℕ
zeros k = 0

-- one read, with what is before it and behind it
one_read : (pre post : List Access) (a : Access) → AllPairs Later (pre ++ a ∷ post) → a.write ≡ false → a.value ≡ after_all zeros pre a.key → Last zeros pre a.key → HasLast (pre ++ a ∷ post) a
one_read pre post a h r e last = by last
  where
    before : (v : Access) → Contains (pre ++ a ∷ post) v → IsEarlierWrite a v → Contains pre v
    before v at early =
        let w = early.write in let t = early.before in
        ⊎_elim (λ c. c)
        (λ c. absurd (⊎_elim (λ is. let s : a.time ≡ v.time = ap (λ (x : Access). x.time) is in omega arith)
        (λ behind. let lt : a.time < v.time = All-contains (Later a) post v (first_with Later a post (later_part pre h)) behind (sym early.key) in omega arith) (first_or a post v c))) (Contains-append_cases pre (a ∷ post) v at)
      where
        later_part : (us : List Access) → AllPairs Later (us ++ a ∷ post) → AllPairs Later (a ∷ post)
        later_part [] p = p
        later_part (u ∷ us) p = later_part us (pairs_behind Later u (us ++ a ∷ post) p)

    by : Last zeros pre a.key → HasLast (pre ++ a ∷ post) a
    by (found w at ww kw is greatest) =
        written w (record {
          there = Contains-append_left pre (a ∷ post) w at;
          earlier = record { write = ww; key = kw; before = across Later pre (a ∷ post) w a h at (0, (omega arith), refl) kw };
          greatest = λ v av early. greatest v (before v av early) early.write early.key;
        }) (e ∙ is)
    by (none off is) = never (λ v av early. off v (before v av early) early.write early.key) (e ∙ is)

reads_from : (pre post : List Access) → AllPairs Later (pre ++ post) → AllPairs Later pre → Reads (after_all zeros pre) post → (a : Access) → Contains post a → a.write ≡ false → HasLast (pre ++ post) a
reads_from pre [] h p r a (i, lt, e) w = absurd (omega arith)
reads_from pre (x ∷ post) h p (r, rest) a at w =
    ⊎_elim
    (λ is. subst (λ y. HasLast (pre ++ x ∷ post) y) is (let wx : x.write ≡ false = ap (λ (y : Access). y.write) is ∙ w in one_read pre post x h wx (r wx) (last_of zeros pre x.key p)))
    (λ behind.
    let whole : (pre ++ x ∷ []) ++ post ≡ pre ++ x ∷ post = append_assoc pre (x ∷ []) post in
    subst (λ l. HasLast l a) whole
    (reads_from (pre ++ x ∷ []) post (subst (AllPairs Later) (sym whole) h) (pairs_front Later (pre ++ x ∷ []) post (subst (AllPairs Later) (sym whole) h)) (same_reads (put (after_all zeros pre) x) (after_all zeros (pre ++ x ∷ [])) post (λ k. sym (after_append zeros pre (x ∷ []) k)) rest) a behind w))
    (first_or x post a at)

pub right : (xs : List Access) → AllPairs Later xs → Reads zeros xs → IsReadLastWrite xs
right xs h r = reads_from [] xs h (λ i j d lt within. absurd (omega arith)) r
