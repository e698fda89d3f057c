-- The search backwards from a root.
use Rattle.std.proofs.Common.{ℕ, ◌≡◌, ◌≢◌, ◌<◌, ◌≤◌, ◌+◌, ◌⊎◌, inl, inr, List, [], ◌∷◌, ◌++◌, length, get_or, set, refl, sym, ◌∙◌, ap, subst, arith, slice_get, Some, replicate, Contains, All, length-set}
use Rattle.std.proofs.lemmas.Bool.{cases_eq, cases_lt}
use Rattle.std.proofs.lemmas.Option.{slice_get_within}
use Rattle.std.proofs.lemmas.List.{length-replicate}
use Rattle.std.proofs.lemmas.List.Elements.{All-nil, All-push, All-contains, Contains-push, Contains-push_cases, Contains-get_or}
use Rattle.pil_cycles.specs.declared.components.Verdict.{Verdict}
use Rattle.pil_cycles.specs.declared.components.Verdict.TheVariants.{Unknown, Free, Cyclic}
use Rattle.pil_cycles.specs.Paths.{Path, Reaches}
use Rattle.pil_cycles.specs.Users.{Uses}
use Rattle.pil_cycles.specs.Finish.{IsFinished}
use Rattle.pil_cycles.specs.Verdicts.{IsUnknown, IsCyclic, IsKnown, IsMarked, AreVerdicts, IsJudged, IsNear, IsSpread}
use Rattle.pil_cycles.proofs.Paths.{path_then, step_then, reaches_join, along}
use Rattle.pil_cycles.proofs.Lists.{slice_get-set_same, slice_get-set_other, after_set, slice_get-replicate, standing, nothing_in, all_front, all_last, get_or-default}
use Rattle.pil_cycles.proofs.Marks.{not_both, known_same}

known_kept : (list : List ℕ) (old now : List Verdict) (todo more : List ℕ) → IsMarked list old now todo more → (k : ℕ) → IsKnown old k → IsKnown now k
known_kept list old now todo more h k known = elim (h.each k) as (λ u. IsKnown now k) [ inl e ↦ known_same old now k e known | inr w ↦ inr w.1 ]

-- the search begins with the root
pub spread_begin : (E : ℕ → ℕ → Type 0) (count : ℕ) (order : List ℕ) (at root : ℕ) (verdicts : List Verdict) (todo : List ℕ) → IsJudged E count order (at + 1) verdicts → slice_get order at ≡ Some root → root < count → todo ≡ [] ++ root ∷ [] → IsSpread E count order at root verdicts todo
spread_begin E count order at root verdicts todo h stands fits same = subst (λ s. IsSpread E count order at root verdicts s) (sym same) record {
  long = h.long;
  right = h.right;
  inside = All-push (λ k. k < count) [] root (All-nil (λ k. k < count)) fits;
  near = All-push (IsNear E order at root) [] root (All-nil (IsNear E order at root)) itself;
  closed = λ a b e known. elim known as (λ u. IsKnown verdicts a ⊎ Contains ([] ++ root ∷ []) b) [
    | inl k ↦ inl (h.closed a b e k)
    | inr s ↦ inr (subst (λ x. Contains ([] ++ root ∷ []) x) (sym s) (Contains-push [] root))
  ];
  late = λ p k after e. h.late p k (omega arith) e;
}
  where
    itself : IsNear E order at root root
    itself = record {
      reaches = inl refl;
      place = at;
      early = omega arith;
      stands = stands;
      between = λ p v from to e. let here : p ≡ at = omega arith in let there : slice_get order at ≡ Some v = subst (λ x. slice_get order x ≡ Some v) here e in let s : root ≡ v = cc in inl s;
    }

-- a number that isn't judged and leads to a near one is near
nearer : (E : ℕ → ℕ → Type 0) (count : ℕ) (order : List ℕ) (at root : ℕ) (verdicts : List Verdict) (item k : ℕ) → IsFinished E count order → ((p v : ℕ) → at < p → slice_get order p ≡ Some v → IsKnown verdicts v) → IsNear E order at root item → k < count → IsUnknown verdicts k → E k item → IsNear E order at root k
nearer E count order at root verdicts item k finished late near fits unknown e = record {
  reaches = inr (step_then E k item root e near.reaches);
  place = spot.0;
  early = elim (cases_lt at spot.0) as (λ u. spot.0 ≤ at) [ inl l ↦ absurd (not_both verdicts k (late spot.0 k l spot.1) unknown) | inr l ↦ l ];
  stands = spot.1;
  between = λ p v from to there. elim (cases_lt p near.place) as (λ u. Reaches E root v) [
    | inl l ↦ reaches_join E root item v (near.between near.place item (omega arith) near.early near.stands) (finished.covered spot.0 p near.place k v item from (omega arith) spot.1 there near.stands e)
    | inr l ↦ near.between p v l to there
  ];
}
  where
    spot : (i : ℕ) × (slice_get order i ≡ Some k)
    spot = standing order k (finished.all k fits)

-- a near number that leads to a near one is on a cycle
circle : (E : ℕ → ℕ → Type 0) (order : List ℕ) (at root item k : ℕ) → IsNear E order at root item → IsNear E order at root k → E k item → Path E k k
circle E order at root item k near this e =
    path_then E k root k (step_then E k item root e near.reaches) (this.between this.place k (omega arith) this.early this.stands)

-- the search goes on from one that is near
pub spread_more : (E : ℕ → ℕ → Type 0) (count : ℕ) (order : List ℕ) (at root : ℕ) (old now : List Verdict) (todo rest more list : List ℕ) (item : ℕ) → IsFinished E count order → ((a b : ℕ) → E a b → a < count) → IsSpread E count order at root old todo → todo ≡ rest ++ item ∷ [] → ((a : ℕ) → Contains list a → E a item) → ((a : ℕ) → E a item → Contains list a) → IsMarked list old now rest more → IsSpread E count order at root now more
spread_more E count order at root old now todo rest more list item finished users h same leads all marked = record {
  long = marked.long ∙ h.long;
  right = record {
    cyclic = λ k c. elim (marked.each k) as (λ u. Path E k k) [
      | inl e ↦ h.right.cyclic k (sym e ∙ c)
      | inr w ↦ circle E order at root item k near_item (new_near k w.0 w.2) (leads k w.2)
    ];
    free = λ k f. elim (marked.each k) as (λ u. ¬ Path E k k) [
      | inl e ↦ h.right.free k (sym e ∙ f)
      | inr w ↦ λ p. let c : IsCyclic now k = w.1 in let n : ⊥ = cc in n
    ];
  };
  inside = λ j d l. of_more (λ k. k < count) (λ k on. All-contains (λ x. x < count) rest k inside_rest on) (λ k u on. users k item (leads k on)) (get_or more j d) (Contains-get_or more j d l);
  near = λ j d l. of_more (IsNear E order at root) (λ k on. All-contains (IsNear E order at root) rest k near_rest on) new_near (get_or more j d) (Contains-get_or more j d l);
  closed = λ a b e known. elim (cases_eq b item) as (λ u. IsKnown now a ⊎ Contains more b) [
    | inl s ↦ inl (marked.all a (all a (subst (λ x. E a x) s e)))
    | inr ne ↦ elim known as (λ u. IsKnown now a ⊎ Contains more b) [
      | inl k ↦ elim (marked.each b) as (λ u. IsKnown now a ⊎ Contains more b) [
        | inl s ↦ before a b e ne (inl (known_same now old b (sym s) k))
        | inr w ↦ inr w.3
      ]
      | inr s ↦ before a b e ne (inr s)
    ]
  ];
  late = λ p k after e. known_kept list old now rest more marked k (h.late p k after e);
}
  where
    near_all : All (IsNear E order at root) (rest ++ item ∷ [])
    near_all = subst (λ s. All (IsNear E order at root) s) same h.near

    near_item : IsNear E order at root item
    near_item = all_last (IsNear E order at root) rest item near_all

    near_rest : All (IsNear E order at root) rest
    near_rest = all_front (IsNear E order at root) rest item near_all

    inside_rest : All (λ k. k < count) rest
    inside_rest = all_front (λ k. k < count) rest item (subst (λ s. All (λ k. k < count) s) same h.inside)

    new_near : (k : ℕ) → IsUnknown old k → Contains list k → IsNear E order at root k
    new_near k u on = nearer E count order at root old item k finished h.late near_item (users k item (leads k on)) u (leads k on)

    of_more : (P : ℕ → Type 0) → ((k : ℕ) → Contains rest k → P k) → ((k : ℕ) → IsUnknown old k → Contains list k → P k) → (k : ℕ) → Contains more k → P k
    of_more P f g k on = elim (marked.only k on) as (λ u. P k) [ inl c ↦ f k c | inr w ↦ g k w.0 w.1 ]

    before : (a b : ℕ) → E a b → b ≢ item → IsKnown old b ⊎ (b ≡ root) → IsKnown now a ⊎ Contains more b
    before a b e ne known = elim (h.closed a b e known) as (λ u. IsKnown now a ⊎ Contains more b) [
      | inl k ↦ inl (known_kept list old now rest more marked a k)
      | inr on ↦ elim (Contains-push_cases rest item b (subst (λ s. Contains s b) same on)) as (λ u. IsKnown now a ⊎ Contains more b) [
        | inl c ↦ inr (marked.kept b c)
        | inr s ↦ absurd (ne (sym s))
      ]
    ]

done : (E : ℕ → ℕ → Type 0) (count : ℕ) (order : List ℕ) (at root : ℕ) (verdicts : List Verdict) → IsSpread E count order at root verdicts [] → (a b : ℕ) → E a b → IsKnown verdicts b ⊎ (b ≡ root) → IsKnown verdicts a
done E count order at root verdicts h a b e known = elim (h.closed a b e known) as (λ u. IsKnown verdicts a) [ inl k ↦ k | inr on ↦ absurd (nothing_in b on) ]

late_too : (order : List ℕ) (at root : ℕ) (verdicts : List Verdict) → slice_get order at ≡ Some root → IsKnown verdicts root → ((p k : ℕ) → at < p → slice_get order p ≡ Some k → IsKnown verdicts k) → (p k : ℕ) → at ≤ p → slice_get order p ≡ Some k → IsKnown verdicts k
late_too order at root verdicts stands known late p k from e = elim (cases_eq p at) as (λ u. IsKnown verdicts k) [
  | inl here ↦ let there : slice_get order at ≡ Some k = subst (λ x. slice_get order x ≡ Some k) here e in let s : root ≡ k = cc in subst (λ x. IsKnown verdicts x) s known
  | inr ne ↦ late p k (omega arith) e
]

-- a search that comes back to its root
pub spread_end_known : (E : ℕ → ℕ → Type 0) (count : ℕ) (order : List ℕ) (at root : ℕ) (verdicts : List Verdict) → IsSpread E count order at root verdicts [] → slice_get order at ≡ Some root → IsKnown verdicts root → IsJudged E count order at verdicts
spread_end_known E count order at root verdicts h stands known = record {
  long = h.long;
  right = h.right;
  closed = λ a b e k. done E count order at root verdicts h a b e (inl k);
  late = late_too order at root verdicts stands known h.late;
}

-- one that doesn't: its root is on no cycle
pub spread_end_free : (E : ℕ → ℕ → Type 0) (count : ℕ) (order : List ℕ) (at root : ℕ) (verdicts : List Verdict) → IsSpread E count order at root verdicts [] → slice_get order at ≡ Some root → IsUnknown verdicts root → IsJudged E count order at (set verdicts root Free)
spread_end_free E count order at root verdicts h stands unknown = record {
  long = length-set verdicts _ _ ∙ h.long;
  right = record {
    cyclic = λ k c. elim (after_set verdicts root k Free Cyclic fits c) as (λ u. Path E k k) [ inl w ↦ let n : ⊥ = cc w.1 in absurd n | inr w ↦ h.right.cyclic k w.1 ];
    free = λ k f. elim (after_set verdicts root k Free Free fits f) as (λ u. ¬ Path E k k) [
      | inl w ↦ λ p. not_both verdicts root (along E (IsKnown verdicts) root root (λ x e. done E count order at root verdicts h x root e (inr refl)) (λ x y e k'. done E count order at root verdicts h x y e (inl k')) (subst (λ x. Path E x x) w.0 p)) unknown
      | inr w ↦ h.right.free k w.1
    ];
  };
  closed = λ a b e known. more a (done E count order at root verdicts h a b e (before b known));
  late = late_too order at root (set verdicts root Free) stands (inl (slice_get-set_same verdicts root Free fits)) (λ p k after e. more k (h.late p k after e));
}
  where
    fits : root < length verdicts
    fits = slice_get_within verdicts root Unknown unknown

    more : (k : ℕ) → IsKnown verdicts k → IsKnown (set verdicts root Free) k
    more k known = elim (cases_eq k root) as (λ u. IsKnown (set verdicts root Free) k) [
      | inl s ↦ absurd (not_both verdicts root (subst (λ x. IsKnown verdicts x) s known) unknown)
      | inr ne ↦ known_same verdicts (set verdicts root Free) k (slice_get-set_other verdicts root k Free ne) known
    ]

    before : (k : ℕ) → IsKnown (set verdicts root Free) k → IsKnown verdicts k ⊎ (k ≡ root)
    before k known = elim (cases_eq k root) as (λ u. IsKnown verdicts k ⊎ (k ≡ root)) [
      | inl s ↦ inr s
      | inr ne ↦ inl (known_same (set verdicts root Free) verdicts k (sym (slice_get-set_other verdicts root k Free ne)) known)
    ]

-- nothing has to be done where the root is judged
pub judged_already : (E : ℕ → ℕ → Type 0) (count : ℕ) (order : List ℕ) (at root : ℕ) (verdicts : List Verdict) → IsJudged E count order (at + 1) verdicts → slice_get order at ≡ Some root → IsKnown verdicts root → IsJudged E count order at verdicts
judged_already E count order at root verdicts h stands known = record {
  long = h.long;
  right = h.right;
  closed = h.closed;
  late = late_too order at root verdicts stands known (λ p k after e. h.late p k (omega arith) e);
}

pub judged_begin : (E : ℕ → ℕ → Type 0) (count : ℕ) (order : List ℕ) (from : ℕ) (verdicts : List Verdict) → verdicts ≡ replicate count Unknown → length order ≤ from → IsJudged E count order from verdicts
judged_begin E count order from verdicts same past = record {
  long = ap length same ∙ length-replicate count Unknown;
  right = record { cyclic = λ k c. absurd (unjudged k Cyclic (λ e. let n : ⊥ = cc in n) c); free = λ k f. absurd (unjudged k Free (λ e. let n : ⊥ = cc in n) f) };
  closed = λ a b e known. elim known as (λ u. IsKnown verdicts a) [ inl f ↦ absurd (unjudged b Free (λ q. let n : ⊥ = cc in n) f) | inr c ↦ absurd (unjudged b Cyclic (λ q. let n : ⊥ = cc in n) c) ];
  late = λ p k after e. let within : p < length order = slice_get_within order p k e in absurd (omega arith);
}
  where
    unjudged : (k : ℕ) (v : Verdict) → Unknown ≢ v → slice_get verdicts k ≡ Some v → ⊥
    unjudged k v ne e = ne (slice_get-replicate count k Unknown v (subst (λ s. slice_get s k ≡ Some v) same e))

pub judged_end : (E : ℕ → ℕ → Type 0) (count : ℕ) (order : List ℕ) (verdicts : List Verdict) → IsFinished E count order → IsJudged E count order 0 verdicts → AreVerdicts E count verdicts
judged_end E count order verdicts finished h = record {
  long = h.long;
  right = h.right;
  known = λ k fits. let spot : (i : ℕ) × (slice_get order i ≡ Some k) = standing order k (finished.all k fits) in h.late spot.0 k (omega arith) spot.1;
}

-- the users of an item, as a list that was read
pub users_read : (users : List (List ℕ)) (item : ℕ) (list was : List ℕ) → item < length users → list ≡ was → was ≡ get_or users item was → list ≡ get_or users item []
users_read users item list was fits same at = same ∙ at ∙ get_or-default users item was [] fits

-- they are in range
pub users_within : (users : List (List ℕ)) (item n : ℕ) (list : List ℕ) → list ≡ get_or users item [] → ((a b : ℕ) → Uses users a b → a < length users) → n ≡ length users → All (λ k. k < n) list
users_within users item n list same inside long k d l =
    let fits : get_or list k d < length users = inside (get_or list k d) item (subst (λ s. Contains s (get_or list k d)) same (Contains-get_or list k d l)) in
    omega arith
