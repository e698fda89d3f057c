-- Each line holds, or is broken first at one place or by one tuple.
use Rattle.std.proofs.Common.{ℕ, zero, suc, ◌+◌, ◌-◌, ◌<◌, ◌≡◌, ◌≢◌, ◌⊎◌, inl, inr, Bool, true, false, List, [], ◌∷◌, ◌++◌, length, refl, sym, ap, subst, ◌∙◌, arith}
use Rattle.std.proofs.lemmas.Bool.{cases_lt, true≢false}
use Rattle.std.specs.Str.{bytes_eq}
use Rattle.std.specs.Ordering.{nat_cmp, ordering_reverse}
use Rattle.std.specs.declared.cmp.Ordering.{Ordering}
use Rattle.std.specs.declared.cmp.Ordering.TheVariants.{Less, Equal, Greater}
use Rattle.std.specs.Cmp.Lexicographic.{slice_cmp}
use Rattle.std.proofs.lemmas.Cmp.{nat_list_cmp_total}
use Rattle.std.proofs.lemmas.Map.Lookups.{exact_bytes}
use Rattle.std.proofs.lemmas.Slice.Eq.{bytes_eq-Decides}
use Rattle.pil_ast.specs.Term.{Line, constant, commit, inter, published, identity, lookup, bus, Namespace, item_at}
use Rattle.pil_ast.specs.Columns.{Columns}
use Rattle.pil_ast.specs.Value.{value_in}
use Rattle.pil_ast.specs.Holds.{EqualAt, FoundAt, AtEachRow, AsOften, Holds, AllHold, selected, tuple, sent, all_sent, times, lines}
use Rattle.pil_ast.specs.Broken.{FailsFirst, BreaksAt, ComesBefore, DiffersFirst, BreaksBy}
use Rattle.row_check.specs.declared.broken.Broken.{Broken}
use Rattle.row_check.specs.declared.broken.Broken.TheVariants.{At, Counts}
use Rattle.row_check.specs.Breaks.{IsBreakOf, IsBreak, IsFirstBroken, line_of}
use Rattle.pil_laws.proofs.Times.{times_append, times_none, times_other}
use Rattle.pil_laws.proofs.Lines.{holds-within}

-- a line that is broken doesn't hold
at-fails : (ns : List Namespace) (c : Columns) (l : Line) (i r : ℕ) → BreaksAt ns c l i r → Holds ns c l → ⊥
at-fails ns c (constant n k) i r h holds = h
at-fails ns c (commit n k) i r h holds = h
at-fails ns c (inter n e) i r h holds = h
at-fails ns c (published n s k q) i r h holds = h
at-fails ns c (identity s a b) i r h holds = h.fails (holds i r h.instance h.row)
at-fails ns c (lookup a b) i r h holds = h.fails (holds i r h.instance h.row)
at-fails ns c (bus ls rs) i r h holds = h

by-fails : (ns : List Namespace) (c : Columns) (l : Line) (t : List ℕ) (m n : ℕ) → BreaksBy ns c l t m n → Holds ns c l → ⊥
by-fails ns c (constant x k) t m n h holds = h
by-fails ns c (commit x k) t m n h holds = h
by-fails ns c (inter x e) t m n h holds = h
by-fails ns c (published x s k q) t m n h holds = h
by-fails ns c (identity s a b) t m n h holds = h
by-fails ns c (lookup a b) t m n h holds = h
by-fails ns c (bus ls rs) t m n h holds = h.differ (sym h.left ∙ holds t ∙ h.right)

break-fails : (ns : List Namespace) (c : Columns) (l : Line) (k : ℕ) (b : Broken) → IsBreakOf ns c l k b → Holds ns c l → ⊥
break-fails ns c l k (At line i r) h holds = at-fails ns c l i r h.1 holds
break-fails ns c l k (Counts line t m n) h holds = by-fails ns c l t m n h.1 holds

-- the first place at which a fact fails is one
one-row : (c : Columns) (s : ℕ) (P : ℕ → ℕ → Type 0) (i r j q : ℕ) → i ≡ j → FailsFirst c s P i r → FailsFirst c s P j q → r ≡ q
one-row c s P i r j q e x y = elim (cases_lt r q) [
  | inl l ↦ absurd (x.fails (y.first i r x.instance x.row (inr (e, l))))
  | inr g ↦ elim (cases_lt q r) [
    | inl l ↦ absurd (y.fails (x.first j q y.instance y.row (inr (sym e, l))))
    | inr f ↦ omega arith
  ]
]

one-instance : (c : Columns) (s : ℕ) (P : ℕ → ℕ → Type 0) (i r j q : ℕ) → FailsFirst c s P i r → FailsFirst c s P j q → i ≡ j
one-instance c s P i r j q x y = elim (cases_lt i j) [
  | inl l ↦ absurd (x.fails (y.first i r x.instance x.row (inl l)))
  | inr g ↦ elim (cases_lt j i) [
    | inl l ↦ absurd (y.fails (x.first j q y.instance y.row (inl l)))
    | inr f ↦ omega arith
  ]
]

one-place : (c : Columns) (s : ℕ) (P : ℕ → ℕ → Type 0) (i r j q : ℕ) → FailsFirst c s P i r → FailsFirst c s P j q → (i ≡ j) × (r ≡ q)
one-place c s P i r j q x y = let e = one-instance c s P i r j q x y in (e, one-row c s P i r j q e x y)

one-at : (ns : List Namespace) (c : Columns) (l : Line) (i r j q : ℕ) → BreaksAt ns c l i r → BreaksAt ns c l j q → (i ≡ j) × (r ≡ q)
one-at ns c (constant n k) i r j q h w = absurd h
one-at ns c (commit n k) i r j q h w = absurd h
one-at ns c (inter n e) i r j q h w = absurd h
one-at ns c (published n s k p) i r j q h w = absurd h
one-at ns c (identity s a b) i r j q h w = one-place c s (EqualAt ns c s a b) i r j q h w
one-at ns c (lookup a b) i r j q h w = one-place c a.space (FoundAt ns c a b) i r j q h w
one-at ns c (bus ls rs) i r j q h w = absurd h

-- and so is the least tuple
one-tuple : (xs ys : List (List ℕ)) (t u : List ℕ) (m n m' n' : ℕ) (o : Ordering) → slice_cmp nat_cmp t u ≡ o → DiffersFirst xs ys t m n → DiffersFirst xs ys u m' n' → t ≡ u
one-tuple xs ys t u m n m' n' Less e x y = absurd (x.differ (sym x.left ∙ y.first t e ∙ x.right))
one-tuple xs ys t u m n m' n' Equal e x y = exact_bytes t u e
one-tuple xs ys t u m n m' n' Greater e x y = absurd (y.differ (sym y.left ∙ x.first u (nat_list_cmp_total.antisymm u t ∙ ap ordering_reverse e) ∙ y.right))

one-differs : (xs ys : List (List ℕ)) (t u : List ℕ) (m n m' n' : ℕ) → DiffersFirst xs ys t m n → DiffersFirst xs ys u m' n' → (t ≡ u) × (m ≡ m') × (n ≡ n')
one-differs xs ys t u m n m' n' x y =
    let e = one-tuple xs ys t u m n m' n' _ refl x y in
    (e, sym x.left ∙ ap (λ v. times v xs) e ∙ y.left, sym x.right ∙ ap (λ v. times v ys) e ∙ y.right)

one-by : (ns : List Namespace) (c : Columns) (l : Line) (t u : List ℕ) (m n m' n' : ℕ) → BreaksBy ns c l t m n → BreaksBy ns c l u m' n' → (t ≡ u) × (m ≡ m') × (n ≡ n')
one-by ns c (constant x k) t u m n m' n' h w = absurd h
one-by ns c (commit x k) t u m n m' n' h w = absurd h
one-by ns c (inter x e) t u m n m' n' h w = absurd h
one-by ns c (published x s k p) t u m n m' n' h w = absurd h
one-by ns c (identity s a b) t u m n m' n' h w = absurd h
one-by ns c (lookup a b) t u m n m' n' h w = absurd h
one-by ns c (bus ls rs) t u m n m' n' h w = one-differs (all_sent ns c ls) (all_sent ns c rs) t u m n m' n' h w

-- a line isn't broken both at a place and by a tuple
one-way : (ns : List Namespace) (c : Columns) (l : Line) (i r : ℕ) (t : List ℕ) (m n : ℕ) → BreaksAt ns c l i r → BreaksBy ns c l t m n → ⊥
one-way ns c (constant x k) i r t m n h w = h
one-way ns c (commit x k) i r t m n h w = h
one-way ns c (inter x e) i r t m n h w = h
one-way ns c (published x s k p) i r t m n h w = h
one-way ns c (identity s a b) i r t m n h w = w
one-way ns c (lookup a b) i r t m n h w = w
one-way ns c (bus ls rs) i r t m n h w = h

one-break : (ns : List Namespace) (c : Columns) (l : Line) (k : ℕ) (a b : Broken) → IsBreakOf ns c l k a → IsBreakOf ns c l k b → a ≡ b
one-break ns c l k (At x i r) (At y j q) h w = let e = one-at ns c l i r j q h.1 w.1 in cc (e.0, e.1, h.0, w.0)
one-break ns c l k (At x i r) (Counts y u m n) h w = absurd (one-way ns c l i r u m n h.1 w.1)
one-break ns c l k (Counts x t m n) (At y j q) h w = absurd (one-way ns c l j q t m n w.1 h.1)
one-break ns c l k (Counts x t m n) (Counts y u m' n') h w = let e = one-by ns c l t u m n m' n' h.1 w.1 in cc (e.0, e.1, e.2, h.0, w.0)

-- the first broken line is one
not-later : (ns : List Namespace) (c : Columns) (a b : Broken) → IsFirstBroken ns c a → IsFirstBroken ns c b → line_of a < line_of b → ⊥
not-later ns c a b x y l = break-fails ns c (item_at (lines ns) (line_of a - 1)) (line_of a) a x.breaks (y.before (line_of a) x.some l)

pub one-first : (ns : List Namespace) (c : Columns) (a b : Broken) → IsFirstBroken ns c a → IsFirstBroken ns c b → a ≡ b
one-first ns c a b x y =
    let e : line_of a ≡ line_of b = elim (cases_lt (line_of a) (line_of b)) [
      | inl l ↦ absurd (not-later ns c a b x y l)
      | inr g ↦ elim (cases_lt (line_of b) (line_of a)) [
        | inl l ↦ absurd (not-later ns c b a y x l)
        | inr f ↦ omega arith
      ]
    ] in
    one-break ns c (item_at (lines ns) (line_of a - 1)) (line_of a) a b x.breaks (subst (λ k. IsBreak ns c k b) (sym e) y.breaks)

pub never-both : (ns : List Namespace) (c : Columns) (b : Broken) → AllHold ns c → IsFirstBroken ns c b → ⊥
never-both ns c b all x = break-fails ns c (item_at (lines ns) (line_of b - 1)) (line_of b) b x.breaks (all (line_of b - 1))

-- a number below n at which a fact fails, and fails first
abbrev FailsBelow : (ℕ → Type 0) → ℕ → Type 0
FailsBelow P n = (r : ℕ) × (r < n) × (¬ P r) × ((q : ℕ) → q < r → P q)

-- a fact that can be tested holds of each number below n, or fails first at one
search-below : (P : ℕ → Type 0) → ((r : ℕ) → P r ⊎ (¬ P r)) → (n : ℕ) → ((r : ℕ) → r < n → P r) ⊎ FailsBelow P n
search-below P test zero = inl (λ r l. absurd (omega arith))
search-below P test (suc n) = by (search-below P test n) (test n)
  where
    by : ((r : ℕ) → r < n → P r) ⊎ FailsBelow P n → P n ⊎ (¬ P n) → ((r : ℕ) → r < suc n → P r) ⊎ FailsBelow P (suc n)
    by (inr f) t = inr (f.0, let l = f.1 in omega arith, f.2, f.3)
    by (inl all) (inr fails) = inr (n, omega arith, fails, all)
    by (inl all) (inl here) = inl (λ r l. elim (cases_lt r n) [
      | inl m ↦ all r m
      | inr g ↦ (let e : n ≡ r = omega arith in subst P e here)
    ])

search-rows : (c : Columns) (s : ℕ) (P : ℕ → ℕ → Type 0) → ((i r : ℕ) → P i r ⊎ (¬ P i r)) → AtEachRow c s P ⊎ ((i : ℕ) × (r : ℕ) × FailsFirst c s P i r)
search-rows c s P test = by (search-below Each each (c.instances s))
  where
    Each : ℕ → Type 0
    Each i = (r : ℕ) → r < c.rows s → P i r

    each : (i : ℕ) → Each i ⊎ (¬ Each i)
    each i = elim (search-below (P i) (test i) (c.rows s)) as (λ x. Each i ⊎ (¬ Each i)) [
      | inl all ↦ inl all
      | inr f ↦ inr (λ all. f.2 (all f.0 f.1))
    ]

    at : (i : ℕ) → i < c.instances s → (¬ Each i) → ((j : ℕ) → j < i → Each j) → ((r : ℕ) → r < c.rows s → P i r) ⊎ FailsBelow (P i) (c.rows s) → (r : ℕ) × FailsFirst c s P i r
    at i l fails before (inl all) = absurd (fails all)
    at i l fails before (inr f) = (
      f.0,
      record {
        instance = l;
        row = f.1;
        fails = f.2;
        first = λ j q jl ql b. elim b as (λ x. P j q) [
          | inl m ↦ before j m q ql
          | inr e ↦ subst (λ k. P k q) (sym e.0) (f.3 q e.1)
        ];
      },
    )

    by : ((i : ℕ) → i < c.instances s → Each i) ⊎ FailsBelow Each (c.instances s) → AtEachRow c s P ⊎ ((i : ℕ) × (r : ℕ) × FailsFirst c s P i r)
    by (inl all) = inl (λ i r l m. all i l r m)
    by (inr f) = let rest = at f.0 f.1 f.2 f.3 (search-below (P f.0) (test f.0) (c.rows s)) in inr (f.0, rest.0, rest.1)

same-number : (a b : ℕ) → (a ≡ b) ⊎ (a ≢ b)
same-number a b = elim (cases_lt a b) as (λ x. (a ≡ b) ⊎ (a ≢ b)) [
  | inl l ↦ inr (λ e. omega arith)
  | inr g ↦ elim (cases_lt b a) as (λ x. (a ≡ b) ⊎ (a ≢ b)) [
    | inl l ↦ inr (λ e. omega arith)
    | inr f ↦ inl (omega arith)
  ]
]

found-or-not : (b : Bool) (n : ℕ) → (b ≡ true → n ≢ 0) ⊎ (¬ (b ≡ true → n ≢ 0))
found-or-not false n = inl (λ e. absurd (true≢false (sym e)))
found-or-not true n = elim (same-number n 0) as (λ x. (true ≡ true → n ≢ 0) ⊎ (¬ (true ≡ true → n ≢ 0))) [
  | inl e ↦ inr (λ h. h refl e)
  | inr d ↦ inl (λ e. d)
]

-- the least tuple of a list at which a fact fails
abbrev FailsAmong : (List ℕ → Type 0) → List (List ℕ) → Type 0
FailsAmong D zs = (t : List ℕ) × (¬ D t) × ((u : List ℕ) → times u zs ≢ 0 → ComesBefore u t → D u)

abbrev HoldsAmong : (List ℕ → Type 0) → List (List ℕ) → Type 0
HoldsAmong D zs = (u : List ℕ) → times u zs ≢ 0 → D u

not-before-itself : (z : List ℕ) (o : Ordering) → slice_cmp nat_cmp z z ≡ o → ComesBefore z z → ⊥
not-before-itself z o e b =
    let turned : slice_cmp nat_cmp z z ≡ Greater = nat_list_cmp_total.antisymm z z ∙ ap ordering_reverse b in
    absurd (cc (turned, b))

-- a tuple of a longer list is the first, or stands in the rest
first-or-rest : (u z : List ℕ) (zs : List (List ℕ)) (Q : Type 0) → times u (z ∷ zs) ≢ 0 → (z ≡ u → Q) → (times u zs ≢ 0 → Q) → Q
first-or-rest u z zs Q s first rest = by (bytes_eq z u) refl
  where
    by : (b : Bool) → bytes_eq z u ≡ b → Q
    by true e = first ((bytes_eq-Decides z u).0 e)
    by false e = rest (λ n. s (times_other u z zs e ∙ n))

search-among : (D : List ℕ → Type 0) → ((u : List ℕ) → D u ⊎ (¬ D u)) → (zs : List (List ℕ)) → HoldsAmong D zs ⊎ FailsAmong D zs
search-among D test [] = inl (λ u s. absurd (s (times_none u)))
search-among D test (z ∷ zs) = by (search-among D test zs) (test z)
  where
    ordered : (f : FailsAmong D zs) → (¬ D z) → (o : Ordering) → slice_cmp nat_cmp z f.0 ≡ o → FailsAmong D (z ∷ zs)
    ordered f fails Less e = (
      z,
      fails,
      λ u s b. first-or-rest u z zs (D u) s
          (λ same. absurd (not-before-itself z _ refl (subst (λ v. ComesBefore v z) (sym same) b)))
          (λ rest. f.2 u rest (nat_list_cmp_total.trans u z f.0 b e)),
    )
    ordered f fails Equal e = (
      f.0,
      f.1,
      λ u s b. first-or-rest u z zs (D u) s
          (λ same. let less : slice_cmp nat_cmp z f.0 ≡ Less = subst (λ v. ComesBefore v f.0) (sym same) b in absurd (cc (less, e)))
          (λ rest. f.2 u rest b),
    )
    ordered f fails Greater e = (
      f.0,
      f.1,
      λ u s b. first-or-rest u z zs (D u) s
          (λ same. let less : slice_cmp nat_cmp z f.0 ≡ Less = subst (λ v. ComesBefore v f.0) (sym same) b in absurd (cc (less, e)))
          (λ rest. f.2 u rest b),
    )

    by : HoldsAmong D zs ⊎ FailsAmong D zs → D z ⊎ (¬ D z) → HoldsAmong D (z ∷ zs) ⊎ FailsAmong D (z ∷ zs)
    by (inl all) (inl here) = inl (λ u s. first-or-rest u z zs (D u) s (λ same. subst D same here) (all u))
    by (inl all) (inr fails) = inr (
      z,
      fails,
      λ u s b. first-or-rest u z zs (D u) s
          (λ same. absurd (not-before-itself z _ refl (subst (λ v. ComesBefore v z) (sym same) b)))
          (all u),
    )
    by (inr f) (inl here) = inr (f.0, f.1, λ u s b. first-or-rest u z zs (D u) s (λ same. subst D same here) (λ rest. f.2 u rest b))
    by (inr f) (inr fails) = inr (ordered f fails _ refl)

-- a tuple that stands in neither of two lists stands equally often in both
nowhere-alike : (xs ys : List (List ℕ)) (u : List ℕ) → times u (xs ++ ys) ≡ 0 → times u xs ≡ times u ys
nowhere-alike xs ys u e = let both = times_append u xs ys in omega arith

search-tuples : (xs ys : List (List ℕ)) → AsOften xs ys ⊎ ((t : List ℕ) × (m : ℕ) × (n : ℕ) × DiffersFirst xs ys t m n)
search-tuples xs ys = by (search-among Alike (λ u. same-number (times u xs) (times u ys)) (xs ++ ys))
  where
    Alike : List ℕ → Type 0
    Alike u = times u xs ≡ times u ys

    anywhere : (u : List ℕ) → (times u (xs ++ ys) ≢ 0 → Alike u) → Alike u
    anywhere u h = elim (same-number (times u (xs ++ ys)) 0) as (λ x. Alike u) [
      | inl e ↦ nowhere-alike xs ys u e
      | inr d ↦ h d
    ]

    by : HoldsAmong Alike (xs ++ ys) ⊎ FailsAmong Alike (xs ++ ys) → AsOften xs ys ⊎ ((t : List ℕ) × (m : ℕ) × (n : ℕ) × DiffersFirst xs ys t m n)
    by (inl all) = inl (λ u. anywhere u (all u))
    by (inr f) = inr (f.0, times f.0 xs, times f.0 ys, record { left = refl; right = refl; differ = f.1; first = λ u b. anywhere u (λ s. f.2 u s b) })

-- a line holds, or is broken somewhere first
abbrev Breaks : List Namespace → Columns → Line → ℕ → Type 0
Breaks ns c l k = (b : Broken) × IsBreakOf ns c l k b × (line_of b ≡ k)

search-line : (ns : List Namespace) (c : Columns) (l : Line) (k : ℕ) → Holds ns c l ⊎ Breaks ns c l k
search-line ns c (constant n x) k = inl tt
search-line ns c (commit n x) k = inl tt
search-line ns c (inter n e) k = inl tt
search-line ns c (published n s x r) k = inl tt
search-line ns c (identity s a b) k =
    elim (search-rows c s (EqualAt ns c s a b) (λ i r. same-number (value_in ns c s i r a) (value_in ns c s i r b))) as (λ x. Holds ns c (identity s a b) ⊎ Breaks ns c (identity s a b) k) [
      | inl all ↦ inl all
      | inr f ↦ inr (At k f.0 f.1, (refl, f.2), refl)
    ]
search-line ns c (lookup a b) k =
    elim (search-rows c a.space (FoundAt ns c a b) (λ i r. found-or-not (selected ns c a.space i r a.sel) (times (tuple ns c a.space i r a.terms) (sent ns c b)))) as (λ x. Holds ns c (lookup a b) ⊎ Breaks ns c (lookup a b) k) [
      | inl all ↦ inl all
      | inr f ↦ inr (At k f.0 f.1, (refl, f.2), refl)
    ]
search-line ns c (bus ls rs) k =
    elim (search-tuples (all_sent ns c ls) (all_sent ns c rs)) as (λ x. Holds ns c (bus ls rs) ⊎ Breaks ns c (bus ls rs) k) [
      | inl all ↦ inl all
      | inr f ↦ inr (Counts k f.0 f.1 f.2, (refl, f.3), refl)
    ]

pub search-lines : (ns : List Namespace) (c : Columns) → AllHold ns c ⊎ ((b : Broken) × IsFirstBroken ns c b)
search-lines ns c = by (search-below Line-holds test (length (lines ns)))
  where
    Line-holds : ℕ → Type 0
    Line-holds k = Holds ns c (item_at (lines ns) k)

    test : (k : ℕ) → Line-holds k ⊎ (¬ Line-holds k)
    test k = elim (search-line ns c (item_at (lines ns) k) (k + 1)) as (λ x. Line-holds k ⊎ (¬ Line-holds k)) [
      | inl holds ↦ inl holds
      | inr f ↦ inr (break-fails ns c (item_at (lines ns) k) (k + 1) f.0 f.1)
    ]

    broken : (f : FailsBelow Line-holds (length (lines ns))) → Line-holds f.0 ⊎ Breaks ns c (item_at (lines ns) f.0) (f.0 + 1) → (b : Broken) × IsFirstBroken ns c b
    broken f (inl holds) = absurd (f.2 holds)
    broken f (inr x) =
        let inside = f.1 in
        let at = x.2 in
        let place : line_of x.0 - 1 ≡ f.0 = omega arith in (
          x.0,
          record {
            some = omega arith;
            inside = omega arith;
            breaks = subst (λ k. IsBreakOf ns c (item_at (lines ns) k) (line_of x.0) x.0) (sym place) (subst (λ k. IsBreakOf ns c (item_at (lines ns) f.0) k x.0) (sym at) x.1);
            before = λ k some below. f.3 (k - 1) (omega arith);
          },
        )

    by : ((k : ℕ) → k < length (lines ns) → Line-holds k) ⊎ FailsBelow Line-holds (length (lines ns)) → AllHold ns c ⊎ ((b : Broken) × IsFirstBroken ns c b)
    by (inl all) = inl (holds-within ns c (lines ns) all)
    by (inr f) = inr (broken f (search-line ns c (item_at (lines ns) f.0) (f.0 + 1)))
