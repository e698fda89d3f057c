-- The marks that a list has as the items get theirs.
use Rattle.std.proofs.Common.{ℕ, zero, suc, ◌≡◌, ◌<◌, ◌≤◌, ◌+◌, List, [], ◌∷◌, ◌++◌, length, get_or, set, map, take, slice_get, slice_index_or, All, Contains, Bool, true, false, not, None, refl, sym, ap, subst, ◌∙◌, arith, inl, inr, ◌⊎◌}
use Rattle.std.proofs.lemmas.Bool.{cases_lt, cases_eq, cases_Bool, false≢true}
use Rattle.std.proofs.lemmas.List.{take_more, map-append, length-map, length_push, length-set, get_or-set_same, get_or-set_other, get_or_past, get_or_append_left, get_or_push}
use Rattle.std.proofs.lemmas.List.Elements.{Contains-push_cases, All-get_or}
use Rattle.pil_ast.specs.declared.turns.Turn.{Turn}
use Rattle.pil_ast.specs.declared.tree.Space.{Space}
use Rattle.pil_ast.specs.Tree.{namespace}
use Rattle.pil_ast.specs.Term.{Line, constant, commit, inter, published, identity, lookup, bus, num, Namespace, item_at, body_of, inter_at, space_at}
use Rattle.pil_ast.specs.Sound.{IsInter}
use Rattle.pil_ast.specs.Written.{marked}
use Rattle.pil_ast.specs.Turns.{items_of, IsPlan}
use Rattle.pil_meaning.specs.Marks.{is_marked_in, AreMarks, AreAllMarks, mark_in}

pub none-at : (xs : List Bool) (k : ℕ) → slice_get xs k ≡ None → slice_index_or xs k false ≡ false
none-at [] k e = refl
none-at (x ∷ xs) zero e = let no : ⊥ = cc in absurd no
none-at (x ∷ xs) (suc k) e = none-at xs k e

-- an item without an expression has no mark
body-none : (l : Line) → IsInter l ⊎ (body_of l ≡ num 0)
body-none (constant n len) = inr refl
body-none (commit n len) = inr refl
body-none (inter n e) = inl tt
body-none (published n m k r) = inr refl
body-none (identity m a b) = inr refl
body-none (lookup a b) = inr refl
body-none (bus ls rs) = inr refl

pub unmarked : (items : List Line) (k : ℕ) → inter_at items k ≡ num 0 → is_marked_in items k ≡ false
unmarked items k e = ap (marked items) e

pub past : (items : List Line) (k : ℕ) → length items ≤ k → inter_at items k ≡ num 0
past [] k l = refl
past (x ∷ xs) zero l = absurd (omega arith)
past (x ∷ xs) (suc k) l = past xs k (omega arith)

-- the items of the list have their marks, and no other is marked
pub record Marks (items : List Line) (turned : List ℕ) (marks : List Bool) : Type 0 where
  pub long : length marks ≡ length items
  pub sound : (k : ℕ) → slice_index_or marks k false ≡ true → is_marked_in items k ≡ true
  pub done : (k : ℕ) → Contains turned k → slice_index_or marks k false ≡ is_marked_in items k

pub marks-none : (items : List Line) (marks : List Bool) → length marks ≡ length items → ((k : ℕ) → slice_index_or marks k false ≡ false) → Marks items [] marks
marks-none items marks l f = record {
  long = l;
  sound = λ k e. absurd (false≢true (sym (f k) ∙ e));
  done = λ k c. absurd (let no : ⊥ = omega (arith, c.1) in no);
}

pub marks-more : (items : List Line) (turned : List ℕ) (marks : List Bool) (j : ℕ) (b : Bool) → Marks items turned marks → j < length items → b ≡ is_marked_in items j → Marks items (turned ++ j ∷ []) (set marks j b)
marks-more items turned marks j b h l e =
    let within : j < length marks = omega (arith, h.long, l) in
    record {
      long = length-set marks j b ∙ h.long;
      sound = λ k t. elim (cases_eq k j) as (λ w. is_marked_in items k ≡ true) [
        | inl same ↦ subst (λ i. is_marked_in items i ≡ true) (sym same) (sym e ∙ (sym (get_or-set_same marks j b false within) ∙ (subst (λ i. get_or (set marks j b) i false ≡ true) same t)))
        | inr other ↦ h.sound k (sym (get_or-set_other marks j k b false other) ∙ t)
      ];
      done = λ k c. elim (cases_eq k j) as (λ w. slice_index_or (set marks j b) k false ≡ is_marked_in items k) [
        | inl same ↦ subst (λ i. get_or (set marks j b) i false ≡ is_marked_in items i) (sym same) (get_or-set_same marks j b false within ∙ e)
        | inr other ↦ get_or-set_other marks j k b false other ∙ h.done k (elim (Contains-push_cases turned j k c) as (λ w. Contains turned k) [ inl w ↦ w | inr same ↦ absurd (other (sym same)) ])
      ];
    }

pub marks-all : (items : List Line) (turned : List ℕ) (marks : List Bool) → Marks items turned marks → ((k : ℕ) → k < length items → IsInter (item_at items k) → Contains turned k) → AreMarks items marks
marks-all items turned marks h whole k =
    elim (cases_lt k (length items)) as (λ w. slice_index_or marks k false ≡ is_marked_in items k) [
      | inl l ↦ elim (body-none (item_at items k)) as (λ w. slice_index_or marks k false ≡ is_marked_in items k) [ inl i ↦ h.done k (whole k l i) | inr n ↦ no-mark (unmarked items k n) ]
      | inr l ↦ no-mark (unmarked items k (past items k l))
    ]
  where
    no-mark : is_marked_in items k ≡ false → slice_index_or marks k false ≡ is_marked_in items k
    no-mark n = elim (cases_Bool (slice_index_or marks k false)) as (λ w. slice_index_or marks k false ≡ is_marked_in items k) [ inl t ↦ absurd (false≢true (sym n ∙ h.sound k t)) | inr f ↦ f ∙ sym n ]

pub turned-more : (turns : List Turn) (i : ℕ) (t : Turn) → i < length turns → t ≡ get_or turns i t → items_of (take (i + 1) turns) ≡ items_of (take i turns) ++ t.item ∷ []
turned-more turns i t l e = ap items_of (take_more turns i t l) ∙ map-append (λ (u : Turn). u.item) (take i turns) (get_or turns i t ∷ []) ∙ ap (λ (u : Turn). items_of (take i turns) ++ u.item ∷ []) (sym e)

-- what a plan says of its turn
pub record IsTurn (items : List Line) (t : Turn) : Type 0 where
  pub within : t.item < length items
  pub mark : not t.ahead ≡ is_marked_in items t.item

not-not : (b : Bool) → not (not b) ≡ b
not-not true = refl
not-not false = refl

pub turn-is : (items : List Line) (turns : List Turn) (i : ℕ) (t : Turn) → IsPlan items turns → i < length turns → t ≡ get_or turns i t → IsTurn items t
turn-is items turns i t plan l e =
    let ahead : t.ahead ≡ not (is_marked_in items t.item) = subst (λ (u : Turn). u.ahead ≡ not (is_marked_in items u.item)) (sym e) (All-get_or (λ (u : Turn). u.ahead ≡ not (is_marked_in items u.item)) turns i t l plan.marks) in
    record {
      within = at-map turns i t (plan.whole.ordered.inside) l e;
      mark = ap not ahead ∙ not-not (is_marked_in items t.item);
    }
  where
    at-map : (us : List Turn) (i : ℕ) (u : Turn) → All (λ k. k < length items) (items_of us) → i < length us → u ≡ get_or us i u → u.item < length items
    at-map us i u a l e =
        let h : get_or (items_of us) i 0 < length items = All-get_or (λ k. k < length items) (items_of us) i 0 (omega (arith, length-map us (λ (w : Turn). w.item))) a in
        subst (λ n. n < length items) (item-at us i u l e) h
      where
        item-at : (us : List Turn) (i : ℕ) (u : Turn) → i < length us → u ≡ get_or us i u → get_or (items_of us) i 0 ≡ u.item
        item-at [] i u l e = absurd (omega arith)
        item-at (v ∷ us) zero u l e = ap (λ (w : Turn). w.item) (sym e)
        item-at (v ∷ us) (suc i) u l e = item-at us i u (omega arith) e

-- the first namespaces have their marks
pub record FirstMarks (ns : List Namespace) (n : ℕ) (marks : List (List Bool)) : Type 0 where
  pub long : length marks ≡ n
  pub each : (s : ℕ) → s < n → AreMarks (space_at ns s).items (slice_index_or marks s [])

pub first-marks-none : (ns : List Namespace) (marks : List (List Bool)) → marks ≡ [] → FirstMarks ns 0 marks
first-marks-none ns marks e = record { long = ap length e; each = λ s l. absurd (let no : ⊥ = omega (arith, l) in no) }

pub first-marks-more : (ns : List Namespace) (n : ℕ) (marks more : List (List Bool)) (here : List Bool) → FirstMarks ns n marks → AreMarks (space_at ns n).items here → more ≡ marks ++ here ∷ [] → FirstMarks ns (n + 1) more
first-marks-more ns n marks more here h m e = subst (FirstMarks ns (n + 1)) (sym e) record {
  long = omega (arith, h.long, length_push marks here);
  each = λ s l. elim (cases_lt s n) as (λ w. AreMarks (space_at ns s).items (slice_index_or (marks ++ here ∷ []) s [])) [
    | inl w ↦ subst (AreMarks (space_at ns s).items) (sym (get_or_append_left marks (here ∷ []) [] s (omega (arith, h.long, w)))) (h.each s w)
    | inr w ↦ (
        let same : n ≡ s = omega (arith, l, w) in
        subst (AreMarks (space_at ns s).items) (sym (get_or_push marks here [] s (h.long ∙ same))) (subst (λ k. AreMarks (space_at ns k).items here) same m))
  ];
}

space-past : (ns : List Namespace) (s : ℕ) → length ns ≤ s → (space_at ns s).items ≡ []
space-past [] s l = refl
space-past (n ∷ ns) zero l = absurd (omega arith)
space-past (n ∷ ns) (suc s) l = space-past ns s (omega arith)

pub first-marks-all : (ns : List Namespace) (n : ℕ) (marks : List (List Bool)) → FirstMarks ns n marks → length ns ≤ n → AreAllMarks ns marks
first-marks-all ns n marks h l s k = elim (cases_lt s n) as (λ w. mark_in marks s k ≡ is_marked_in (space_at ns s).items k) [
  | inl w ↦ h.each s w k
  | inr w ↦ ap (λ ms. slice_index_or ms k false) (get_or_past marks s [] (omega (arith, h.long, w))) ∙ sym (ap (λ items. is_marked_in items k) (space-past ns s (omega (arith, l, w))))
]

-- the namespace that a loop over them finds
pub space-here : (spaces all : List Space) (i : ℕ) (x : Space) → all ≡ spaces → i < length all → x ≡ get_or all i x → space_at (map namespace spaces) i ≡ namespace x
space-here spaces all i x same l e = at spaces i x (subst (λ a. i < length a) same l) (e ∙ ap (λ a. get_or a i x) same)
  where
    at : (ss : List Space) (i : ℕ) (x : Space) → i < length ss → x ≡ get_or ss i x → space_at (map namespace ss) i ≡ namespace x
    at [] i x l e = absurd (omega arith)
    at (y ∷ ys) zero x l e = ap namespace (sym e)
    at (y ∷ ys) (suc i) x l e = at ys i x (omega arith) e
