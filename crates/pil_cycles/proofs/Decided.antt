-- Dependence is decided, and items can be ranked exactly where none is on a cycle.
use Rattle.std.proofs.Common.{ℕ, zero, suc, ◌+◌, ◌<◌, ◌≤◌, ◌≡◌, ◌⊎◌, inl, inr, List, length, refl, subst, arith}
use Rattle.std.proofs.lemmas.Bool.{cases_eq, cases_lt}
use Rattle.pil_ast.specs.Term.{Line, inter_at}
use Rattle.pil_ast.specs.Sound.{IsRanked, IsAcyclic}
use Rattle.pil_ast.specs.Order.{NamesInside}
use Rattle.pil_cycles.specs.Cycles.{DependsOn, on_named, on_deeper, IsOnCycle, IsLeastOnCycle}
use Rattle.pil_cycles.specs.Paths.{Path, step, walk, NamesAt}
use Rattle.pil_cycles.proofs.Paths.{begins, path_from, depends_from}
use Rattle.pil_cycles.proofs.Parts.{named_one, named_all, names-decided, naming_inside}

-- a path whose inner numbers are below m
data Below (E : ℕ → ℕ → Type 0) (m : ℕ) : ℕ → ℕ → Type 0 where
  last : (a b : ℕ) → E a b → Below E m a b
  over : (a b c : ℕ) → E a b → b < m → Below E m b c → Below E m a c

without : (E : ℕ → ℕ → Type 0) (a b : ℕ) → Below E zero a b → E a b
without E a b (last x y e) = e
without E a b (over x y z e l p) = absurd (omega arith)

wider : (E : ℕ → ℕ → Type 0) (m a b : ℕ) → Below E m a b → Below E (suc m) a b
wider E m a b (last x y e) = last a b e
wider E m a b (over x y z e l p) = over a y b e (omega arith) (wider E m y b p)

-- two such paths that meet at m
meet : (E : ℕ → ℕ → Type 0) (m a b c : ℕ) → Below E (suc m) a c → c ≡ m → Below E (suc m) c b → Below E (suc m) a b
meet E m a b c (last x y e) s q = over a c b e (omega arith) q
meet E m a b c (over x y z e l p) s q = over a y b e l (meet E m y b c p s q)

-- a path with m among its inner numbers goes to m and on from m
split : (E : ℕ → ℕ → Type 0) (m a b : ℕ) → Below E (suc m) a b → Below E m a b ⊎ (Below E m a m × Below E m m b)
split E m a b (last x y e) = inl (last a b e)
split E m a b (over x y z e l p) =
    let rest : Below E m y b ⊎ (Below E m y m × Below E m m b) = split E m y b p in
    elim (cases_eq y m) as (λ u. Below E m a b ⊎ (Below E m a m × Below E m m b)) [
      | inl same ↦
          let to : Below E m a m = last a m (subst (λ k. E a k) same e) in
          elim rest as (λ u. Below E m a b ⊎ (Below E m a m × Below E m m b)) [
            | inl q ↦ inr (to, subst (λ k. Below E m k b) same q)
            | inr q ↦ inr (to, q.1)
          ]
      | inr ne ↦ elim rest as (λ u. Below E m a b ⊎ (Below E m a m × Below E m m b)) [
        | inl q ↦ inl (over a y b e (omega arith) q)
        | inr q ↦ inr (over a y m e (omega arith) q.0, q.1)
      ]
    ]

below-decided : (E : ℕ → ℕ → Type 0) (m : ℕ) → ((a b : ℕ) → E a b ⊎ ¬ E a b) → (a b : ℕ) → Below E m a b ⊎ ¬ Below E m a b
below-decided E zero d a b = elim (d a b) as (λ u. Below E zero a b ⊎ ¬ Below E zero a b) [ inl e ↦ inl (last a b e) | inr ne ↦ inr (λ p. ne (without E a b p)) ]
below-decided E (suc m) d a b = elim (below-decided E m d a b) as (λ u. Below E (suc m) a b ⊎ ¬ Below E (suc m) a b) [
  | inl p ↦ inl (wider E m a b p)
  | inr np ↦ elim (below-decided E m d a m) as (λ u. Below E (suc m) a b ⊎ ¬ Below E (suc m) a b) [
    | inr nq ↦ inr (λ p. elim (split E m a b p) as (λ u. ⊥) [ inl x ↦ np x | inr x ↦ nq x.0 ])
    | inl q ↦ elim (below-decided E m d m b) as (λ u. Below E (suc m) a b ⊎ ¬ Below E (suc m) a b) [
      | inl r ↦ inl (meet E m a b m (wider E m a m q) refl (wider E m m b r))
      | inr nr ↦ inr (λ p. elim (split E m a b p) as (λ u. ⊥) [ inl x ↦ np x | inr x ↦ nr x.1 ])
    ]
  ]
]

bounded : (E : ℕ → ℕ → Type 0) (m a b : ℕ) → ((x y : ℕ) → E x y → x < m) → Path E a b → Below E m a b
bounded E m a b h (step x y e) = last a b e
bounded E m a b h (walk x y z e p) = over a y b e (begins E (λ k. k < m) y b h p) (bounded E m y b h p)

unbounded : (E : ℕ → ℕ → Type 0) (m a b : ℕ) → Below E m a b → Path E a b
unbounded E m a b (last x y e) = step a b e
unbounded E m a b (over x y z e l p) = walk a y b e (unbounded E m y b p)

pub depends-decided : (items : List Line) (a b : ℕ) → DependsOn items a b ⊎ ¬ DependsOn items a b
depends-decided items a b =
    elim (below-decided (NamesAt items) (length items) (λ x y. names-decided (inter_at items x) y) a b) as (λ u. DependsOn items a b ⊎ ¬ DependsOn items a b) [
      | inl p ↦ inl (depends_from items a b (unbounded (NamesAt items) (length items) a b p))
      | inr np ↦ inr (λ d. np (bounded (NamesAt items) (length items) a b (naming_inside items) (path_from items a b d)))
    ]

-- the least number of which something holds, or none below n
least-below : (P : ℕ → Type 0) → ((k : ℕ) → P k ⊎ ¬ P k) → (n : ℕ) → ((k : ℕ) × P k × ((j : ℕ) → P j → k ≤ j)) ⊎ ((k : ℕ) → k < n → ¬ P k)
least-below P d zero = inr (λ k l. absurd (omega arith))
least-below P d (suc n) = elim (least-below P d n) as (λ u. ((k : ℕ) × P k × ((j : ℕ) → P j → k ≤ j)) ⊎ ((k : ℕ) → k < suc n → ¬ P k)) [
  | inl found ↦ inl found
  | inr none ↦ elim (d n) as (λ u. ((k : ℕ) × P k × ((j : ℕ) → P j → k ≤ j)) ⊎ ((k : ℕ) → k < suc n → ¬ P k)) [
    | inl p ↦ inl (n, p, λ j q. not_below P n j none q)
    | inr np ↦ inr (λ k l. up_to P n k none np (omega arith))
  ]
]
  where
    not_below : (P : ℕ → Type 0) (n j : ℕ) → ((k : ℕ) → k < n → ¬ P k) → P j → n ≤ j
    not_below P n j none q = elim (cases_lt j n) as (λ u. n ≤ j) [ inl l ↦ absurd (none j l q) | inr l ↦ l ]

    up_to : (P : ℕ → Type 0) (n k : ℕ) → ((i : ℕ) → i < n → ¬ P i) → ¬ P n → k ≤ n → ¬ P k
    up_to P n k none np l = elim (cases_eq k n) as (λ u. ¬ P k) [ inl e ↦ λ q. np (subst P e q) | inr ne ↦ none k (omega arith) ]

pub least-decided : (items : List Line) → ((k : ℕ) × IsLeastOnCycle items k) ⊎ ((k : ℕ) → ¬ IsOnCycle items k)
least-decided items =
    elim (least-below (IsOnCycle items) (λ k. depends-decided items k k) (length items)) as (λ u. ((k : ℕ) × IsLeastOnCycle items k) ⊎ ((k : ℕ) → ¬ IsOnCycle items k)) [
      | inl w ↦ inl (w.0, record { on_cycle = w.1; least = w.2 })
      | inr none ↦ inr (λ k d. none k (begins (NamesAt items) (λ x. x < length items) k k (naming_inside items) (path_from items k k d)) d)
    ]

-- an item ranks above all that it depends on
ranks : (items : List Line) (rank : ℕ → ℕ) (a b : ℕ) → IsRanked items rank → DependsOn items a b → rank b < rank a
ranks items rank a b ranked (on_named x y e) = named_one (λ j. rank j < rank a) (inter_at items a) b (ranked.falling a) e
ranks items rank a b ranked (on_deeper x y z e d) =
    let first : rank y < rank a = named_one (λ j. rank j < rank a) (inter_at items a) y (ranked.falling a) e in
    let rest : rank b < rank y = ranks items rank y b ranked d in
    omega arith

pub no_cycle : (items : List Line) → IsAcyclic items → (k : ℕ) → ¬ IsOnCycle items k
no_cycle items acyclic k d = let l : acyclic.0 k < acyclic.0 k = ranks items acyclic.0 k k acyclic.1 d in omega arith

abbrev holds : (A B : Type 0) → A ⊎ B → ℕ
holds A B (inl a) = 1
holds A B (inr b) = 0

holds-one : (A B : Type 0) (d : A ⊎ B) → holds A B d ≤ 1
holds-one A B (inl a) = omega arith
holds-one A B (inr b) = omega arith

holds-more : (A B : Type 0) (d : A ⊎ ¬ A) (e : B ⊎ ¬ B) → (A → B) → holds A (¬ A) d ≤ holds B (¬ B) e
holds-more A B (inl a) (inl b) f = omega arith
holds-more A B (inl a) (inr nb) f = absurd (nb (f a))
holds-more A B (inr na) e f = omega arith

holds-new : (A B : Type 0) (d : A ⊎ ¬ A) (e : B ⊎ ¬ B) → ¬ A → B → holds A (¬ A) d < holds B (¬ B) e
holds-new A B (inl a) e na b = absurd (na a)
holds-new A B (inr x) (inl y) na b = omega arith
holds-new A B (inr x) (inr nb) na b = absurd (nb b)

-- how many numbers below n the item depends on
abbrev many : List Line → ℕ → ℕ → ℕ
many items k zero = 0
many items k (suc n) = holds (DependsOn items k n) (¬ DependsOn items k n) (depends-decided items k n) + many items k n

many-bounded : (items : List Line) (k n : ℕ) → many items k n ≤ n
many-bounded items k zero = omega arith
many-bounded items k (suc n) =
    let one = holds-one (DependsOn items k n) (¬ DependsOn items k n) (depends-decided items k n) in
    let rest = many-bounded items k n in
    omega arith

many-more : (items : List Line) (k j n : ℕ) → ((i : ℕ) → DependsOn items j i → DependsOn items k i) → many items j n ≤ many items k n
many-more items k j zero f = omega arith
many-more items k j (suc n) f =
    let here = holds-more (DependsOn items j n) (DependsOn items k n) (depends-decided items j n) (depends-decided items k n) (f n) in
    let rest = many-more items k j n f in
    omega arith

many-new : (items : List Line) (k j i n : ℕ) → ((x : ℕ) → DependsOn items j x → DependsOn items k x) → ¬ DependsOn items j i → DependsOn items k i → i < n → many items j n < many items k n
many-new items k j i zero f not_of of l = absurd (omega arith)
many-new items k j i (suc n) f not_of of l = elim (cases_eq i n) as (λ u. many items j (suc n) < many items k (suc n)) [
  | inl e ↦
      let here = holds-new (DependsOn items j n) (DependsOn items k n) (depends-decided items j n) (depends-decided items k n) (subst (λ x. ¬ DependsOn items j x) e not_of) (subst (λ x. DependsOn items k x) e of) in
      let rest = many-more items k j n f in
      omega arith
  | inr ne ↦
      let here = holds-more (DependsOn items j n) (DependsOn items k n) (depends-decided items j n) (depends-decided items k n) (f n) in
      let rest = many-new items k j i n f not_of of (omega arith) in
      omega arith
]

pub can_be_ranked : (items : List Line) → NamesInside items → ((k : ℕ) → ¬ IsOnCycle items k) → IsAcyclic items
can_be_ranked items inside none = (
  λ k. many items k (length items),
  record {
    bounded = λ k. many-bounded items k (length items);
    falling = λ k. named_all (λ j. many items j (length items) < many items k (length items)) (inter_at items k)
        (λ j w. many-new items k j j (length items) (λ x d. on_deeper k j x w d) (none j) (on_named k j w) (named_one (λ x. x < length items) (inter_at items k) j (inside k) w));
  },
)
