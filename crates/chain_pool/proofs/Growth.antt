-- One node more: what it leaves of the chains, and the chain that it is put behind.
use Rattle.std.proofs.Common.{◌≡◌, ◌==◌, ◌+◌, ◌-◌, ◌<◌, ◌≤◌, ◌⊎◌, inl, inr, ⊎_elim, ℕ, suc, List, [], ◌∷◌, ◌++◌, length, Option, Some, None, true, false, cond, refl, ap, sym, ◌∙◌, subst, arith, add-one}
use Rattle.std.specs.Option.{option_to_list}
use Rattle.std.proofs.lemmas.Bool.{cases_lt, cases_eq, ne_eqb, eq-eqb}
use Rattle.chain_pool.specs.declared.chain.Node.{Node}
use Rattle.chain_pool.specs.declared.chain.Chain.{Chain}
use Rattle.chain_pool.specs.Chain.{next_at, value_at, place, values, AreChains}
use Rattle.chain_pool.proofs.Chains.{place-suc, values-suc, place-same, values-same, listed}

-- the chains of all keys but one stay
pub record Puts (chain new : ℕ → Option Chain) (key : ℕ) (c : Chain) : Type 0 where
  pub here : new key ≡ Some c
  pub others : (q : ℕ) → (key ≡ q → ⊥) → new q ≡ chain q

same_chain : (c d : Chain) → Some c ≡ Some d → c ≡ d
same_chain c d e = cc

found : (chain : ℕ → Option Chain) (q r : ℕ) (c d : Chain) → chain q ≡ Some c → chain r ≡ Some d → q ≡ r → c ≡ d
found chain q r c d has has' e = same_chain c d (sym has ∙ ap chain e ∙ has')

at_key : (chain new : ℕ → Option Chain) (key : ℕ) (c d : Chain) (q : ℕ) → Puts chain new key c → new q ≡ Some d → key ≡ q → d ≡ c
at_key chain new key c d q puts has e = same_chain d c (sym has ∙ ap new (sym e) ∙ puts.here)

-- what holds of the chain that is put and of all others
by_key : (chain new : ℕ → Option Chain) (key : ℕ) (c : Chain) (P : Chain → Type 0) → Puts chain new key c → P c → ((q : ℕ) (d : Chain) → chain q ≡ Some d → P d) → (q : ℕ) (d : Chain) → new q ≡ Some d → P d
by_key chain new key c P puts here others q d has =
    ⊎_elim (λ e. subst P (sym (at_key chain new key c d q puts has e)) here) (λ ne. others q d (sym (puts.others q ne) ∙ has)) (cases_eq key q)

module _ {T : Type 0} where
  -- one node more, by which each node but those with P may lead elsewhere
  pub record IsGrown (nodes more : List (Node T)) (x : T) (P : ℕ → Type 0) : Type 0 where
    pub long : length more ≡ length nodes + 1
    pub next : (i : ℕ) → i < length nodes → P i → next_at more i ≡ next_at nodes i
    pub value : (i : ℕ) → i < length nodes → value_at more i ≡ value_at nodes i
    pub added : value_at more (length nodes) ≡ Some x

  -- each node that leads on within its chain has P
  abbrev LeadOn : List (Node T) → (ℕ → Option Chain) → (ℕ → Type 0) → Type 0
  LeadOn nodes chain P = (key : ℕ) (c : Chain) (n : ℕ) → chain key ≡ Some c → n + 1 < c.count → P (place nodes c.first n)

  steady : (nodes more : List (Node T)) (chain : ℕ → Option Chain) (value : T) (P : ℕ → Type 0) → AreChains nodes chain → IsGrown nodes more value P → LeadOn nodes chain P
      → (key : ℕ) (c : Chain) → chain key ≡ Some c → (n : ℕ) → n < c.count → place more c.first n ≡ place nodes c.first n
  steady nodes more chain value P are grown on key c has n lt =
      place-same nodes more c.first n (λ m below. grown.next (place nodes c.first m) (are.there key c has m (omega arith)) (on key c m has (omega arith)))

  kept : (nodes more : List (Node T)) (chain : ℕ → Option Chain) (value : T) (P : ℕ → Type 0) → AreChains nodes chain → IsGrown nodes more value P → LeadOn nodes chain P
      → (key : ℕ) (c : Chain) → chain key ≡ Some c → values more c.first c.count ≡ values nodes c.first c.count
  kept nodes more chain value P are grown on key c has =
      values-same nodes more c.first c.count (λ m lt. grown.value (place nodes c.first m) (are.there key c has m lt))
      (λ m lt. grown.next (place nodes c.first m) (are.there key c has m (omega arith)) (on key c m has lt))

  -- where the n-th node of a new chain comes from: an old one of the same key, or the node that was added
  abbrev pub Old : List (Node T) → List (Node T) → (ℕ → Option Chain) → ℕ → Chain → ℕ → Type 0
  Old nodes more chain q c n = (d : Chain) × (chain q ≡ Some d) × (n < d.count) × (place more c.first n ≡ place nodes d.first n)

  abbrev pub New : List (Node T) → List (Node T) → ℕ → ℕ → Chain → ℕ → Type 0
  New nodes more key q c n = (q ≡ key) × (n + 1 ≡ c.count) × (place more c.first n ≡ length nodes)

  pub record Comes (nodes more : List (Node T)) (chain new : ℕ → Option Chain) (key : ℕ) : Type 0 where
    pub long : length more ≡ length nodes + 1
    pub from : (q : ℕ) (c : Chain) (n : ℕ) → new q ≡ Some c → n < c.count → Old nodes more chain q c n ⊎ New nodes more key q c n

  inside : (nodes more : List (Node T)) (chain new : ℕ → Option Chain) (key : ℕ) → AreChains nodes chain → Comes nodes more chain new key → (q : ℕ) (c : Chain) (n : ℕ)
      → Old nodes more chain q c n ⊎ New nodes more key q c n → place more c.first n < length more
  inside nodes more chain new key are comes q c n (inl (d, has, lt, at)) =
      let low : place nodes d.first n < length nodes = are.there q d has n lt in
      let long = comes.long in omega arith
  inside nodes more chain new key are comes q c n (inr (is, end, at)) = let long = comes.long in omega arith

  alone : (nodes more : List (Node T)) (chain : ℕ → Option Chain) (key : ℕ) → AreChains nodes chain → (q r : ℕ) (c d : Chain) (m n : ℕ)
      → Old nodes more chain q c m ⊎ New nodes more key q c m → Old nodes more chain r d n ⊎ New nodes more key r d n
      → (q ≡ r → c ≡ d) → place more c.first m ≡ place more d.first n → (q ≡ r) × (m ≡ n)
  alone nodes more chain key are q r c d m n (inl (a, has, lt, at)) (inl (b, has', lt', at')) one e = are.apart q r a b m n has has' lt lt' (sym at ∙ e ∙ at')
  alone nodes more chain key are q r c d m n (inl (a, has, lt, at)) (inr (is, end, at')) one e =
      let low : place nodes a.first m < length nodes = are.there q a has m lt in absurd (omega arith)
  alone nodes more chain key are q r c d m n (inr (is, end, at)) (inl (b, has, lt, at')) one e =
      let low : place nodes b.first n < length nodes = are.there r b has n lt in absurd (omega arith)
  alone nodes more chain key are q r c d m n (inr (is, end, at)) (inr (is', end', at')) one e =
      let same : q ≡ r = is ∙ sym is' in
      let counts : c.count ≡ d.count = ap (λ (x : Chain). x.count) (one same) in
      (same, omega arith)

  pub are_chains : (nodes more : List (Node T)) (chain new : ℕ → Option Chain) (key : ℕ) (c : Chain) → AreChains nodes chain → Puts chain new key c → Comes nodes more chain new key
      → 0 < c.count → c.count ≤ length more → place more c.first (c.count - 1) ≡ c.last
      → ((q : ℕ) (d : Chain) → chain q ≡ Some d → (n : ℕ) → n < d.count → place more d.first n ≡ place nodes d.first n) → AreChains more new
  are_chains nodes more chain new key c are puts comes some few last still =
      record {
        some = by_key chain new key c (λ d. 0 < d.count) puts some are.some;
        few = by_key chain new key c (λ d. d.count ≤ length more) puts few (λ q d has. let old = are.few q d has in let long = comes.long in omega arith);
        there = λ q d has n lt. inside nodes more chain new key are comes q d n (comes.from q d n has lt);
        last = by_key chain new key c (λ d. place more d.first (d.count - 1) ≡ d.last) puts last
            (λ q d has. let pos = are.some q d has in still q d has (d.count - 1) (omega arith) ∙ are.last q d has);
        apart = λ q r a b m n has has' lt lt' e. alone nodes more chain key are q r a b m n (comes.from q a m has lt) (comes.from r b n has' lt') (found new q r a b has has') e;
      }

  -- an old chain of another key
  other : (nodes more : List (Node T)) (chain new : ℕ → Option Chain) (key : ℕ) (c : Chain) → Puts chain new key c
      → ((q : ℕ) (d : Chain) → chain q ≡ Some d → (n : ℕ) → n < d.count → place more d.first n ≡ place nodes d.first n)
      → (q : ℕ) (d : Chain) (n : ℕ) → new q ≡ Some d → n < d.count → (key ≡ q → ⊥) → Old nodes more chain q d n
  other nodes more chain new key c puts still q d n has lt ne =
      let old : chain q ≡ Some d = sym (puts.others q ne) ∙ has in (d, old, lt, still q d old n lt)

  -- ---- a key without a chain
  pub record IsFirst (nodes more : List (Node T)) (chain new : ℕ → Option Chain) (key : ℕ) (value : T) : Type 0 where
    pub grown : IsGrown nodes more value (λ _. Unit {0})
    pub absent : chain key ≡ None
    pub puts : Puts chain new key (record { first = length nodes; last = length nodes; count = 1 })

  pub first_chains : (nodes more : List (Node T)) (chain new : ℕ → Option Chain) (key : ℕ) (value : T) → AreChains nodes chain → IsFirst nodes more chain new key value → AreChains more new
  first_chains nodes more chain new key value are first =
      let c : Chain = record { first = length nodes; last = length nodes; count = 1 } in
      let still = steady nodes more chain value (λ _. Unit {0}) are first.grown (λ k d n has lt. tt) in
      let long = first.grown.long in
      are_chains nodes more chain new key c are first.puts
      (record {
        long = long;
        from = λ q d n has lt. ⊎_elim (λ e. let is : d ≡ c = at_key chain new key c d q first.puts has e in
            let counts : d.count ≡ 1 = ap (λ (x : Chain). x.count) is in
            let none : n ≡ 0 = omega arith in
            inr (sym e, omega arith, ap (λ k. place more d.first k) none ∙ ap (λ (x : Chain). x.first) is))
            (λ ne. inl (other nodes more chain new key c first.puts still q d n has lt ne)) (cases_eq key q);
      }) (omega arith) (omega arith) refl still

  pub first_list : (nodes more : List (Node T)) (chain new : ℕ → Option Chain) (key : ℕ) (value : T) → AreChains nodes chain → IsFirst nodes more chain new key value
      → listed more (new key) ≡ listed nodes (chain key) ++ value ∷ []
  first_list nodes more chain new key value are first = rw (first.puts.here, first.absent, first.grown.added) refl

  unchanged : (nodes more : List (Node T)) (value : T) (P : ℕ → Type 0) (chain : ℕ → Option Chain) → AreChains nodes chain → IsGrown nodes more value P → LeadOn nodes chain P
      → (q : ℕ) (o : Option Chain) → chain q ≡ o → listed more o ≡ listed nodes o
  unchanged nodes more value P chain are grown on q None has = refl
  unchanged nodes more value P chain are grown on q (Some d) has = kept nodes more chain value P are grown on q d has

  pub first_others : (nodes more : List (Node T)) (chain new : ℕ → Option Chain) (key : ℕ) (value : T) → AreChains nodes chain → IsFirst nodes more chain new key value
      → (q : ℕ) → (key ≡ q → ⊥) → listed more (new q) ≡ listed nodes (chain q)
  first_others nodes more chain new key value are first q ne =
      ap (listed more) (first.puts.others q ne) ∙ unchanged nodes more value (λ _. Unit {0}) chain are first.grown (λ k d n has lt. tt) q (chain q) refl

  -- ---- behind a chain
  pub record IsNext (nodes more : List (Node T)) (chain new : ℕ → Option Chain) (key : ℕ) (value : T) (c : Chain) : Type 0 where
    pub grown : IsGrown nodes more value (λ i. i ≡ c.last → ⊥)
    pub leads : next_at more c.last ≡ length nodes
    pub has : chain key ≡ Some c
    pub puts : Puts chain new key (record { first = c.first; last = length nodes; count = c.count + 1 })

  -- only the last node of the chain is its last
  lead_on : (nodes : List (Node T)) (chain : ℕ → Option Chain) (key : ℕ) (c : Chain) → AreChains nodes chain → chain key ≡ Some c → LeadOn nodes chain (λ i. i ≡ c.last → ⊥)
  lead_on nodes chain key c are has q d n has' lt e =
      let pos : 0 < c.count = are.some key c has in
      let both = are.apart q key d c n (c.count - 1) has' has (omega arith) (omega arith) (e ∙ sym (are.last key c has)) in
      let counts : d.count ≡ c.count = ap (λ (x : Chain). x.count) (found chain q key d c has' has both.0) in
      let end : n ≡ c.count - 1 = both.1 in omega arith

  -- and it leads to the node that was added
  last_place : (nodes more : List (Node T)) (chain new : ℕ → Option Chain) (key : ℕ) (value : T) (c : Chain) → AreChains nodes chain → IsNext nodes more chain new key value c → place more c.first c.count ≡ length nodes
  last_place nodes more chain new key value c are next =
      let pos : 0 < c.count = are.some key c next.has in
      let count : c.count ≡ suc (c.count - 1) = omega (arith, add-one (c.count - 1)) in
      ap (place more c.first) count ∙ place-suc more c.first (c.count - 1)
      ∙ ap (next_at more) (steady nodes more chain value (λ i. i ≡ c.last → ⊥) are next.grown (lead_on nodes chain key c are next.has) key c next.has (c.count - 1) (omega arith) ∙ are.last key c next.has) ∙ next.leads

  pub next_chains : (nodes more : List (Node T)) (chain new : ℕ → Option Chain) (key : ℕ) (value : T) (c : Chain) → AreChains nodes chain → IsNext nodes more chain new key value c → AreChains more new
  next_chains nodes more chain new key value c are next =
      let d : Chain = record { first = c.first; last = length nodes; count = c.count + 1 } in
      let still = steady nodes more chain value (λ i. i ≡ c.last → ⊥) are next.grown (lead_on nodes chain key c are next.has) in
      let long = next.grown.long in
      let few : c.count ≤ length nodes = are.few key c next.has in
      let end = last_place nodes more chain new key value c are next in
      let less : c.count + 1 - 1 ≡ c.count = omega arith in
      are_chains nodes more chain new key d are next.puts
      (record {
        long = long;
        from = λ q a n has lt. ⊎_elim (λ e. let is : a ≡ d = at_key chain new key d a q next.puts has e in
            let counts : a.count ≡ c.count + 1 = ap (λ (x : Chain). x.count) is in
            let start : a.first ≡ c.first = ap (λ (x : Chain). x.first) is in
            ⊎_elim (λ below. inl (c, sym (ap chain e) ∙ next.has, below, ap (λ i. place more i n) start ∙ still key c next.has n below))
            (λ from. let at : n ≡ c.count = omega arith in inr (sym e, omega arith, ap (λ i. place more i n) start ∙ ap (place more c.first) at ∙ end)) (cases_lt n c.count))
            (λ ne. inl (other nodes more chain new key d next.puts still q a n has lt ne)) (cases_eq key q);
      }) (omega arith) (omega arith) (ap (place more c.first) less ∙ end) still

  pub next_list : (nodes more : List (Node T)) (chain new : ℕ → Option Chain) (key : ℕ) (value : T) (c : Chain) → AreChains nodes chain → IsNext nodes more chain new key value c
      → listed more (new key) ≡ listed nodes (chain key) ++ value ∷ []
  next_list nodes more chain new key value c are next =
      ap (listed more) next.puts.here ∙ ap (values more c.first) (add-one c.count) ∙ values-suc more c.first c.count
      ∙ ap (λ xs. xs ++ option_to_list (value_at more (place more c.first c.count))) (kept nodes more chain value (λ i. i ≡ c.last → ⊥) are next.grown (lead_on nodes chain key c are next.has) key c next.has ∙ ap (listed nodes) (sym next.has))
      ∙ ap (λ i. listed nodes (chain key) ++ option_to_list (value_at more i)) (last_place nodes more chain new key value c are next) ∙ ap (λ o. listed nodes (chain key) ++ option_to_list o) next.grown.added

  pub next_others : (nodes more : List (Node T)) (chain new : ℕ → Option Chain) (key : ℕ) (value : T) (c : Chain) → AreChains nodes chain → IsNext nodes more chain new key value c
      → (q : ℕ) → (key ≡ q → ⊥) → listed more (new q) ≡ listed nodes (chain q)
  next_others nodes more chain new key value c are next q ne =
      ap (listed more) (next.puts.others q ne) ∙ unchanged nodes more value (λ i. i ≡ c.last → ⊥) chain are next.grown (lead_on nodes chain key c are next.has) q (chain q) refl

  -- what was put behind one list, list by list
  pub appended : (old new : ℕ → List T) (key : ℕ) (value : T) → new key ≡ old key ++ value ∷ [] → ((q : ℕ) → (key ≡ q → ⊥) → new q ≡ old q) → (q : ℕ) → new q ≡ cond (q == key) (old q ++ value ∷ []) (old q)
  appended old new key value here others q =
      ⊎_elim (λ e. let yes : (q == key) ≡ true = eq-eqb q key (sym e) in rw yes (ap new (sym e) ∙ here ∙ ap (λ k. old k ++ value ∷ []) e))
      (λ ne. let no : (q == key) ≡ false = ne_eqb q key (λ e. ne (sym e)) in rw no (others q ne)) (cases_eq key q)
