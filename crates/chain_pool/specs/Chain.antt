-- Chains of nodes in one vector, and when they hold a map of lists.
use Rattle.std.specs.Prelude.{◌≡◌, ℕ, zero, suc, ◌-◌, ◌<◌, ◌≤◌, List, [], ◌++◌, length, map, slice_get, Option, Some}
use Rattle.std.specs.Option.{option_map, option_map_or, option_to_list}
use Rattle.chain_pool.specs.declared.chain.Node.{Node}
use Rattle.chain_pool.specs.declared.chain.Chain.{Chain}

module _ {T : Type 0} where
  -- the index that the node at an index names, and its value
  unfoldable pub next_at : List (Node T) → ℕ → ℕ
  next_at nodes i = option_map_or (λ (n : Node T). n.next) (slice_get nodes i) 0

  unfoldable pub value_at : List (Node T) → ℕ → Option T
  value_at nodes i = option_map (λ (n : Node T). n.value) (slice_get nodes i)

  -- the index of the node that n steps lead to
  abbrev pub place : List (Node T) → ℕ → ℕ → ℕ
  place nodes first zero = first
  place nodes first (suc n) = place nodes (next_at nodes first) n

  -- the values of n nodes from the first on
  abbrev pub values : List (Node T) → ℕ → ℕ → List T
  values nodes first zero = []
  values nodes first (suc n) = option_to_list (value_at nodes first) ++ values nodes (next_at nodes first) n

  -- the list of each key's chain
  abbrev pub lists : List (Node T) → List (ℕ × Chain) → List (ℕ × List T)
  lists nodes chains = map (λ e. (e.0, values nodes e.1.first e.1.count)) chains

  -- the n nodes from the first on are there
  abbrev pub AreThere : List (Node T) → ℕ → ℕ → Type 0
  AreThere nodes first n = (k : ℕ) → k < n → place nodes first k < length nodes

  -- each key's chain has a node, its nodes are there, and it leads from its first node to its last; no node is reached twice,
  -- neither from two keys nor from one
  pub record AreChains (nodes : List (Node T)) (chain : ℕ → Option Chain) : Type 0 where
    pub some : (key : ℕ) (c : Chain) → chain key ≡ Some c → 0 < c.count
    pub few : (key : ℕ) (c : Chain) → chain key ≡ Some c → c.count ≤ length nodes
    pub there : (key : ℕ) (c : Chain) → chain key ≡ Some c → AreThere nodes c.first c.count
    pub last : (key : ℕ) (c : Chain) → chain key ≡ Some c → place nodes c.first (c.count - 1) ≡ c.last
    pub apart : (key other : ℕ) (c d : Chain) (m n : ℕ) → chain key ≡ Some c → chain other ≡ Some d → m < c.count → n < d.count
        → place nodes c.first m ≡ place nodes d.first n → (key ≡ other) × (m ≡ n)
