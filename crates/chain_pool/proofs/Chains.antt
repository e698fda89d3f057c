-- Places and values along chains of nodes.
use Rattle.std.proofs.Common.{◌≡◌, ◌==◌, ◌+◌, ◌-◌, ◌<◌, ⊎_elim, ℕ, zero, suc, List, [], ◌∷◌, ◌++◌, Option, Some, None, Bool, true, false, cond, length, get_or, refl, ap, sym, ◌∙◌, arith, add-one, append_assoc}
use Rattle.std.specs.Option.{option_map, unwrap_or, option_to_list}
use Rattle.std.specs.Map.{lookup}
use Rattle.std.specs.BTreeMap.{is_at}
use Rattle.std.specs.Ordering.{nat_cmp}
use Rattle.std.proofs.Math.ListN.{set, length-set}
use Rattle.std.proofs.Math.Seq.{get_or-append_seam}
use Rattle.std.proofs.lemmas.Bool.{cases_eq, ne_eqb, eq-eqb}
use Rattle.std.proofs.lemmas.List.{append-nil, length-append, get_or_append_left, get_or-set_same, get_or-set_other}
use Rattle.std.proofs.lemmas.Option.{slice_get-get_or}
use Rattle.std.proofs.lemmas.Bool.Decides.{nat_tests}
use Rattle.std.proofs.lemmas.Map.Made.{lookup-map_values}
use Rattle.chain_pool.specs.declared.chain.Node.{Node}
use Rattle.chain_pool.specs.declared.chain.Chain.{Chain}
use Rattle.chain_pool.specs.Chain.{next_at, value_at, place, values, lists, AreThere}
use Rattle.chain_pool.specs.Lists.{list_of}

pub is_at-number : (p q : ℕ) → is_at (nat_cmp p) q ≡ (p == q)
is_at-number p q = grind (arith, nat_tests)

lookup-same : {X : Type 0} (f g : ℕ → Bool) → ((q : ℕ) → f q ≡ g q) → (es : List (ℕ × X)) → lookup f es ≡ lookup g es
lookup-same f g h [] = refl
lookup-same f g h (e ∷ es) = rw (h e.0, lookup-same f g h es) refl

module _ {T : Type 0} where
  -- the last step of several
  pub place-suc : (nodes : List (Node T)) (first n : ℕ) → place nodes first (suc n) ≡ next_at nodes (place nodes first n)
  place-suc nodes first zero = refl
  place-suc nodes first (suc n) = place-suc nodes (next_at nodes first) n

  pub values-suc : (nodes : List (Node T)) (first n : ℕ) → values nodes first (suc n) ≡ values nodes first n ++ option_to_list (value_at nodes (place nodes first n))
  values-suc nodes first zero = append-nil (option_to_list (value_at nodes first))
  values-suc nodes first (suc n) =
      ap (λ xs. option_to_list (value_at nodes first) ++ xs) (values-suc nodes (next_at nodes first) n)
      ∙ sym (append_assoc (option_to_list (value_at nodes first)) (values nodes (next_at nodes first) n) (option_to_list (value_at nodes (place nodes (next_at nodes first) n))))

  -- nodes that lead on as before
  pub place-same : (nodes more : List (Node T)) (first n : ℕ) → ((m : ℕ) → m < n → next_at more (place nodes first m) ≡ next_at nodes (place nodes first m)) → place more first n ≡ place nodes first n
  place-same nodes more first zero h = refl
  place-same nodes more first (suc n) h =
      ap (λ i. place more i n) (h 0 (omega arith)) ∙ place-same nodes more (next_at nodes first) n (λ m lt. h (suc m) (omega arith))

  pub values-same : (nodes more : List (Node T)) (first n : ℕ) → ((m : ℕ) → m < n → value_at more (place nodes first m) ≡ value_at nodes (place nodes first m))
      → ((m : ℕ) → m + 1 < n → next_at more (place nodes first m) ≡ next_at nodes (place nodes first m)) → values more first n ≡ values nodes first n
  values-same nodes more first zero v h = refl
  values-same nodes more first (suc zero) v h = ap (λ o. option_to_list o ++ []) (v 0 (omega arith))
  values-same nodes more first (suc (suc n)) v h =
      ap (λ o. option_to_list o ++ values more (next_at more first) (suc n)) (v 0 (omega arith))
      ∙ ap (λ xs. option_to_list (value_at nodes first) ++ xs) (ap (λ i. values more i (suc n)) (h 0 (omega arith)) ∙ values-same nodes more (next_at nodes first) (suc n) (λ m lt. v (suc m) (omega arith)) (λ m lt. h (suc m) (omega arith)))

  -- the list of a chain, if there is one
  abbrev pub listed : List (Node T) → Option Chain → List T
  listed nodes None = []
  listed nodes (Some c) = values nodes c.first c.count

  listed-found : (nodes : List (Node T)) (found : Option Chain) → unwrap_or (option_map (λ (c : Chain). values nodes c.first c.count) found) [] ≡ listed nodes found
  listed-found nodes None = refl
  listed-found nodes (Some c) = refl

  -- the lists of the chains, key by key
  pub list_of-lists : (nodes : List (Node T)) (chains : List (ℕ × Chain)) (key : ℕ) → list_of (lists nodes chains) key ≡ listed nodes (lookup (is_at (nat_cmp key)) chains)
  unfolding list_of
  list_of-lists nodes chains key =
      ap (λ o. unwrap_or o []) (lookup-same (λ k. key == k) (is_at (nat_cmp key)) (λ q. sym (is_at-number key q)) (lists nodes chains) ∙ lookup-map_values (λ (c : Chain). values nodes c.first c.count) (is_at (nat_cmp key)) chains)
      ∙ listed-found nodes (lookup (is_at (nat_cmp key)) chains)

  -- ---- a node that is put behind all others, and to which the node `last` is made to lead
  next_at-get : (xs : List (Node T)) (i : ℕ) (d : Node T) → i < length xs → next_at xs i ≡ (get_or xs i d).next
  unfolding next_at
  next_at-get xs i d lt = rw (slice_get-get_or xs i d lt) refl

  value_at-get : (xs : List (Node T)) (i : ℕ) (d : Node T) → i < length xs → value_at xs i ≡ Some (get_or xs i d).value
  unfolding value_at
  value_at-get xs i d lt = rw (slice_get-get_or xs i d lt) refl

  pub record IsLink (nodes all : List (Node T)) (last : ℕ) (x y z : Node T) : Type 0 where
    pub pushed : all ≡ nodes ++ x ∷ []
    pub low : last < length nodes
    pub was : z ≡ get_or all last z
    pub same : y.value ≡ z.value
    pub leads : y.next ≡ length nodes

  long : (nodes all : List (Node T)) (last : ℕ) (x y z : Node T) → IsLink nodes all last x y z → length (set all last y) ≡ length nodes + 1
  long nodes all last x y z link = length-set all last y ∙ ap length link.pushed ∙ length-append nodes (x ∷ [])

  old : (nodes all : List (Node T)) (last : ℕ) (x y z : Node T) → IsLink nodes all last x y z → (i : ℕ) (d : Node T) → i < length nodes → get_or all i d ≡ get_or nodes i d
  old nodes all last x y z link i d lt = ap (λ l. get_or l i d) link.pushed ∙ get_or_append_left nodes (x ∷ []) d i lt

  there : (nodes all : List (Node T)) (last : ℕ) (x y z : Node T) → IsLink nodes all last x y z → (d : Node T) → get_or (set all last y) last d ≡ y
  there nodes all last x y z link d =
      let low = link.low in
      let many : length all ≡ length nodes + 1 = ap length link.pushed ∙ length-append nodes (x ∷ []) in
      get_or-set_same all last y d (omega arith)

  elsewhere : (nodes all : List (Node T)) (last : ℕ) (x y z : Node T) → IsLink nodes all last x y z → (i : ℕ) (d : Node T) → i < length nodes → (i ≡ last → ⊥) → get_or (set all last y) i d ≡ get_or nodes i d
  elsewhere nodes all last x y z link i d lt ne = get_or-set_other all last i y d ne ∙ old nodes all last x y z link i d lt

  pub link_next : (nodes all : List (Node T)) (last : ℕ) (x y z : Node T) → IsLink nodes all last x y z → (i : ℕ) → i < length nodes → next_at (set all last y) i ≡ cond (i == last) (length nodes) (next_at nodes i)
  link_next nodes all last x y z link i lt =
      let many = long nodes all last x y z link in
      next_at-get (set all last y) i x (omega arith) ∙ ⊎_elim
      (λ e. let yes : (i == last) ≡ true = eq-eqb i last e in rw yes (ap (λ k. (get_or (set all last y) k x).next) e ∙ ap (λ (n : Node T). n.next) (there nodes all last x y z link x) ∙ link.leads))
      (λ ne. let no : (i == last) ≡ false = ne_eqb i last ne in rw no (ap (λ (n : Node T). n.next) (elsewhere nodes all last x y z link i x lt ne) ∙ sym (next_at-get nodes i x lt))) (cases_eq i last)

  pub link_value : (nodes all : List (Node T)) (last : ℕ) (x y z : Node T) → IsLink nodes all last x y z → (i : ℕ) → i < length nodes → value_at (set all last y) i ≡ value_at nodes i
  link_value nodes all last x y z link i lt =
      let many = long nodes all last x y z link in
      value_at-get (set all last y) i z (omega arith) ∙ ap (λ v. Some v) (⊎_elim
      (λ e. ap (λ k. (get_or (set all last y) k z).value) e ∙ ap (λ (n : Node T). n.value) (there nodes all last x y z link z) ∙ link.same
      ∙ ap (λ (n : Node T). n.value) (link.was ∙ old nodes all last x y z link last z link.low) ∙ ap (λ k. (get_or nodes k z).value) (sym e))
      (λ ne. ap (λ (n : Node T). n.value) (elsewhere nodes all last x y z link i z lt ne)) (cases_eq i last)) ∙ sym (value_at-get nodes i z lt)

  pub link_added : (nodes all : List (Node T)) (last : ℕ) (x y z : Node T) → IsLink nodes all last x y z → value_at (set all last y) (length nodes) ≡ Some x.value
  link_added nodes all last x y z link =
      let many = long nodes all last x y z link in
      let low = link.low in
      let apart : length nodes ≡ last → ⊥ = λ e. omega arith in
      value_at-get (set all last y) (length nodes) x (omega arith) ∙ ap (λ (n : Node T). Some n.value) (get_or-set_other all last (length nodes) y x apart ∙ ap (λ l. get_or l (length nodes) x) link.pushed ∙ get_or-append_seam nodes x [] x)

  -- a node that is put behind all others and to which none leads
  pub push_long : (nodes all : List (Node T)) (x : Node T) → all ≡ nodes ++ x ∷ [] → length all ≡ length nodes + 1
  push_long nodes all x e = ap length e ∙ length-append nodes (x ∷ [])

  pub push_next : (nodes all : List (Node T)) (x : Node T) → all ≡ nodes ++ x ∷ [] → (i : ℕ) → i < length nodes → next_at all i ≡ next_at nodes i
  push_next nodes all x e i lt =
      let many = push_long nodes all x e in
      next_at-get all i x (omega arith) ∙ ap (λ (n : Node T). n.next) (ap (λ l. get_or l i x) e ∙ get_or_append_left nodes (x ∷ []) x i lt) ∙ sym (next_at-get nodes i x lt)

  pub push_value : (nodes all : List (Node T)) (x : Node T) → all ≡ nodes ++ x ∷ [] → (i : ℕ) → i < length nodes → value_at all i ≡ value_at nodes i
  push_value nodes all x e i lt =
      let many = push_long nodes all x e in
      value_at-get all i x (omega arith) ∙ ap (λ (n : Node T). Some n.value) (ap (λ l. get_or l i x) e ∙ get_or_append_left nodes (x ∷ []) x i lt) ∙ sym (value_at-get nodes i x lt)

  pub push_added : (nodes all : List (Node T)) (x : Node T) → all ≡ nodes ++ x ∷ [] → value_at all (length nodes) ≡ Some x.value
  push_added nodes all x e =
      let many = push_long nodes all x e in
      value_at-get all (length nodes) x (omega arith) ∙ ap (λ (n : Node T). Some n.value) (ap (λ l. get_or l (length nodes) x) e ∙ get_or-append_seam nodes x [] x)

  -- ---- one node of a walk
  walk_first : (nodes : List (Node T)) (at left : ℕ) → (left ≡ 0 → ⊥) → AreThere nodes at left → at < length nodes
  walk_first nodes at left some there = there 0 (omega arith)

  pub walk_left : (nodes : List (Node T)) (at left : ℕ) (d : Node T) → (left ≡ 0 → ⊥) → AreThere nodes at left → AreThere nodes (get_or nodes at d).next (left - 1)
  walk_left nodes at left d some there k lt =
      let e : place nodes (next_at nodes at) k ≡ place nodes (get_or nodes at d).next k = ap (λ i. place nodes i k) (next_at-get nodes at d (walk_first nodes at left some there)) in
      let low : place nodes (next_at nodes at) k < length nodes = there (suc k) (omega arith) in rw (← e) low

  pub walk_on : (nodes : List (Node T)) (at left : ℕ) (d : Node T) → (left ≡ 0 → ⊥) → AreThere nodes at left → values nodes at left ≡ (get_or nodes at d).value ∷ values nodes (get_or nodes at d).next (left - 1)
  walk_on nodes at left d some there =
      let low = walk_first nodes at left some there in
      let count : left ≡ suc (left - 1) = omega (arith, add-one (left - 1)) in
      ap (values nodes at) count ∙ ap (λ o. option_to_list o ++ values nodes (next_at nodes at) (left - 1)) (value_at-get nodes at d low) ∙ ap (λ i. (get_or nodes at d).value ∷ values nodes i (left - 1)) (next_at-get nodes at d low)

  pub shorter : (xs ys : List T) (y : T) → xs ≡ y ∷ ys → length ys < length xs
  shorter xs ys y e = rw e (omega arith)
