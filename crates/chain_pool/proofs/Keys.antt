-- The keys of a pool.
use Rattle.std.proofs.Common.{◌≡◌, ◌≢◌, ◌↔◌, ◌<◌, ℕ, zero, suc, List, [], ◌∷◌, ◌++◌, length, Option, Some, None, Contains, IsSome, refl, ap, sym, ◌∙◌, subst, arith}
use Rattle.std.specs.declared.cmp.Ordering.TheVariants.{Equal}
use Rattle.std.specs.Option.{option_to_list}
use Rattle.std.specs.Ordering.{nat_cmp}
use Rattle.std.proofs.lemmas.Bool.Decides.{nat_tests}
use Rattle.std.proofs.lemmas.Map.Views.{btree_map_contains_key_iff}
use Rattle.std.specs.BTreeMap.{BTreeMap, get, keys, IsOrdered}
use Rattle.std.specs.Cmp.{nat_cmp_total}
use Rattle.std.specs.List.Sorted.{IsStrictlyIncreasing}
use Rattle.std.proofs.lemmas.Map.Keys.{IsStrictlyIncreasing-from_sorted}
use Rattle.chain_pool.specs.declared.chain.Node.{Node}
use Rattle.chain_pool.specs.declared.chain.Chain.{Chain}
use Rattle.chain_pool.specs.Chain.{next_at, value_at, values, lists, AreThere, AreChains}
use Rattle.chain_pool.specs.Lists.{list_of}
use Rattle.chain_pool.proofs.Chains.{listed, list_of-lists}

pub ascending : (m : BTreeMap ℕ Chain) (found : List ℕ) → found ≡ keys m → IsOrdered nat_cmp m → IsStrictlyIncreasing found
ascending m found e ordered = subst IsStrictlyIncreasing (sym e) (IsStrictlyIncreasing-from_sorted (keys m) ordered)

there_exact : (p q : ℕ) → nat_cmp p q ≡ Equal → p ≡ q
there_exact p q e = grind (arith, nat_tests)

module _ {T : Type 0} where
  found_value : (xs : List (Node T)) (i : ℕ) → i < length xs → (v : T) × (value_at xs i ≡ Some v)
  unfolding value_at
  found_value [] i lt = absurd (omega arith)
  found_value (x ∷ xs) zero lt = (x.value, refl)
  found_value (x ∷ xs) (suc i) lt = found_value xs i (omega arith)

  begun : (o : Option T) (v : T) (rest : List T) → o ≡ Some v → option_to_list o ++ rest ≡ [] → ⊥
  begun o v rest e none = let some : v ∷ rest ≡ [] = ap (λ x. option_to_list x ++ rest) (sym e) ∙ none in cc

  not_empty : (nodes : List (Node T)) (first n : ℕ) → 0 < n → AreThere nodes first n → values nodes first n ≡ [] → ⊥
  not_empty nodes first zero some there e = omega arith
  not_empty nodes first (suc n) some there e =
      let found = found_value nodes first (there 0 (omega arith)) in
      begun (value_at nodes first) found.0 (values nodes (next_at nodes first) n) found.1 e

  chain_list : (nodes : List (Node T)) (chain : ℕ → Option Chain) (key : ℕ) → AreChains nodes chain → (o : Option Chain) → chain key ≡ o → IsSome o ↔ (listed nodes o ≢ [])
  chain_list nodes chain key are None has = (λ s none. cc, λ ne. absurd (ne refl))
  chain_list nodes chain key are (Some c) has = (λ s. not_empty nodes c.first c.count (are.some key c has) (are.there key c has), λ ne. refl)

  pub exact : (nodes : List (Node T)) (m : BTreeMap ℕ Chain) (view : List (ℕ × List T)) (found : List ℕ) → found ≡ keys m → AreChains nodes (get nat_cmp m) → lists nodes m.entries ≡ view
      → (key : ℕ) → Contains found key ↔ (list_of view key ≢ [])
  exact nodes m view found e are is key =
      let iff = btree_map_contains_key_iff nat_cmp_total there_exact m key in
      let both = chain_list nodes (get nat_cmp m) key are (get nat_cmp m key) refl in
      let same : list_of view key ≡ listed nodes (get nat_cmp m key) = ap (λ (l : List (ℕ × List T)). list_of l key) (sym is) ∙ list_of-lists nodes m.entries key in (
        λ among none. both.0 (iff.1 (subst (λ ks. Contains ks key) e among)) (sym same ∙ none),
        λ ne. subst (λ ks. Contains ks key) (sym e) (iff.0 (both.1 (λ none. ne (same ∙ none)))),
      )
