-- A pool with one value more, list by list.
use Rattle.std.proofs.Common.{◌≡◌, ◌==◌, ◌+◌, ◌-◌, ◌<◌, ℕ, List, [], ◌∷◌, ◌++◌, length, take, Option, Some, None, true, false, cond, ⊎_elim, refl, ap, sym, ◌∙◌, subst, arith}
use Rattle.std.proofs.Math.Seq.{take-append_seam}
use Rattle.std.specs.Map.{lookup}
use Rattle.std.specs.Ordering.{nat_cmp}
use Rattle.std.specs.BTreeMap.{BTreeMap, get, is_at, Updates}
use Rattle.std.proofs.lemmas.Bool.{cases_eq, ne_eqb, eq-eqb}
use Rattle.chain_pool.specs.declared.chain.Node.{Node}
use Rattle.chain_pool.specs.declared.chain.Chain.{Chain}
use Rattle.chain_pool.specs.Chain.{next_at, value_at, lists, AreChains}
use Rattle.chain_pool.specs.Lists.{list_of, Appends, Clears}
use Rattle.chain_pool.proofs.Chains.{is_at-number, listed, list_of-lists, push_long, push_next, push_value, push_added}
use Rattle.chain_pool.proofs.Growth.{Puts, IsFirst, IsNext, appended}

not_at : (key q : ℕ) → (key ≡ q → ⊥) → is_at (nat_cmp key) q ≡ false
not_at key q ne = is_at-number key q ∙ ne_eqb key q ne

puts : (old new : BTreeMap ℕ Chain) (key : ℕ) (c : Chain) → Updates nat_cmp old new key (Some c) → Puts (get nat_cmp old) (get nat_cmp new) key c
puts old new key c up = record { here = up.1; others = λ q ne. up.2 q (not_at key q ne) }

module _ {T : Type 0} where
  -- the lists of the keys, in terms of the lists of the chains
  pub behind : (nodes more : List (Node T)) (old new : BTreeMap ℕ Chain) (view : List (ℕ × List T)) (key : ℕ) (value : T) → lists nodes old.entries ≡ view
      → listed more (get nat_cmp new key) ≡ listed nodes (get nat_cmp old key) ++ value ∷ []
      → ((q : ℕ) → (key ≡ q → ⊥) → listed more (get nat_cmp new q) ≡ listed nodes (get nat_cmp old q))
      → Appends view (lists more new.entries) key value
  behind nodes more old new view key value is here others q =
      let old_is : (k : ℕ) → listed nodes (get nat_cmp old k) ≡ list_of view k = λ k. sym (list_of-lists nodes old.entries k) ∙ ap (λ (l : List (ℕ × List T)). list_of l k) is in
      list_of-lists more new.entries q
      ∙ appended (list_of view) (λ k. listed more (get nat_cmp new k)) key value (here ∙ ap (λ l. l ++ value ∷ []) (old_is key)) (λ k ne. others k ne ∙ old_is k) q

  pub last_low : (nodes : List (Node T)) (chain : ℕ → Option Chain) (key : ℕ) (c : Chain) → AreChains nodes chain → chain key ≡ Some c → c.last < length nodes
  last_low nodes chain key c are has =
      let some = are.some key c has in
      let low = are.there key c has (c.count - 1) (omega arith) in
      rw (← are.last key c has) low

  -- a key without a chain
  pub first_of : (nodes more : List (Node T)) (old new : BTreeMap ℕ Chain) (key at : ℕ) (value : T) (n : ℕ) → at ≡ length nodes → more ≡ nodes ++ (record { value = value; next = n }) ∷ []
      → get nat_cmp old key ≡ None → Updates nat_cmp old new key (Some (record { first = at; last = at; count = 1 })) → IsFirst nodes more (get nat_cmp old) (get nat_cmp new) key value
  first_of nodes more old new key at value n e pushed absent up =
      let x : Node T = record { value = value; next = n } in
      record {
        grown = record { long = push_long nodes more x pushed; next = λ i lt any. push_next nodes more x pushed i lt; value = push_value nodes more x pushed; added = push_added nodes more x pushed };
        absent = absent;
        puts = let made : Chain = record { first = length nodes; last = length nodes; count = 1 } in
            puts old new key made (subst (λ (k : ℕ). Updates nat_cmp old new key (Some (record { first = k; last = k; count = 1 }))) e up);
      }

  -- a key with a chain
  pub next_of : (nodes more : List (Node T)) (old new : BTreeMap ℕ Chain) (key at : ℕ) (value : T) (c : Chain) → at ≡ length nodes → AreChains nodes (get nat_cmp old)
      → length more ≡ length nodes + 1 → ((i : ℕ) → i < length nodes → next_at more i ≡ cond (i == c.last) (length nodes) (next_at nodes i))
      → ((i : ℕ) → i < length nodes → value_at more i ≡ value_at nodes i) → value_at more (length nodes) ≡ Some value
      → get nat_cmp old key ≡ Some c → Updates nat_cmp old new key (Some (record { first = c.first; last = at; count = c.count + 1 })) → IsNext nodes more (get nat_cmp old) (get nat_cmp new) key value c
  next_of nodes more old new key at value c e are long next values added has up =
      let low : c.last < length nodes = last_low nodes (get nat_cmp old) key c are has in
      let yes : (c.last == c.last) ≡ true = eq-eqb c.last c.last refl in
      record {
        grown = record { long = long; next = λ i lt ne. let no : (i == c.last) ≡ false = ne_eqb i c.last ne in next i lt ∙ rw no refl; value = values; added = added };
        leads = next c.last low ∙ rw yes refl;
        has = has;
        puts = puts old new key (record { first = c.first; last = length nodes; count = c.count + 1 }) (subst (λ (k : ℕ). Updates nat_cmp old new key (Some (record { first = c.first; last = k; count = c.count + 1 }))) e up);
      }

  -- what a pool holds is as before where its nodes and its chains are
  pub same_view : (nodes more : List (Node T)) (old new : BTreeMap ℕ Chain) (view : List (ℕ × List T)) → lists nodes old.entries ≡ view → more ≡ nodes → new.entries ≡ old.entries → lists more new.entries ≡ view
  same_view nodes more old new view is n e = rw (n, e) is

  pub same_chains : (nodes more : List (Node T)) (old new : BTreeMap ℕ Chain) → AreChains nodes (get nat_cmp old) → more ≡ nodes → new.entries ≡ old.entries → AreChains more (get nat_cmp new)
  same_chains nodes more old new are n e =
      let P : List (ℕ × Chain) → Type 0 = λ es. AreChains more (λ k. lookup (is_at (nat_cmp k)) es) in
      subst P (sym e) (subst (λ (ns : List (Node T)). AreChains ns (get nat_cmp old)) (sym n) are)

  pub taken : (nodes : List (Node T)) (n : ℕ) (x : Node T) → n ≡ length nodes + 1 → take (n - 1) (nodes ++ x ∷ []) ≡ nodes
  taken nodes n x e = let less : n - 1 ≡ length nodes = omega arith in rw less (take-append_seam nodes (x ∷ []))

  -- ---- without a key's chain
  without : (nodes : List (Node T)) (chain new : ℕ → Option Chain) → ((q : ℕ) (c : Chain) → new q ≡ Some c → chain q ≡ Some c) → AreChains nodes chain → AreChains nodes new
  without nodes chain new old are = record {
    some = λ q c has. are.some q c (old q c has);
    few = λ q c has. are.few q c (old q c has);
    there = λ q c has. are.there q c (old q c has);
    last = λ q c has. are.last q c (old q c has);
    apart = λ q r c d m n has has'. are.apart q r c d m n (old q c has) (old r d has');
  }

  pub cleared_chains : (nodes : List (Node T)) (old new : BTreeMap ℕ Chain) (key : ℕ) → Updates nat_cmp old new key None → AreChains nodes (get nat_cmp old) → AreChains nodes (get nat_cmp new)
  cleared_chains nodes old new key up =
      without nodes (get nat_cmp old) (get nat_cmp new) (λ q c has. ⊎_elim
      (λ e. let none : Some c ≡ None = sym has ∙ ap (get nat_cmp new) (sym e) ∙ up.1 in cc)
      (λ ne. sym (up.2 q (not_at key q ne)) ∙ has) (cases_eq key q))

  pub cleared : (nodes : List (Node T)) (old new : BTreeMap ℕ Chain) (view : List (ℕ × List T)) (key : ℕ) → lists nodes old.entries ≡ view → Updates nat_cmp old new key None → Clears view (lists nodes new.entries) key
  cleared nodes old new view key is up q =
      list_of-lists nodes new.entries q ∙ ⊎_elim
      (λ e. let yes : (q == key) ≡ true = eq-eqb q key (sym e) in rw yes (ap (listed nodes) (ap (get nat_cmp new) (sym e) ∙ up.1)))
      (λ ne. let no : (q == key) ≡ false = ne_eqb q key (λ e. ne (sym e)) in
      rw no (ap (listed nodes) (up.2 q (not_at key q ne)) ∙ sym (list_of-lists nodes old.entries q) ∙ ap (λ (l : List (ℕ × List T)). list_of l q) is)) (cases_eq key q)
