-- The lists of all keys, walked.
use Rattle.std.proofs.Common.{◌≡◌, ◌==◌, ◌≢◌, ◌↔◌, ◌+◌, ◌<◌, ◌≤◌, ◌⊎◌, inl, inr, ⊎_elim, ℕ, zero, suc, List, [], ◌∷◌, ◌++◌, map, take, length, get_or, refl, ap, sym, ◌∙◌, subst, arith, append_assoc}
use Rattle.std.specs.Prelude.{All, Contains}
use Rattle.std.specs.List.{flat_map, range_with_len}
use Rattle.std.specs.Iterator.{YieldsFirst, Yields, Drains}
use Rattle.std.specs.List.Sorted.{IsStrictlyIncreasing}
use Rattle.std.proofs.lemmas.Bool.{cases_lt}
use Rattle.std.proofs.lemmas.Grind.{flat_map-append}
use Rattle.std.proofs.lemmas.List.{append-nil, take_all, take_more}
use Rattle.std.proofs.lemmas.List.Elements.{All-nil, All-append, All-same, Contains-get_or, filter-append}
use Rattle.std.proofs.lemmas.List.FromFn.{map-range_with_len_more}
use Rattle.chain_pool.specs.Lists.{list_of}
use Rattle.rv_model.specs.declared.answer.Public.{Public}
use Rattle.mem_rows.specs.declared.access.Access.{Access}
use Rattle.mem_rows.specs.declared.access.TheConstants.{END}
use Rattle.rv_model.specs.Image.{Img}
use Rattle.gold.specs.declared.instances.Table.{Table}
use Rattle.mem_rows.specs.Accesses.{output_word, last_reads, accesses, accesses_to}
use Rattle.mem_rows.specs.Rows.{mem_tables, mem_tables_of}
use Rattle.mem_rows.specs.Order.{of_key, key_end, in_order}
use Rattle.mem_rows.specs.Kept.{Keeps, KeepsTo, Adds, AreInReach}
use Rattle.mem_rows.proofs.Order.{Ascends, Among, AreChains, chains_in_order}

yielded : (s xs t : List Access) → Yields (YieldsFirst (λ (w : List Access). w)) s xs t → s ≡ xs ++ t
yielded s [] t h = h
yielded s (x ∷ xs) t (j, step, rest) = step ∙ ap (λ l. x ∷ l) (yielded j xs t rest)

pub pushed : (old new walk it xs : List Access) → it ≡ walk → new ≡ old ++ xs → Drains (YieldsFirst (λ (w : List Access). w)) it xs → new ≡ old ++ walk
pushed old new walk it xs e h (u, (t, ys, none)) =
    h ∙ ap (λ l. old ++ l) (sym (append-nil xs) ∙ ap (λ l. xs ++ l) (sym none.0) ∙ sym (yielded it xs t ys) ∙ e)

pub word_more : (public : Public) (k : ℕ) (old now new : List ℕ) (v : ℕ) → now ≡ old ++ map (output_word public) (range_with_len 0 k) → v ≡ output_word public k → new ≡ now ++ v ∷ [] → new ≡ old ++ map (output_word public) (range_with_len 0 (k + 1))
word_more public k old now new v h e p =
    p ∙ ap (λ x. now ++ x ∷ []) e ∙ ap (λ xs. xs ++ output_word public k ∷ []) h ∙ append_assoc old (map (output_word public) (range_with_len 0 k)) (output_word public k ∷ [])
    ∙ ap (λ xs. old ++ xs) (sym (map-range_with_len_more (output_word public) 0 k k (omega arith)))

pub key_more : (lists : List (ℕ × List Access)) (keys : List ℕ) (i : ℕ) (all new walk : List Access) → i < length keys → all ≡ flat_map (list_of lists) (take i keys) → walk ≡ list_of lists (get_or keys i 0) → new ≡ all ++ walk
    → new ≡ flat_map (list_of lists) (take (i + 1) keys)
key_more lists keys i all new walk lt h w n =
    n ∙ ap (λ l. l ++ walk) h ∙ ap (λ l. flat_map (list_of lists) (take i keys) ++ l) (w ∙ sym (append-nil (list_of lists (get_or keys i 0))))
    ∙ sym (flat_map-append (list_of lists) (take i keys) (get_or keys i 0 ∷ [])) ∙ ap (flat_map (list_of lists)) (sym (take_more keys i 0 lt))

ascends : (keys : List ℕ) (low : ℕ) → IsStrictlyIncreasing keys → ((i : ℕ) → i < length keys → get_or keys i 0 < key_end) → (0 < length keys → low ≤ get_or keys 0 0) → Ascends low key_end keys
ascends [] low up below from = tt
ascends (k ∷ []) low up below from = (from (omega arith), below 0 (omega arith), tt)
ascends (k ∷ j ∷ js) low up below from = (
  from (omega arith),
  below 0 (omega arith),
  ascends (j ∷ js) (k + 1) (λ i lt. let e : suc i + 1 ≡ suc (i + 1) = omega arith in let P : ℕ → Type 0 = λ m. get_or (j ∷ js) i 0 < get_or (k ∷ j ∷ js) m 0 in subst P e (up (suc i) (omega arith))) (λ i lt. below (suc i) (omega arith)) (λ some. let h : k < j = up 0 (omega arith) in omega arith),
)

among : (keys : List ℕ) (k i : ℕ) → i < length keys → get_or keys i k ≡ k → Among k keys
among [] k i lt e = absurd (omega arith)
among (j ∷ js) k zero lt e = inl (sym e)
among (j ∷ js) k (suc i) lt e = inr (among js k i (omega arith) e)

none_if : (l : List Access) → ((l ≡ [] → ⊥) → ⊥) → l ≡ []
none_if [] h = refl
none_if (x ∷ xs) h = absurd (h (λ e. cc))

pub record AreKeys (lists : List (ℕ × List Access)) (keys : List ℕ) : Type 0 where
  pub rising : IsStrictlyIncreasing keys
  pub exact : (k : ℕ) → Contains keys k ↔ (list_of lists k ≢ [])

chains : (lists : List (ℕ × List Access)) (keys : List ℕ) (xs : List Access) → AreKeys lists keys → AreInReach lists → Keeps lists xs → AreChains xs (list_of lists) keys
chains lists keys xs are reach keeps = record {
  up = ascends keys 0 are.rising
      (λ i lt. ⊎_elim (λ low. low) (λ high. absurd ((are.exact (get_or keys i 0)).0 (Contains-get_or keys i 0 lt) (reach.keys (get_or keys i 0) high))) (cases_lt (get_or keys i 0) key_end))
      (λ some. omega arith);
  each = keeps;
  none = λ k off. none_if (list_of lists k) (λ some. let at = (are.exact k).1 some in off (among keys k at.0 at.1 at.2));
}

pub all_ordered : (lists view : List (ℕ × List Access)) (all : List Access) (items keys : List ℕ) (i : ℕ) → all ≡ flat_map (list_of lists) (take i items) → length items ≤ i → items ≡ keys → IsStrictlyIncreasing keys
    → ((k : ℕ) → Contains keys k ↔ (list_of lists k ≢ [])) → AreInReach lists → lists ≡ view → (xs : List Access) → Keeps view xs → all ≡ in_order xs
all_ordered lists view all items keys i h le e rising exact reach is xs keeps =
    h ∙ ap (flat_map (list_of lists)) (take_all i items le ∙ e)
    ∙ chains_in_order xs (list_of lists) keys (chains lists keys xs (record { rising = rising; exact = exact }) reach (λ k. ap (λ (l : List (ℕ × List Access)). list_of l k) is ∙ keeps k))

times_of : (lists : List (ℕ × List Access)) (keys : List ℕ) → AreInReach lists → All (λ (a : Access). a.time ≤ END) (flat_map (list_of lists) keys)
times_of lists [] reach = All-nil (λ (a : Access). a.time ≤ END)
times_of lists (k ∷ ks) reach = All-append (λ (a : Access). a.time ≤ END) (list_of lists k) (flat_map (list_of lists) ks) (reach.times k) (times_of lists ks reach)

pub all_times : (lists : List (ℕ × List Access)) (all : List Access) (items : List ℕ) (i : ℕ) → all ≡ flat_map (list_of lists) (take i items) → AreInReach lists → All (λ (a : Access). a.time ≤ END) all
all_times lists all items i h reach = All-same (λ (a : Access). a.time ≤ END) all (flat_map (list_of lists) (take i items)) h (times_of lists (take i items) reach)

pub finished : (image : Img) (n : ℕ) (public : Public) (lists new : List (ℕ × List Access)) → Adds lists new (last_reads public) → KeepsTo image n lists → Keeps new (accesses image n public)
finished image n public lists new h keeps k = h k ∙ ap (λ l. l ++ of_key (last_reads public) k) (keeps k) ∙ sym (filter-append (λ (x : Access). x.key == k) (accesses_to image n) (last_reads public))

pub run_tables : (image : Img) (n : ℕ) (public : Public) (all seen : List Access) (tables : List Table) → tables ≡ mem_tables_of seen → seen ≡ all → all ≡ in_order (accesses image n public) → tables ≡ mem_tables image n public
run_tables image n public all seen tables e s h = e ∙ ap mem_tables_of (s ∙ h)
