-- Line 20 whole: what Main, Init and Out send, and Mem receives.
use Rattle.std.proofs.Common.{map, ℕ, ◌+◌, ◌-◌, ◌^◌, ◌<◌, Bool, true, false, cond, eqb, ltb, List, [], ◌∷◌, ◌++◌, sym, ap, subst, ◌∙◌, arith, All}
use Rattle.std.specs.List.{range_with_len, Contains}
use Rattle.std.specs.List.Sorted.{IsPermutation}
use Rattle.std.proofs.lemmas.List.{map-append}
use Rattle.std.proofs.lemmas.List.Elements.{All-append, All-map}
use Rattle.std.proofs.lemmas.List.FromFn.{length-range_with_len, get_or-range_with_len}
use Rattle.std.proofs.lemmas.List.Sorted.{IsPermutation-map, IsPermutation-sym, Contains-permutation, All-permutation}
use Rattle.pil_ast.specs.Term.{Tuples, Namespace}
use Rattle.pil_ast.specs.Columns.{Columns}
use Rattle.pil_ast.specs.Holds.{times, all_sent, AsOften}
use Rattle.pil_laws.proofs.Times.{times_append, often_from_permutation}
use Rattle.pil_laws.proofs.Sums.{times_both, times_single, times_more}
use Rattle.step_rows.specs.declared.doubleword.Doubleword.{Doubleword}
use Rattle.air_mem.specs.Access.{Access, memory_tuple, InReach, HasLast, written, never, IsReadLastWrite, IsSequence}
use Rattle.air_mem.specs.Constants.{OutConstants, InitConstants, out_key}
use Rattle.machine_text.specs.Mem
use Rattle.machine_text.specs.Init
use Rattle.machine_text.specs.Out
use Rattle.air_mem.specs.Lists.{initial_write, final_read, final_reads, bus_lists, all_accesses}
use Rattle.air_mem.specs.Laws.{BusLaw, BusFilled, BusReceives, MemoryComplete}
use Rattle.air_mem.proofs.Law.{memory_law}
use Rattle.air_mem.proofs.Filled.{mem_filled}
use Rattle.air_mem.proofs.Outs.{init_sends, out_sends, mem_receives}

key_reach : (r : ℕ) → r < 33 → out_key r < 2 ^ 30
key_reach r h = at (eqb r 0) (ltb r 33)
  where
    at : (s t : Bool) → cond s 536870922 (cond t (167772160 + r - 1) 0) < 2 ^ 30
    at true t = omega arith
    at false true = omega arith
    at false false = omega arith

final_reach : (c : Columns) (r : ℕ) → r < 33 → InReach (final_read c r)
final_reach c r h = record { key = key_reach r h; time = omega arith }

reads_reach : (c : Columns) → All InReach (final_reads c)
reads_reach c =
    All-map InReach (final_read c) (range_with_len 0 33) (λ k d l.
    let long = length-range_with_len 0 33 in
    let e = get_or-range_with_len 0 33 k d (omega arith) in
    subst (λ r. InReach (final_read c r)) (sym e) (final_reach c (0 + k) (omega arith)))

writes_reach : (ds : List Doubleword) → All (λ d. d.number < 2 ^ 30) ds → All InReach (map initial_write ds)
writes_reach ds h = All-map InReach initial_write ds (λ k d l. record { key = h k d l; time = omega arith })

module _ (ns : List Namespace) (c : Columns) (ls : List Tuples) (ms : List Access) (ds : List Doubleword) (init : InitConstants c ds) (out : OutConstants c) (main : AsOften (all_sent ns c ls) (map memory_tuple ms)) where
  -- the senders' tuples are those of all accesses
  senders : AsOften (all_sent ns c (bus_lists ls)) (map memory_tuple (all_accesses ms ds c))
  senders t =
      let a = times_both ns c ls (Init.writes ∷ Out.reads ∷ []) t in
      let b = times_more ns c Init.writes (Out.reads ∷ []) t in
      let d = times_single ns c Out.reads t in
      let e = main t in
      let f = init_sends ns c ds init t in
      let g = out_sends ns c out t in
      let h = ap (times t) (map-append memory_tuple ms (map initial_write ds ++ final_reads c)) in
      let i = times_append t (map memory_tuple ms) (map memory_tuple (map initial_write ds ++ final_reads c)) in
      let j = ap (times t) (map-append memory_tuple (map initial_write ds) (final_reads c)) in
      let k = times_append t (map memory_tuple (map initial_write ds)) (map memory_tuple (final_reads c)) in
      omega arith

pub bus_receives : BusReceives
bus_receives ns c ls ms ds init out main line20 reach keys =
    ((λ t. sym (senders ns c ls ms ds init out main t) ∙ line20 t ∙ times_single ns c Mem.access t), All-append InReach ms (map initial_write ds ++ final_reads c) reach (All-append InReach (map initial_write ds) (final_reads c) (writes_reach ds keys) (reads_reach c)))

pub bus_law : BusLaw
bus_law ns c ls ms ds has holds init out main line20 reach keys =
    let b = bus_receives ns c ls ms ds init out main line20 reach keys in
    memory_law ns c has holds (all_accesses ms ds c) b.0 b.1

pub bus_filled : BusFilled
bus_filled ns c ls ms ds xs init out main order filled t =
    senders ns c ls ms ds init out main t ∙ often_from_permutation _ _ (IsPermutation-map memory_tuple (all_accesses ms ds c) xs order) t ∙ mem_receives ns c xs filled t ∙ sym (times_single ns c Mem.access t)

-- a list in another order
module _ (ys xs : List Access) (moved : IsPermutation ys xs) where
  into_xs : (a : Access) → Contains ys a → Contains xs a
  into_xs a = Contains-permutation ys xs a moved

  from_xs : (a : Access) → Contains xs a → Contains ys a
  from_xs a = Contains-permutation xs ys a (IsPermutation-sym ys xs moved)

  has_last : (a : Access) → HasLast ys a → HasLast xs a
  has_last a (written w h e f) = written w (record { there = into_xs w h.there; earlier = h.earlier; greatest = λ v l. h.greatest v (from_xs v l) }) e f
  has_last a (never n e f) = never (λ v l. n v (from_xs v l)) e f

  right : IsReadLastWrite ys → IsReadLastWrite xs
  right h a l r = has_last a (h a (from_xs a l) r)

pub memory_complete : MemoryComplete
memory_complete ns c ls ms ds xs has init out main reach keys reads moved order filled =
    let all_reach = All-append InReach ms (map initial_write ds ++ final_reads c) reach (All-append InReach (map initial_write ds) (final_reads c) (writes_reach ds keys) (reads_reach c)) in
    let sequence : IsSequence xs = record { in_order = order; in_reach = All-permutation InReach (all_accesses ms ds c) xs moved all_reach; right = right (all_accesses ms ds c) xs moved reads } in
    (mem_filled ns c xs has sequence filled, bus_filled ns c ls ms ds xs init out main moved filled)
