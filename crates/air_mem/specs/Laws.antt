-- What the lines of Mem, Init and Out say.
use Rattle.std.specs.Prelude.{ℕ, ◌+◌, ◌*◌, ◌<◌, ◌≤◌, ◌≡◌, ◌≢◌, ◌^◌, List, [], ◌∷◌, map, length, All, AllPairs, Contains}
use Rattle.std.specs.List.Sorted.{IsPermutation}
use Rattle.gold.specs.Field.{p}
use Rattle.pil_ast.specs.Term.{Tuples, Namespace, bus, item_at, space_at}
use Rattle.pil_ast.specs.Columns.{Columns}
use Rattle.pil_ast.specs.Value.{around, public_value}
use Rattle.pil_ast.specs.Holds.{Holds, AsOften, sent, all_sent, times}
use Rattle.pil_exact.specs.Exact.{HoldsExactly}
use Rattle.pil_exact.specs.Tables.{SmallTables}
use Rattle.gold.specs.declared.shapes.Profile.{Profile}
use Rattle.machine_text.specs.Machine.{machine}
use Rattle.machine_text.specs.Init
use Rattle.machine_text.specs.Mem
use Rattle.machine_text.specs.Out
use Rattle.step_rows.specs.declared.doubleword.Doubleword.{Doubleword}
use Rattle.air_mem.specs.Access.{Access, memory_tuple, InReach, ComesBefore, IsReadLastWrite, IsSequence}
use Rattle.air_mem.specs.Constants.{MemConstants, OutConstants, InitConstants}
use Rattle.air_mem.specs.Lists.{bus_lists, all_accesses, initial_write, final_reads, read_access, IsShaped}
use Rattle.air_mem.specs.Rows.{IsMemOf}

-- Mem and the small tables stand in the text, with their constants, and the values are those of a field
pub record HasMem (ns : List Namespace) (c : Columns) : Type 0 where
  pub mem : space_at ns 7 ≡ Mem.space
  pub tables : SmallTables c
  pub constants : MemConstants c
  pub canonical : (s i k r : ℕ) → c.at s i k r < p

-- Mem's lines hold
abbrev pub MemHolds : List Namespace → Columns → Type 0
MemHolds ns c = (k : ℕ) → Holds ns c (item_at Mem.items k)

-- Where the lines of Mem hold, every list of accesses in reach that Mem receives, each equally often, is read-last-write.
abbrev pub MemoryLaw : Type 0
MemoryLaw =
    (ns : List Namespace) (c : Columns) → HasMem ns c → MemHolds ns c → (xs : List Access) → AsOften (map memory_tuple xs) (sent ns c Mem.access) → All InReach xs → IsReadLastWrite xs

-- Under the same suppositions two accesses of one key at one time are one access.
abbrev pub MemDistinct : Type 0
MemDistinct =
    (ns : List Namespace) (c : Columns) → HasMem ns c → MemHolds ns c → (xs : List Access) → AsOften (map memory_tuple xs) (sent ns c Mem.access) → All InReach xs → (a b : Access) → Contains xs a → Contains xs b → a.key ≡ b.key → a.time ≡ b.time → (a.write ≡ b.write) × (a.lo ≡ b.lo) × (a.hi ≡ b.hi)

-- Where each of some lists sends accesses in reach, and they send what Mem receives, what they send is read-last-write.
abbrev pub SendersLaw : Type 0
SendersLaw =
    (ns : List Namespace) (c : Columns) (ls : List Tuples) → HasMem ns c → MemHolds ns c → Holds ns c (bus ls (Mem.access ∷ [])) → ((t : List ℕ) → times t (all_sent ns c ls) ≢ 0 → IsShaped t) → IsReadLastWrite (map read_access (all_sent ns c ls))

-- No wrap: under the same suppositions each identity of Mem holds in whole numbers, at each row.
abbrev pub MemExact : Type 0
MemExact =
    (ns : List Namespace) (c : Columns) → HasMem ns c → MemHolds ns c → (xs : List Access) → AsOften (map memory_tuple xs) (sent ns c Mem.access) → All InReach xs → (i r : ℕ) → i < c.instances 7 → r < c.rows 7 → (k : ℕ) → HoldsExactly Mem.items (around ns c 7 i r) (item_at Mem.items k)

-- Tables that have a run's accesses so meet each of Mem's lines.
abbrev pub MemFilled : Type 0
MemFilled = (ns : List Namespace) (c : Columns) (xs : List Access) → HasMem ns c → IsSequence xs → IsMemOf c xs → MemHolds ns c

-- They receive these accesses, each once for each time that it stands in the list.
abbrev pub MemReceives : Type 0
MemReceives = (ns : List Namespace) (c : Columns) (xs : List Access) → IsMemOf c xs → AsOften (map memory_tuple xs) (sent ns c Mem.access)

-- Init sends the initial writes, and Out the final reads; Out's lines hold and none wraps, whatever its values are.
abbrev pub InitSends : Type 0
InitSends = (ns : List Namespace) (c : Columns) (ds : List Doubleword) → InitConstants c ds → AsOften (sent ns c Init.writes) (map memory_tuple (map initial_write ds))

abbrev pub OutSends : Type 0
OutSends = (ns : List Namespace) (c : Columns) → OutConstants c → AsOften (sent ns c Out.reads) (map memory_tuple (final_reads c))

abbrev pub OutHolds : Type 0
OutHolds = (ns : List Namespace) (c : Columns) (k : ℕ) → Holds ns c (item_at Out.items k)

abbrev pub OutExact : Type 0
OutExact = (ns : List Namespace) (c : Columns) (i r k : ℕ) → HoldsExactly Out.items (around ns c 8 i r) (item_at Out.items k)

-- Line 20, where Main's lists `ls` send the accesses `ms`: what Main, Init and Out send is read-last-write.
abbrev pub BusLaw : Type 0
BusLaw =
    (ns : List Namespace) (c : Columns) (ls : List Tuples) (ms : List Access) (ds : List Doubleword) → HasMem ns c → MemHolds ns c → InitConstants c ds → OutConstants c → AsOften (all_sent ns c ls) (map memory_tuple ms) → Holds ns c (bus (bus_lists ls) (Mem.access ∷ [])) → All InReach ms → All (λ d. d.number < 2 ^ 30) ds → IsReadLastWrite (all_accesses ms ds c)

-- It holds where Mem has the same accesses in any order.
abbrev pub BusFilled : Type 0
BusFilled =
    (ns : List Namespace) (c : Columns) (ls : List Tuples) (ms : List Access) (ds : List Doubleword) (xs : List Access) → InitConstants c ds → OutConstants c → AsOften (all_sent ns c ls) (map memory_tuple ms) → IsPermutation (all_accesses ms ds c) xs → IsMemOf c xs → Holds ns c (bus (bus_lists ls) (Mem.access ∷ []))

-- In the machine's text Mem has the number 7, and Out's values of row k are the publics 2k and 2k + 1.
abbrev pub MachineHas : Type 0
MachineHas = (q : Profile) → (space_at (machine q) 5 ≡ Init.space) × (space_at (machine q) 7 ≡ Mem.space) × (space_at (machine q) 8 ≡ Out.space)

abbrev pub OutPublics : Type 0
OutPublics =
    (q : Profile) (c : Columns) → OutConstants c → (k : ℕ) → k < 33 → (public_value (machine q) c (2 * k) ≡ c.at 8 0 2 k) × (public_value (machine q) c (2 * k + 1) ≡ c.at 8 0 3 k)

-- What Mem receives where line 20 holds: all accesses, and each is in reach.
abbrev pub BusReceives : Type 0
BusReceives =
    (ns : List Namespace) (c : Columns) (ls : List Tuples) (ms : List Access) (ds : List Doubleword) → InitConstants c ds → OutConstants c → AsOften (all_sent ns c ls) (map memory_tuple ms) → Holds ns c (bus (bus_lists ls) (Mem.access ∷ [])) → All InReach ms → All (λ d. d.number < 2 ^ 30) ds → AsOften (map memory_tuple (all_accesses ms ds c)) (sent ns c Mem.access) × All InReach (all_accesses ms ds c)

-- its limbs are values of the field
abbrev pub IsCanonical : Access → Type 0
IsCanonical a = (a.lo < p) × (a.hi < p)

-- For each sequence there are tables that have it, in the machine's text.
abbrev pub MemExists : Type 0
MemExists =
    (q : Profile) (xs : List Access) (m : ℕ) → IsSequence xs → All IsCanonical xs → length xs ≤ m * 8192 → m ≤ 4194304 → (c : Columns) × (c.instances 7 ≡ m) × HasMem (machine q) c × IsMemOf c xs

-- Lines 20 to 37, complete: where what Main, Init and Out send is read-last-write, and Mem has it in order.
abbrev pub MemoryComplete : Type 0
MemoryComplete =
    (ns : List Namespace) (c : Columns) (ls : List Tuples) (ms : List Access) (ds : List Doubleword) (xs : List Access) → HasMem ns c → InitConstants c ds → OutConstants c → AsOften (all_sent ns c ls) (map memory_tuple ms) → All InReach ms → All (λ d. d.number < 2 ^ 30) ds → IsReadLastWrite (all_accesses ms ds c) → IsPermutation (all_accesses ms ds c) xs → AllPairs ComesBefore xs → IsMemOf c xs → MemHolds ns c × Holds ns c (bus (bus_lists ls) (Mem.access ∷ []))
