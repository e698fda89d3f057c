-- The accesses of a run in order, and what it is that each read has the last value written (docs/WITNESS.md, "Accesses").
use Rattle.std.specs.Prelude.{◌≡◌, ◌⊎◌, ℕ, ◌^◌, ◌<◌, ◌≤◌, true, false, List, All, AllPairs, Contains}
use Rattle.std.specs.List.Sorted.{IsPermutation}
use Rattle.mem_rows.specs.declared.access.Access.{Access}
use Rattle.mem_rows.specs.declared.access.TheConstants.{END}

-- by key, and of one key by time
abbrev pub ComesBefore : Access → Access → Type 0
ComesBefore b a = (b.key < a.key) ⊎ ((b.key ≡ a.key) × (b.time < a.time))

-- keys, times and values are as the columns of Mem can have them
pub record InReach (a : Access) : Type 0 where
  pub key : a.key < 2 ^ 30
  pub time : a.time ≤ END
  pub value : a.value < 2 ^ 64

-- w writes the key of a before a
pub record IsEarlierWrite (a w : Access) : Type 0 where
  pub write : w.write ≡ true
  pub key : w.key ≡ a.key
  pub before : w.time < a.time

-- w is the one with the greatest earlier time
pub record IsLastWrite (xs : List Access) (a w : Access) : Type 0 where
  pub there : Contains xs w
  pub earlier : IsEarlierWrite a w
  pub greatest : (v : Access) → Contains xs v → IsEarlierWrite a v → v.time ≤ w.time

-- a has the value of the last write of its key, or 0 where there is none
pub data HasLast (xs : List Access) (a : Access) : Type 0 where
  written : (w : Access) → IsLastWrite xs a w → a.value ≡ w.value → HasLast xs a
  never : ((v : Access) → Contains xs v → IsEarlierWrite a v → ⊥) → a.value ≡ 0 → HasLast xs a

-- each read has the last value written
abbrev pub IsReadLastWrite : List Access → Type 0
IsReadLastWrite xs = (a : Access) → Contains xs a → a.write ≡ false → HasLast xs a

-- ys are the accesses xs, in order, no two with one key and one time
pub record IsSequenceOf (xs ys : List Access) : Type 0 where
  pub same : IsPermutation xs ys
  pub ascending : AllPairs ComesBefore ys
  pub in_reach : All InReach ys
  pub right : IsReadLastWrite ys
