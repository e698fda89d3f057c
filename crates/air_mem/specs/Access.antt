-- Accesses to memory, and what it is for a list of them that each read has the last value written.
use Rattle.std.specs.Prelude.{ℕ, ◌^◌, ◌<◌, ◌≤◌, ◌≡◌, ◌⊎◌, Bool, true, false, cond, List, [], ◌∷◌, All, AllPairs, Contains}

pub record Access : Type 0 where
  pub key : ℕ
  pub time : ℕ
  pub write : Bool
  pub lo : ℕ
  pub hi : ℕ

abbrev pub is_one : Bool → ℕ
is_one b = cond b 1 0

-- as the memory bus has it
abbrev pub memory_tuple : Access → List ℕ
memory_tuple a = a.key ∷ a.time ∷ is_one a.write ∷ a.lo ∷ a.hi ∷ []

-- w writes the key of a before a
pub record IsEarlierWrite (a w : Access) : Type 0 where
  pub write : w.write ≡ true
  pub key : w.key ≡ a.key
  pub before : w.time < a.time

-- w is the one with the greatest earlier time
pub record IsLastWrite (xs : List Access) (a w : Access) : Type 0 where
  pub there : Contains xs w
  pub earlier : IsEarlierWrite a w
  pub greatest : (v : Access) → Contains xs v → IsEarlierWrite a v → v.time ≤ w.time

-- a has the value of the last write of its key, or 0 where there is none
pub data HasLast (xs : List Access) (a : Access) : Type 0 where
  written : (w : Access) → IsLastWrite xs a w → a.lo ≡ w.lo → a.hi ≡ w.hi → HasLast xs a
  never : ((v : Access) → Contains xs v → IsEarlierWrite a v → ⊥) → a.lo ≡ 0 → a.hi ≡ 0 → HasLast xs a

-- each read has the last value written
abbrev pub IsReadLastWrite : List Access → Type 0
IsReadLastWrite xs = (a : Access) → Contains xs a → a.write ≡ false → HasLast xs a

pub record InReach (a : Access) : Type 0 where
  pub key : a.key < 2 ^ 30
  pub time : a.time ≤ 2 ^ 35

-- by key, then time
abbrev pub ComesBefore : Access → Access → Type 0
ComesBefore b a = (b.key < a.key) ⊎ ((b.key ≡ a.key) × (b.time < a.time))

-- the accesses of a run, as Mem has them: in order, no two with one key and one time
pub record IsSequence (xs : List Access) : Type 0 where
  pub in_order : AllPairs ComesBefore xs
  pub in_reach : All InReach xs
  pub right : IsReadLastWrite xs
