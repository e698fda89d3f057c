-- How far the writes before the run are made: words for the proofs alone.
use Rattle.std.specs.Prelude.{◌≡◌, ◌==◌, ◌⊎◌, ℕ, ◌+◌, ◌/◌, ◌<◌, ◌≤◌, List, [], ◌∷◌, length, if◌then◌else◌}
use Rattle.chain_pool.specs.Lists.{list_of}
use Rattle.rv_model.specs.Image.{Img, Seg, initial_word}
use Rattle.rv_model.specs.declared.machine.TheConstants.{MEMORY_WORDS}
use Rattle.mem_rows.specs.declared.access.Access.{Access}
use Rattle.mem_rows.specs.Accesses.{writes}

-- the write of a doubleword, if it isn't 0
abbrev pub write_at : Img → ℕ → List Access
write_at image k = if initial_word image k == 0 then [] else writes k 0 (initial_word image k) ∷ []

-- nothing was done but some of the first writes
abbrev pub IsPart : Img → List (ℕ × List Access) → Type 0
IsPart image lists = (q : ℕ) → (list_of lists q ≡ []) ⊎ ((q < MEMORY_WORDS) × (list_of lists q ≡ write_at image q))

-- the first write of each doubleword from one up to another is done, and of those that were done each still is
pub record Writes (image : Img) (old new : List (ℕ × List Access)) (from to : ℕ) : Type 0 where
  pub part : IsPart image new
  pub done : (q : ℕ) → from ≤ q → q < to → list_of new q ≡ write_at image q
  pub still : (q : ℕ) → list_of old q ≡ write_at image q → list_of new q ≡ write_at image q

-- the first writes of a segment's bytes are done
abbrev pub IsWritten : Img → List (ℕ × List Access) → Seg → Type 0
IsWritten image lists s = (q : ℕ) → s.start / 8 ≤ q → q < (s.start + length s.bytes + 7) / 8 → list_of lists q ≡ write_at image q
