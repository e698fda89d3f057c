-- Limbs, digits and flags of numbers, as the columns of tables have them.
use Rattle.std.specs.Prelude.{ℕ, zero, suc, ◌*◌, ◌/◌, ◌%◌, ◌^◌, ◌==◌, Bool, cond, List, [], ◌∷◌}

-- the limbs of a number: its low 32 bits, and the rest
unfoldable pub low : ℕ → ℕ
low v = v % 2 ^ 32

unfoldable pub high : ℕ → ℕ
high v = v / 2 ^ 32

-- 1 for true
abbrev pub one_if : Bool → ℕ
one_if t = cond t 1 0

-- its digit i of 16 bits, and the n digits from i on
abbrev pub digit : ℕ → ℕ → ℕ
digit v i = v / 2 ^ (16 * i) % 2 ^ 16

abbrev pub digits : ℕ → ℕ → ℕ → List ℕ
digits v i zero = []
digits v i (suc n) = digit v i ∷ digits v (suc i) n

-- n flags for the numbers from k on, of which that of j is 1
abbrev pub flags : ℕ → ℕ → ℕ → List ℕ
flags j k zero = []
flags j k (suc n) = one_if (j == k) ∷ flags j (suc k) n
