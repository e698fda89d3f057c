-- The words in which the machine's constraints are written: each stands for what the comment above it says.
use Rattle.std.specs.Prelude.{ℕ, zero, suc, ◌+◌, true, false, List, [], ◌∷◌, map, Some, None}
use Rattle.pil_ast.specs.Term.{Term, num, col, mid, public, opp, ◌⊕◌, ◌⊖◌, ◌⊗◌, Tuples, Line, lookup}

-- %K and %M
abbrev pub K : Term
K = num 4294967296

abbrev pub M : Term
M = num 4294967295

-- x', of a column or an intermediate
abbrev pub next : Term → Term
next (col s k b) = col s k true
next (mid s k b) = mid s k true
next (num n) = num n
next (public k) = public k
next (opp a) = opp a
next (a ⊕ b) = a ⊕ b
next (a ⊖ b) = a ⊖ b
next (a ⊗ b) = a ⊗ b

-- e + x + y + ..
abbrev pub ◌⊞◌ : Term → List Term → Term
e ⊞ [] = e
e ⊞ (x ∷ xs) = (e ⊕ x) ⊞ xs

infixl 60 ◌⊞◌
-- the sum of these, from the left
abbrev pub total : List Term → Term
total [] = num 0
total (x ∷ xs) = x ⊞ xs

abbrev elements : ℕ → ℕ → (ℕ → Term) → List Term
elements zero k a = []
elements (suc n) k a = a k ∷ elements n (k + 1) a

-- a[0], a[1], .. of so many elements
abbrev pub all : ℕ → (ℕ → Term) → List Term
all n a = elements n 0 a

-- k*x + (k+1)*y + ..
abbrev pub numbered : ℕ → List Term → List Term
numbered k [] = []
numbered k (x ∷ xs) = num k ⊗ x ∷ numbered (k + 1) xs

-- the low limb of eight bytes, and the high one
abbrev pub lo4 : (ℕ → Term) → Term
lo4 a = a 0 ⊕ num 256 ⊗ a 1 ⊕ num 65536 ⊗ a 2 ⊕ num 16777216 ⊗ a 3

abbrev pub hi4 : (ℕ → Term) → Term
hi4 a = a 4 ⊕ num 256 ⊗ a 5 ⊕ num 65536 ⊗ a 6 ⊕ num 16777216 ⊗ a 7

-- the low limb of four numbers of 16 bits, and the high one, as summands and as sums
abbrev pub lo2_parts : (ℕ → Term) → List Term
lo2_parts a = a 0 ∷ (num 65536 ⊗ a 1) ∷ []

abbrev pub hi2_parts : (ℕ → Term) → List Term
hi2_parts a = a 2 ∷ (num 65536 ⊗ a 3) ∷ []

abbrev pub lo2 : (ℕ → Term) → Term
lo2 a = total (lo2_parts a)

abbrev pub hi2 : (ℕ → Term) → Term
hi2 a = total (hi2_parts a)

-- {e, ..} and sel {e, ..}, over the namespace s
abbrev pub rows : ℕ → List Term → Tuples
rows s es = record { space = s; sel = None; terms = es }

abbrev pub rows_with : ℕ → Term → List Term → Tuples
rows_with s sel es = record { space = s; sel = Some sel; terms = es }

-- {Bit.V} and {Range16.V}
abbrev pub BIT : Tuples
BIT = rows 0 (col 0 0 false ∷ [])

abbrev pub R16 : Tuples
R16 = rows 1 (col 1 0 false ∷ [])

-- sel {e} in T; for each of these
abbrev pub each : ℕ → Term → List Term → Tuples → List Line
each s sel es t = map (λ e. lookup (rows_with s sel (e ∷ [])) t) es

abbrev lines_from : ℕ → ℕ → (ℕ → Line) → List Line
lines_from zero k f = []
lines_from (suc n) k f = f k ∷ lines_from n (k + 1) f

-- f 0, f 1, .. to f (n - 1)
abbrev pub for : ℕ → (ℕ → Line) → List Line
for n f = lines_from n 0 f
