-- The columns of an instance of Mem, each from the accesses themselves.
use Rattle.std.specs.Prelude.{ℕ, zero, suc, ◌-◌, ◌*◌, ◌/◌, ◌%◌, ◌^◌, ◌==◌, Bool, false, List, [], ◌∷◌, ◌++◌, map, take, length, Option, Some, None}
use Rattle.std.specs.Option.{option_map_or}
use Rattle.run_rows.specs.Tables.{padded}
use Rattle.mem_rows.specs.declared.access.Access.{Access}
use Rattle.mem_rows.specs.declared.columns.Step.{Step}
use Rattle.step_rows.specs.Words.{low, high, one_if}
use Rattle.mem_rows.specs.Rows.{gap}

-- what an access has to do with the one before it
abbrev pub step_of : Option Access → Access → Step
step_of None a = record { same = false; gap = 0 }
step_of (Some p) a = record { same = a.key == p.key; gap = gap p a }

abbrev pub steps_behind : Option Access → List Access → List Step
steps_behind p [] = []
steps_behind p (a ∷ xs) = step_of p a ∷ steps_behind (Some a) xs

-- the columns of the accesses' own
abbrev pub access_columns : ℕ → List Access → List (List ℕ)
access_columns rows xs = padded rows (map (λ (a : Access). 1) xs) ∷ padded rows (map (λ (a : Access). a.key) xs) ∷ padded rows (map (λ (a : Access). a.time) xs) ∷ []

abbrev pub value_columns : ℕ → List Access → List (List ℕ)
value_columns rows xs = padded rows (map (λ (a : Access). one_if a.write) xs) ∷ padded rows (map (λ (a : Access). low a.value) xs) ∷ padded rows (map (λ (a : Access). high a.value) xs) ∷ []

-- those of what they have to do with those before them
abbrev pub step_columns : ℕ → List Step → List (List ℕ)
step_columns rows ss = padded rows (map (λ (s : Step). one_if s.same) ss) ∷ padded rows (map (λ (s : Step). s.gap % 65536) ss) ∷ padded rows (map (λ (s : Step). s.gap / 65536 % 65536) ss) ∷ padded rows (map (λ (s : Step). s.gap / 2 ^ 32) ss) ∷ []

-- a column's values one row on
abbrev pub one_on : ℕ → List ℕ → List ℕ
one_on first column = first ∷ take (length column - 1) column

-- and those of the rows before
abbrev pub access_before : ℕ → Option Access → List Access → List (List ℕ)
access_before rows p xs = one_on (option_map_or (λ (a : Access). 1) p 0) (padded rows (map (λ (a : Access). 1) xs)) ∷ one_on (option_map_or (λ (a : Access). a.key) p 0) (padded rows (map (λ (a : Access). a.key) xs))
    ∷ one_on (option_map_or (λ (a : Access). a.time) p 0) (padded rows (map (λ (a : Access). a.time) xs)) ∷ []

abbrev pub value_before : ℕ → Option Access → List Access → List (List ℕ)
value_before rows p xs = one_on (option_map_or (λ (a : Access). low a.value) p 0) (padded rows (map (λ (a : Access). low a.value) xs)) ∷ one_on (option_map_or (λ (a : Access). high a.value) p 0) (padded rows (map (λ (a : Access). high a.value) xs)) ∷ []

-- the access before so many
abbrev pub last_from : Option Access → List Access → ℕ → Option Access
last_from p xs zero = p
last_from p [] (suc k) = p
last_from p (x ∷ xs) (suc k) = last_from (Some x) xs k

-- all columns of an instance
abbrev pub columns_of : ℕ → Option Access → List Access → List (List ℕ)
columns_of rows p xs = access_columns rows xs ++ value_columns rows xs ++ step_columns rows (steps_behind p xs) ++ access_before rows p xs ++ value_before rows p xs
