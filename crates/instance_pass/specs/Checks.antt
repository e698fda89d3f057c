-- What a check asks of the values of a row, and which line it is of.
use Rattle.std.specs.Prelude.{ℕ, ◌<◌, ◌≡◌, List, [], slice_index_or}
use Rattle.pil_ast.specs.Term.{Line, identity, lookup, bus, Namespace}
use Rattle.pil_ast.specs.Columns.{Columns}
use Rattle.pil_ast.specs.Holds.{times, sent}
use Rattle.pil_program.specs.declared.nodes.Node.{Node}
use Rattle.pil_program.specs.Program.{Computes}
use Rattle.instance_pass.specs.declared.checks.Check.{Check}
use Rattle.instance_pass.specs.declared.checks.Check.TheVariants.{Equal, Among, Nothing}
use Rattle.instance_pass.specs.Senders.{IsSenderIn, IsSenderOf, StandsIn}

-- P holds of each number below n
abbrev pub HoldsBelow : (ℕ → Type 0) → ℕ → Type 0
HoldsBelow P n = (j : ℕ) → j < n → P j

-- P fails at j, one of n numbers, and at none before
pub record FailsAt (P : ℕ → Type 0) (n j : ℕ) : Type 0 where
  pub inside : j < n
  pub fails : ¬ P j
  pub before : HoldsBelow P j

-- what a check asks of a row of the namespace s at which its steps have the values v
abbrev pub Asks : List (List (List ℕ)) → ℕ → Check → (ℕ → ℕ) → Type 0
Asks tables s (Equal t j k) v = t ≡ s → v j ≡ v k
Asks tables s (Among x k) v = x.space ≡ s → StandsIn (slice_index_or tables k []) x v
Asks tables s Nothing v = Unit {0}

-- the steps of a check of the namespace s are among m steps, and its table is one of n
abbrev pub IsCheckIn : ℕ → ℕ → ℕ → Check → Type 0
IsCheckIn n s m (Equal t j k) = t ≡ s → (j < m) × (k < m)
IsCheckIn n s m (Among x k) = (k < n) × (x.space ≡ s → IsSenderIn m x)
IsCheckIn n s m Nothing = Unit {0}

-- the check is that of a line, in the steps of the namespaces
abbrev pub IsCheckOf : List Namespace → (ℕ → List Node) → ℕ → Check → Line → Type 0
IsCheckOf ns nodes n (Equal t j k) (identity s a b) = (t ≡ s) × Computes ns s (nodes s) 0 a j × Computes ns s (nodes s) 0 b k
IsCheckOf ns nodes n (Among x k) (lookup a b) = (k < n) × IsSenderOf ns (nodes a.space) a x
IsCheckOf ns nodes n Nothing (bus ls rs) = Unit {0}
IsCheckOf ns nodes n _ _ = ⊥

-- the table of the check of an `in` has what the right side sends
abbrev pub IsTabled : List Namespace → Columns → List (List (List ℕ)) → Check → Line → Type 0
IsTabled ns c tables (Among x k) (lookup a b) = (t : List ℕ) → times t (slice_index_or tables k []) ≡ times t (sent ns c b)
IsTabled ns c tables _ _ = Unit {0}

-- the namespace over whose rows an identity or an `in` goes
abbrev pub home : Line → ℕ
home (identity s a b) = s
home (lookup a b) = a.space
home _ = 0
