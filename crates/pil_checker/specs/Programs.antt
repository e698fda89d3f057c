-- The programs of all namespaces of a text.
use Rattle.std.specs.Prelude.{ℕ, zero, suc, ◌<◌, ◌≡◌, List, [], ◌∷◌, Some, length, slice_get, All}
use Rattle.pil_ast.specs.Term.{Tuples, Namespace}
use Rattle.pil_ast.specs.Sound.{IsTerm, IsSelector}
use Rattle.pil_program.specs.declared.nodes.Node.{Node}
use Rattle.pil_program.specs.declared.compiling.Program.{Program}
use Rattle.pil_program.specs.Program.{IsProgramOf, KeepsSteps}
use Rattle.pil_program.specs.Publics.{NoneInList}

-- the steps of the namespace s
abbrev pub nodes_at : List Program → ℕ → List Node
nodes_at [] s = []
nodes_at (p ∷ ps) zero = p.nodes
nodes_at (p ∷ ps) (suc s) = nodes_at ps s

-- each namespace has its program
pub record ArePrograms (ns : List Namespace) (programs : List Program) : Type 0 where
  pub long : length programs ≡ length ns
  pub each : (s : ℕ) (p : Program) → slice_get programs s ≡ Some p → IsProgramOf ns s p.nodes p.here p.next

-- each namespace's steps go on with those that it had
abbrev pub Grows : List Namespace → List Program → List Program → Type 0
Grows ns old new = (s : ℕ) → KeepsSteps ns s (nodes_at old s) (nodes_at new s)

-- the programs have more steps
pub record IsPlacing (ns : List Namespace) (old new : List Program) : Type 0 where
  pub programs : ArePrograms ns new
  pub grows : Grows ns old new

-- a list over a namespace of the text that names no public
pub record IsPlain (ns : List Namespace) (a : Tuples) : Type 0 where
  pub space : a.space < length ns
  pub sel : IsSelector ns a.space a.sel
  pub terms : All (IsTerm ns a.space) a.terms
  pub unnamed : NoneInList a
