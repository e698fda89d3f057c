-- Lists of tuples as steps of a program, and what they send at a row.
use Rattle.std.specs.Prelude.{ℕ, ◌<◌, ◌≡◌, ◌≢◌, ◌==◌, not, true, cond, List, [], ◌∷◌, Option, Some, None, map, All}
use Rattle.pil_ast.specs.Term.{Term, num, Tuples, Namespace}
use Rattle.pil_ast.specs.Holds.{times}
use Rattle.pil_program.specs.declared.nodes.Node.{Node}
use Rattle.pil_program.specs.Program.{Computes}
use Rattle.instance_pass.specs.declared.senders.Sender.{Sender}

-- the steps are among m steps
pub record IsSenderIn (m : ℕ) (x : Sender) : Type 0 where
  pub sel : x.sel < m
  pub terms : All (λ k. k < m) x.terms

-- what the steps' values v send at a row: its tuple, or nothing where it isn't selected
abbrev pub sent_by : (ℕ → ℕ) → Sender → List (List ℕ)
sent_by v x = cond (not (v x.sel == 0)) (map v x.terms ∷ []) []

-- the tuple of a row is one of these, or the row isn't selected
abbrev pub StandsIn : List (List ℕ) → Sender → (ℕ → ℕ) → Type 0
StandsIn ts x v = not (v x.sel == 0) ≡ true → times (map v x.terms) ts ≢ 0

-- steps are the values of terms of the namespace s
abbrev pub AllCompute : List Namespace → ℕ → List Node → List Term → List ℕ → Type 0
AllCompute ns s nodes [] [] = Unit {0}
AllCompute ns s nodes (e ∷ es) (k ∷ ks) = Computes ns s nodes 0 e k × AllCompute ns s nodes es ks
AllCompute ns s nodes _ _ = ⊥

-- the term of a selector: where there is none each row is selected
abbrev pub selector : Option Term → Term
selector None = num 1
selector (Some e) = e

-- the steps are those of a list
pub record IsSenderOf (ns : List Namespace) (nodes : List Node) (a : Tuples) (x : Sender) : Type 0 where
  pub space : x.space ≡ a.space
  pub sel : Computes ns a.space nodes 0 (selector a.sel) x.sel
  pub terms : AllCompute ns a.space nodes a.terms x.terms
