-- What stands where in an expression, and which expressions speak of what is there.
use Rattle.std.specs.Prelude.{ℕ, ◌<◌, List, [], length, Bool, true, false, codes, Option, Some, None, All}
use Rattle.pil_syntax.specs.Grammar.{Level, expr, term, fact}
use Rattle.pil_ast.specs.Term as ast
use Rattle.pil_ast.specs.Sound.{Each}
use Rattle.pil_print.specs.Statements.{published}
use Rattle.pil_print.specs.declared.expressions.Level as L
use Rattle.pil_print.specs.declared.expressions.Level.TheVariants as levels

abbrev pub level_of : L.Level → Level
level_of levels.Expr = expr
level_of levels.Term = term
level_of levels.Fact = fact

-- a sum has parentheses there
abbrev pub groups_sum : Level → Bool
groups_sum expr = false
groups_sum term = true
groups_sum fact = true

-- a product has parentheses there
abbrev pub groups_product : Level → Bool
groups_product expr = false
groups_product term = false
groups_product fact = true

abbrev pub opened : Bool → List ℕ
opened true = codes "("
opened false = []

abbrev pub closed : Bool → List ℕ
closed true = codes ")"
closed false = []

-- the numbers of a column and of an item are in range
abbrev pub IsColumn : List ast.Namespace → ℕ → ℕ → Type 0
IsColumn ns s k = (s < length ns) × (k < ast.width (ast.space_at ns s).items)

abbrev pub IsItemNumber : List ast.Namespace → ℕ → ℕ → Type 0
IsItemNumber ns s k = (s < length ns) × (k < length (ast.space_at ns s).items)

-- an expression whose numbers of polynomials and publics are in range
abbrev pub IsPrintable : List ast.Namespace → ast.Term → Type 0
IsPrintable ns e = Each (λ n. Unit {0}) (λ s k b. IsColumn ns s k) (λ s k b. IsItemNumber ns s k) (λ k. k < length (published ns)) e

abbrev pub IsSelector : List ast.Namespace → Option ast.Term → Type 0
IsSelector ns None = Unit {0}
IsSelector ns (Some e) = IsPrintable ns e

-- a list, and an item, of such expressions
pub record IsPrintableList (ns : List ast.Namespace) (l : ast.Tuples) : Type 0 where
  pub sel : IsSelector ns l.sel
  pub terms : All (IsPrintable ns) l.terms

abbrev pub IsPrintableItem : List ast.Namespace → ast.Line → Type 0
IsPrintableItem ns (ast.constant x n) = Unit {0}
IsPrintableItem ns (ast.commit x n) = Unit {0}
IsPrintableItem ns (ast.inter x e) = IsPrintable ns e
IsPrintableItem ns (ast.published x s k r) = IsColumn ns s k
IsPrintableItem ns (ast.identity s a b) = IsPrintable ns a × IsPrintable ns b
IsPrintableItem ns (ast.lookup a b) = IsPrintableList ns a × IsPrintableList ns b
IsPrintableItem ns (ast.bus ls rs) = All (IsPrintableList ns) ls × All (IsPrintableList ns) rs
