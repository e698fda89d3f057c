-- The syntax as plain data.
use Rattle.std.specs.Prelude.{ℕ, List}
use Rattle.pil_syntax.specs.declared.tree.Ident.{Ident}
use Rattle.pil_syntax.specs.declared.tree.Number.{Number}
use Rattle.pil_syntax.specs.declared.tree.Reference.{Reference}
use Rattle.pil_syntax.specs.declared.tree.Declaration.{Declaration}
use Rattle.pil_syntax.specs.declared.tree.ColumnKind.{ColumnKind}
use Rattle.pil_syntax.specs.declared.tree.Size.{Size}

-- an expression, with its parentheses
pub data Term : Type 0 where
  num : Number → Term
  col : Reference → Term
  constant : Ident → Term
  public : Ident → Term
  opp : Term → Term
  group : Term → Term
  ◌⊕◌ : Term → Term → Term
  ◌⊖◌ : Term → Term → Term
  ◌⊗◌ : Term → Term → Term

infixl 60 ◌⊕◌
infixl 60 ◌⊖◌
infixl 70 ◌⊗◌
-- what stands before the `{` of a list
pub data Filter : Type 0 where
  every : Filter
  by_col : Reference → Filter
  by_group : Term → Filter

-- a list, with the place of its `{`
pub record Tuple : Type 0 where
  pub filter : Filter
  pub at : ℕ
  pub entries : List Term

-- a statement
pub data Sentence : Type 0 where
  constant_is : Ident → Number → Sentence
  namespace_of : Ident → Size → Sentence
  columns : ColumnKind → List Declaration → Sentence
  intermediate : Ident → Term → Sentence
  public_is : Ident → Reference → Number → Sentence
  identity : Term → Term → Sentence
  lookup : Tuple → Tuple → Sentence
  bus : List Tuple → List Tuple → Sentence
