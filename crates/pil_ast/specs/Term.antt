-- A constraint text as plain data: an expression, a line, a namespace (docs/PIL.md).
use Rattle.std.specs.Prelude.{ℕ, Bool, true, false, List, [], ◌∷◌, Option, zero, suc, unwrap_or, sum_by, flat_map}
use Rattle.pil_ast.specs.declared.tree.Place.{Place}

-- an expression: a number, a column or an intermediate with or without a mark, a public, -a, a + b, a - b, a * b
pub data Term : Type 0 where
  num : ℕ → Term
  col : ℕ → ℕ → Bool → Term
  mid : ℕ → ℕ → Bool → Term
  public : ℕ → Term
  opp : Term → Term
  ◌⊕◌ : Term → Term → Term
  ◌⊖◌ : Term → Term → Term
  ◌⊗◌ : Term → Term → Term

infixl 60 ◌⊕◌
infixl 60 ◌⊖◌
infixl 70 ◌⊗◌
-- the tuples of the selected rows of one namespace
pub record Tuples : Type 0 where
  pub space : ℕ
  pub sel : Option Term
  pub terms : List Term

-- an item of a namespace; an identity has the number of the namespace over whose rows it goes
pub data Line : Type 0 where
  constant : List ℕ → Option ℕ → Line
  commit : List ℕ → Option ℕ → Line
  inter : List ℕ → Term → Line
  published : List ℕ → ℕ → ℕ → ℕ → Line
  identity : ℕ → Term → Term → Line
  lookup : Tuples → Tuples → Line
  bus : List Tuples → List Tuples → Line

pub record Namespace : Type 0 where
  pub name : List ℕ
  pub rows : ℕ
  pub items : List Line

-- the k-th item, from 0
abbrev pub item_at : List Line → ℕ → Line
item_at [] k = identity 0 (num 0) (num 0)
item_at (l ∷ ls) zero = l
item_at (l ∷ ls) (suc k) = item_at ls k

-- the expression of an intermediate
abbrev pub body_of : Line → Term
body_of (inter n e) = e
body_of _ = num 0

-- the expression of the k-th item, which is an intermediate
abbrev pub inter_at : List Line → ℕ → Term
inter_at items k = body_of (item_at items k)

-- the namespace with number s
abbrev pub space_at : List Namespace → ℕ → Namespace
space_at [] s = record { name = []; rows = 0; items = [] }
space_at (n ∷ ns) zero = n
space_at (n ∷ ns) (suc s) = space_at ns s

-- how many columns an item declares: one, or one for each element of an array
abbrev pub columns_of : Line → ℕ
columns_of (constant n len) = unwrap_or len 1
columns_of (commit n len) = unwrap_or len 1
columns_of _ = 0

-- how many columns a namespace has
abbrev pub width : List Line → ℕ
width items = sum_by columns_of items

-- what a public names
abbrev pub places_of : Line → List Place
places_of (published n s k r) = record { space = s; column = k; row = r } ∷ []
places_of _ = []

-- the publics in order of the text
abbrev pub publics : List Namespace → List Place
publics ns = flat_map (λ n. flat_map places_of n.items) ns

-- an identity, an `in` or an `is`
abbrev pub is_line : Line → Bool
is_line (identity s a b) = true
is_line (lookup a b) = true
is_line (bus ls rs) = true
is_line _ = false
