-- The order in which the intermediates of a namespace are evaluated.
use Rattle.std.specs.Prelude.{ℕ, ◌≡◌, Bool, false, not, List, map, slice_index_or, All}
use Rattle.pil_ast.specs.declared.turns.Turn.{Turn}
use Rattle.pil_ast.specs.Term.{Line, inter_at}
use Rattle.pil_ast.specs.Written.{marked}
use Rattle.pil_ast.specs.Order.{IsWhole}

-- the items of a list of turns
abbrev pub items_of : List Turn → List ℕ
items_of turns = map (λ t. t.item) turns

-- the turns have each intermediate after those that it names, and tell which have no mark when they
-- are written out
pub record IsPlan (items : List Line) (turns : List Turn) : Type 0 where
  pub whole : IsWhole items (items_of turns)
  pub marks : All (λ t. t.ahead ≡ not (marked items (inter_at items t.item))) turns

-- the mark that is kept of an item
abbrev pub is_marked : List Bool → ℕ → Bool
is_marked marks k = slice_index_or marks k false
