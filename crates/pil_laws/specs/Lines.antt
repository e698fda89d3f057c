-- Lines of a text and items of its namespaces.
use Rattle.std.specs.Prelude.{ℕ, ◌<◌, ◌≡◌, ◌==◌, ◌&&◌, Bool, true, List, [], ◌∷◌}
use Rattle.pil_ast.specs.Term.{Line, identity, lookup, bus, Namespace, item_at, is_line}
use Rattle.pil_ast.specs.Columns.{Columns}
use Rattle.pil_ast.specs.Sound.{IsItem}
use Rattle.pil_ast.specs.Holds.{Holds, HoldsAt, AsOften, all_sent}

-- a line that is an item of a namespace of the text
pub record IsSomeLine (ns : List Namespace) (l : Line) : Type 0 where
  pub space : ℕ
  pub item : IsItem ns space l
  pub line : is_line l ≡ true

-- each line of a list holds
abbrev pub EachHolds : List Namespace → Columns → List Line → Type 0
EachHolds ns c ls = (k : ℕ) → Holds ns c (item_at ls k)

-- the identity or `in` is over the rows of `home`
abbrev pub is_over : ℕ → Line → Bool
is_over home (identity s a b) = s == home
is_over home (lookup a b) = a.space == home
is_over home _ = true

abbrev pub are_over : ℕ → List Line → Bool
are_over home [] = true
are_over home (l ∷ ls) = is_over home l && are_over home ls

-- what the line says if it is an `is`, and T
abbrev pub BusAnd : List Namespace → Columns → Line → Type 0 → Type 0
BusAnd ns c (bus ls rs) T = AsOften (all_sent ns c ls) (all_sent ns c rs) × T
BusAnd ns c _ T = T

-- what each `is` of a list says, and nothing of other lines
abbrev pub AllBuses : List Namespace → Columns → List Line → Type 0
AllBuses ns c [] = Unit {0}
AllBuses ns c (l ∷ ls) = BusAnd ns c l (AllBuses ns c ls)

-- each row of each instance of `home` meets each of these lines
abbrev pub EachRowMeets : List Namespace → Columns → ℕ → List Line → Type 0
EachRowMeets ns c home ls = (i r : ℕ) → i < c.instances home → r < c.rows home → (k : ℕ) → HoldsAt ns c i r (item_at ls k)
