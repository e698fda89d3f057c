-- Values at a block of rows.
use Rattle.std.specs.Prelude.{ℕ, ◌+◌, ◌<◌, ◌≤◌, ◌≡◌, List, [], map, slice_index, slice_index_or}
use Rattle.pil_ast.specs.Columns.{Columns}
use Rattle.pil_program.specs.declared.block.Block.{Block}
use Rattle.pil_program.specs.declared.running.Stretch.{Stretch}

-- the first n values of a block are those of f
abbrev pub Holds : List ℕ → ℕ → (ℕ → ℕ) → Type 0
Holds values n f = (j : ℕ) → j < n → slice_index values j ≡ f j

-- the rows of a stretch are rows of an instance, and not more than a block has
pub record IsStretch (c : Columns) (x : Stretch) : Type 0 where
  pub space : x.space < c.spaces
  pub instance : x.instance < c.instances x.space
  pub rows : x.base + x.count ≤ c.rows x.space
  pub few : x.count ≤ 64

-- the value of the block k at the row j
abbrev pub at_lane : List Block → ℕ → ℕ → ℕ
at_lane blocks j k = slice_index (slice_index_or (map (λ b. b.values) blocks) k []) j
