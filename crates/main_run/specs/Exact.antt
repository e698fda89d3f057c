-- And no identity of the machine wraps.
use Rattle.std.specs.Prelude.{ℕ, ◌<◌}
use Rattle.pil_ast.specs.Term.{item_at, space_at}
use Rattle.pil_ast.specs.Columns.{Columns}
use Rattle.pil_ast.specs.Holds.{AllHold}
use Rattle.pil_ast.specs.Value.{around}
use Rattle.pil_exact.specs.Exact.{HoldsExactly}
use Rattle.fixed_cols.specs.declared.sizes.Sizes.{Sizes}
use Rattle.machine_text.specs.Machine.{machine}
use Rattle.rv_model.specs.Image.{Img, IsLoadable}
use Rattle.main_run.specs.Whole.{IsMachine}

-- Under the same suppositions each identity of each of the thirteen namespaces holds in whole numbers, at each row, selected or
-- not.
abbrev pub NoWrapLaw : Type 0
NoWrapLaw =
    (image : Img) (sizes : Sizes) (c : Columns) → IsLoadable image → IsMachine image sizes c → AllHold (machine sizes.profile) c
    → (s i r : ℕ) → s < 13 → i < c.instances s → r < c.rows s → (k : ℕ) → HoldsExactly (space_at (machine sizes.profile) s).items (around (machine sizes.profile) c s i r) (item_at (space_at (machine sizes.profile) s).items k)
