-- Completeness: what a run that halts has in its tables is accepted.
use Rattle.std.specs.Prelude.{ℕ, ◌^◌, ◌<◌}
use Rattle.rv_model.specs.Image.{Img, IsLoadable}
use Rattle.rv_model.specs.Run.{RunsTo}
use Rattle.rv_model.specs.declared.answer.Public.{Public}
use Rattle.pil_ast.specs.Columns.{Columns}
use Rattle.pil_ast.specs.Holds.{AllHold}
use Rattle.fixed_cols.specs.declared.sizes.Sizes.{Sizes}
use Rattle.machine_text.specs.Machine.{machine}
use Rattle.run_lines.specs.Rows.{AreRunOf}

-- Each line of the machine's text holds of columns that have the rows of a run, in either profile.
abbrev pub RunHolds : Type 0
RunHolds =
    (image : Img) (n : ℕ) (public : Public) (sizes : Sizes) (c : Columns) → IsLoadable image → n < 2 ^ 32 → RunsTo image n public → AreRunOf image n public sizes c → AllHold (machine sizes.profile) c
