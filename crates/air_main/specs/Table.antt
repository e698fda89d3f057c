-- The rows of a whole run in Main.
use Rattle.std.specs.Prelude.{ℕ, ◌+◌, ◌*◌, ◌<◌, ◌≤◌, List, [], ◌∷◌}
use Rattle.rv_model.specs.Image.{Img, IsLoadable}
use Rattle.rv_model.specs.Run.{RunsTo}
use Rattle.rv_model.specs.declared.answer.Public.{Public}
use Rattle.min_trace.specs.Record.{record_at}
use Rattle.step_rows.specs.MainRow.{main_row}
use Rattle.pil_ast.specs.Term.{bus, Namespace}
use Rattle.pil_ast.specs.Columns.{Columns}
use Rattle.pil_ast.specs.Holds.{Holds}
use Rattle.machine_text.specs.Main
use Rattle.air_main.specs.Constants.{MainConstants}
use Rattle.air_main.specs.Law.{HasMain, Meets}
use Rattle.air_main.specs.Rows.{HasRow, IsRow, Sends}

-- Main's instances one after the other have the rows of the run's first steps, and then rows of zeros
pub record IsMainOf (c : Columns) (image : Img) (steps : ℕ) : Type 0 where
  pub row : (i r : ℕ) → i < c.instances Main.here → r < c.rows Main.here → i * c.rows Main.here + r < steps → IsRow c i r (main_row (record_at image (i * c.rows Main.here + r)))
  pub padding : (i r : ℕ) → i < c.instances Main.here → r < c.rows Main.here → steps ≤ i * c.rows Main.here + r → IsRow c i r []

-- Each step of a run that halts has a row.
abbrev pub RunHasRows : Type 0
RunHasRows = (image : Img) (n : ℕ) (public : Public) → IsLoadable image → RunsTo image n public → (j : ℕ) → j < n → HasRow image j

-- The rows of a run that halts meet Main's lines, and line 7 holds, which joins the instances; n is the number of steps.
abbrev pub MainFilled : Type 0
MainFilled =
    (ns : List Namespace) (c : Columns) (height : ℕ) (image : Img) (n : ℕ) (public : Public) → HasMain ns c height image → MainConstants image height c → IsLoadable image → RunsTo image n public
    → n ≤ c.instances Main.here * c.rows Main.here → IsMainOf c image n
    → ((i r : ℕ) → i < c.instances Main.here → r < c.rows Main.here → Meets ns c i r) × Holds ns c (bus (Main.leaves ∷ []) (Main.enters ∷ []))

-- Under the same suppositions the row of a step sends the step's operation, its access and what it writes to a register.
abbrev pub RunSends : Type 0
RunSends =
    (ns : List Namespace) (c : Columns) (height : ℕ) (image : Img) (n : ℕ) (public : Public) → HasMain ns c height image → MainConstants image height c → IsLoadable image → RunsTo image n public
    → n ≤ c.instances Main.here * c.rows Main.here → IsMainOf c image n
    → (i r : ℕ) → i < c.instances Main.here → r < c.rows Main.here → i * c.rows Main.here + r < n → Sends ns c i r (record_at image (i * c.rows Main.here + r))
