-- Completeness of the constraints: the sequential tables of a run that halts are well-formed and accepted, and publish what it does.
use Rattle.std.specs.Prelude.{◌≡◌, ℕ, ◌^◌, ◌<◌}
use Rattle.rv_model.specs.Image.{Img, IsLoadable}
use Rattle.rv_model.specs.Run.{RunsTo}
use Rattle.rv_model.specs.declared.answer.Public.{Public}
use Rattle.run_tables.specs.Sequential.{sequential_witness}
use Rattle.machine_columns.specs.Accepted.{AreAccepted, AreWellFormed, public_of}

-- The tables of a run of fewer than 2^32 steps are those of a well-formed file, and each line of the machine's text holds of them.
abbrev pub Completeness : Type 0
Completeness =
    (image : Img) (n : ℕ) (public : Public) → IsLoadable image → n < 2 ^ 32 → RunsTo image n public → AreWellFormed (sequential_witness image n public) × AreAccepted image (sequential_witness image n public)

-- Their public output is the run's.
abbrev pub PublishesTheRun : Type 0
PublishesTheRun = (image : Img) (n : ℕ) (public : Public) → IsLoadable image → n < 2 ^ 32 → RunsTo image n public → public_of image (sequential_witness image n public) ≡ public
