-- What it is that tables are accepted for an image, and what they publish.
use Rattle.std.specs.Prelude.{ℕ, ◌%◌, ◌^◌}
use Rattle.gold.specs.Shapes.{HaveShape}
use Rattle.gold.specs.declared.instances.Witness.{Witness}
use Rattle.gold.specs.declared.shapes.Form.TheVariants.{Two}
use Rattle.rv_model.specs.Image.{Img}
use Rattle.rv_model.specs.declared.answer.Public.{Public}
use Rattle.zk_layout.specs.Air.{machine_shape_of}
use Rattle.pil_ast.specs.Holds.{AllHold}
use Rattle.pil_ast.specs.Value.{public_value}
use Rattle.machine_text.specs.Machine.{machine}
use Rattle.main_run.specs.Headline.{told}
use Rattle.machine_columns.specs.Values.{values_of}

-- the tables are those of a well-formed file
abbrev pub AreWellFormed : Witness → Type 0
AreWellFormed witness = HaveShape (machine_shape_of Two) witness

-- each line of the machine's text, in the tables' profile, holds of them and of the image's constants
unfoldable pub AreAccepted : Img → Witness → Type 0
AreAccepted image witness = AllHold (machine witness.profile) (values_of image witness)

-- the value of a public of the machine's text
abbrev pub published : Img → Witness → ℕ → ℕ
published image witness k = public_value (machine witness.profile) (values_of image witness) k

-- the public output that the tables have: the exit code and the doublewords of the output window, each of the low 32 bits of two
-- publics
abbrev pub public_of : Img → Witness → Public
public_of image witness = told (λ k. published image witness k % 2 ^ 32)
