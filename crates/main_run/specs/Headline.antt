-- Fourth: the run that Main's rows are, and its public.
use Rattle.std.specs.Prelude.{ℕ, ◌+◌, ◌*◌, ◌^◌, ◌<◌, ◌≤◌, ◌≡◌, ◌≢◌, List}
use Rattle.std.specs.List.{flat_map, range_with_len}
use Rattle.std.specs.Int.{to_le_bytes, w64}
use Rattle.pil_ast.specs.Term.{Namespace}
use Rattle.pil_ast.specs.Columns.{Columns}
use Rattle.pil_ast.specs.Value.{public_value}
use Rattle.machine_text.specs.Main
use Rattle.rv_model.specs.Image.{Img}
use Rattle.rv_model.specs.Run.{RunsTo}
use Rattle.rv_model.specs.declared.answer.Public.{Public}
use Rattle.rv_model.specs.declared.machine.TheConstants.{OUTPUT_WORDS}
use Rattle.air_main.specs.Step.{joined}
use Rattle.air_main.specs.Law.{at_row}
use Rattle.air_mem.specs.Access.{Access}
use Rattle.main_run.specs.Chain.{IsPlace}
use Rattle.main_run.specs.Run.{Supposed}

-- the public whose limbs are these publics: x10, then the doublewords of the output window
abbrev pub told : (ℕ → ℕ) → Public
told v = record { exit = joined (v 0) (v 1); output = flat_map (λ k. to_le_bytes w64 (joined (v (2 * (k + 1))) (v (2 * (k + 1) + 1)))) (range_with_len 0 OUTPUT_WORDS) }

-- the publics are Out's values
abbrev pub PublicsAreOuts : List Namespace → Columns → Type 0
PublicsAreOuts ns c = (k : ℕ) → k < 33 → (public_value ns c (2 * k) ≡ c.at 8 0 2 k) × (public_value ns c (2 * k + 1) ≡ c.at 8 0 3 k)

-- The run halts with its n-th step, Main's first n rows are selected and no others, and the public is that of the tables,
-- whose limbs have 32 bits.
pub record Headline (ns : List Namespace) (c : Columns) (image : Img) : Type 0 where
  pub n : ℕ
  pub runs : RunsTo image n (told (public_value ns c))
  pub most : n ≤ 2 ^ 32
  pub first : (j i r : ℕ) → IsPlace c j i r → j < n → at_row ns c i r Main.sel ≢ 0
  pub others : (j i r : ℕ) → IsPlace c j i r → n ≤ j → at_row ns c i r Main.sel ≡ 0
  pub limbs : (k : ℕ) → k < 33 → (public_value ns c (2 * k) < 2 ^ 32) × (public_value ns c (2 * k + 1) < 2 ^ 32)

abbrev pub HeadlineLaw : Type 0
HeadlineLaw = (ns : List Namespace) (c : Columns) (n : ℕ) (image : Img) (xs : List Access) → Supposed ns c n image xs → PublicsAreOuts ns c → Headline ns c image
