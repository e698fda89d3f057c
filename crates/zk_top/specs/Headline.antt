-- The headline, of what commands come to: three sentences on `witness`, on `check`, and on the run that accepted tables are.
use Rattle.std.specs.Prelude.{◌≡◌, ◌↔◌, ℕ, ◌-◌, ◌^◌, ◌<◌, ◌≤◌, List, [], ◌∷◌, length, codes, decimal, Some}
use Rattle.rv_model.specs.Image.{Img}
use Rattle.rv_model.specs.Run.{RunsTo}
use Rattle.rv_model.specs.declared.answer.Public.{Public}
use Rattle.elf_load.specs.Loads.{Loads}
use Rattle.gold.specs.declared.instances.Witness.{Witness}
use Rattle.gold.specs.declared.shapes.Form.TheVariants.{Two}
use Rattle.zk_layout.specs.Air.{machine_shape_of}
use Rattle.tab_file.specs.Format.{text as file_text}
use Rattle.tab_file.specs.Reading.{TabReads, TabFails}
use Rattle.tab_file.specs.declared.fault.TabKind.{TabKind}
use Rattle.row_check.specs.declared.broken.Broken.{Broken}
use Rattle.row_check.specs.Breaks.{IsFirstBroken}
use Rattle.machine_text.specs.Machine.{machine}
use Rattle.machine_columns.specs.Values.{values_of}
use Rattle.machine_columns.specs.Accepted.{AreWellFormed, AreAccepted}
use Rattle.run_tables.specs.Sequential.{sequential_witness}
use Rattle.verdict.specs.Steps.{steps_of}
use Rattle.zk_words.specs.declared.command.TheConstants.{MOST_WORKERS}
use Rattle.zk_words.specs.declared.status.Status.TheVariants.{Done, Broken as Breaks, BadTables}
use Rattle.zk_top.specs.Outcome.{Outcome, Contents, AreBytes, with_input, run_report, check_report, IsOutcome}

-- both files are there and within their limits, and the ELF file is loaded with the input as this image
pub record AreProgram (contents : Contents) (elf input : List ℕ) (image : Img) : Type 0 where
  pub file : List ℕ
  pub elf_is : contents elf ≡ Some file
  pub elf_fits : length file ≤ 2 ^ 26
  pub bare : Img
  pub loads : Loads file [] bare
  pub bytes : List ℕ
  pub input_is : contents input ≡ Some bytes
  pub input_fits : length bytes ≤ 2 ^ 24 - 8
  pub image_is : image ≡ with_input bare bytes

-- the table file is there and within its limit
pub record AreTables (contents : Contents) (tables file : List ℕ) : Type 0 where
  pub is : contents tables ≡ Some file
  pub fits : length file ≤ 2 ^ 48

abbrev pub witness_words : List ℕ → List ℕ → List ℕ → ℕ → ℕ → List (List ℕ)
witness_words elf input tables steps workers = codes "witness" ∷ elf ∷ input ∷ tables ∷ decimal steps ∷ decimal workers ∷ []

abbrev pub check_words : List ℕ → List ℕ → List ℕ → List (List ℕ)
check_words elf input tables = codes "check" ∷ elf ∷ input ∷ tables ∷ []

-- the outcome writes the sequential tables of a run of n steps to this file, and reports n and what the run publishes
pub record WritesRun (tables : List ℕ) (image : Img) (n : ℕ) (public : Public) (o : Outcome) : Type 0 where
  pub status : o.status ≡ Some Done
  pub file : o.file ≡ Some (record { name = tables; bytes = file_text (machine_shape_of Two) (sequential_witness image n public) })
  pub report : o.report ≡ run_report n public

-- First: `witness` of a run that halts within the limit writes the sequential tables and reports the run's public output.
abbrev pub WitnessWrites : Type 0
WitnessWrites =
    (contents : Contents) (elf input tables : List ℕ) (steps workers : ℕ) (image : Img) (n : ℕ) (public : Public) (o : Outcome)
    → AreProgram contents elf input image → steps < 2 ^ 32 → workers ≤ MOST_WORKERS → n ≤ steps → RunsTo image n public
    → IsOutcome contents (witness_words elf input tables steps workers) o → WritesRun tables image n public o

-- the outcome accepts the tables of the file exactly where they are accepted, tells their first broken line, or refuses the file
pub record Judges (image : Img) (file : List ℕ) (o : Outcome) : Type 0 where
  pub accepted : (o.status ≡ Some Done) ↔ ((witness : Witness) × TabReads file (machine_shape_of Two) witness × AreAccepted image witness)
  pub broken : (b : Broken) → (o.status ≡ Some (Breaks b)) ↔ ((witness : Witness) × TabReads file (machine_shape_of Two) witness × IsFirstBroken (machine witness.profile) (values_of image witness) b)
  pub bad : (kind : TabKind) (at : ℕ) → (o.status ≡ Some (BadTables (record { kind = kind; at = at }))) ↔ TabFails file (machine_shape_of Two) kind at

-- Second: `check` accepts exactly the well-formed tables that break no line, and those of a run that halts within a limit below 2^32 are among them.
abbrev pub CheckJudges : Type 0
CheckJudges =
    (contents : Contents) (elf input tables file : List ℕ) (image : Img) (o : Outcome)
    → AreProgram contents elf input image → AreTables contents tables file → IsOutcome contents (check_words elf input tables) o → Judges image file o

abbrev pub RunIsAccepted : Type 0
RunIsAccepted =
    (contents : Contents) (elf input : List ℕ) (image : Img) (n : ℕ) (public : Public)
    → AreBytes contents → AreProgram contents elf input image → n < 2 ^ 32 → RunsTo image n public
    → AreWellFormed (sequential_witness image n public) × AreAccepted image (sequential_witness image n public)

-- the file reads as tables whose selected rows of Main are the steps of the image's run; what is reported is what the run publishes
pub record CarriesRun (image : Img) (file : List ℕ) (o : Outcome) : Type 0 where
  pub witness : Witness
  pub reads : TabReads file (machine_shape_of Two) witness
  pub public : Public
  pub runs : RunsTo image (steps_of witness) public
  pub most : steps_of witness ≤ 2 ^ 32
  pub report : o.report ≡ check_report public

-- Third: where `check` accepts tables, the image's run halts, and the report has its public output.
abbrev pub AcceptedRuns : Type 0
AcceptedRuns =
    (contents : Contents) (elf input tables file : List ℕ) (image : Img) (o : Outcome)
    → AreBytes contents → AreProgram contents elf input image → AreTables contents tables file → IsOutcome contents (check_words elf input tables) o
    → o.status ≡ Some Done → CarriesRun image file o

-- The sentences on `check` alone.
pub record CheckHeadline : Type 0 where
  pub check : CheckJudges
  pub among : RunIsAccepted
  pub carried : AcceptedRuns

-- The three sentences. What they suppose is that the loader accepts the file and that the files keep their limits; that a host
-- doesn't fail and that memory suffices stands in the clause of `top` that ties what it does to the outcome.
pub record Headline : Type 0 where
  pub witness : WitnessWrites
  pub check : CheckJudges
  pub among : RunIsAccepted
  pub carried : AcceptedRuns
