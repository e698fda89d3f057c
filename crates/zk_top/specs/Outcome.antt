-- What a command comes to, by its words and the contents of its files (docs/COMMANDS.md).
use Rattle.std.specs.Prelude.{◌≡◌, ◌==◌, ◌⊎◌, ℕ, ◌<◌, ◌-◌, ◌^◌, nat_le, MatchBool, List, [], ◌∷◌, ◌++◌, length, slice_index, map, flat_map, count_by, codes, decimal, Option, Some, None}
use Rattle.std.specs.List.{range_with_len}
use Rattle.hex.specs.Hex.{encode_lower}
use Rattle.host_io.specs.World.{Asked, Opened, Created}
use Rattle.rv_model.specs.Image.{Img}
use Rattle.rv_model.specs.Run.{End, Halted, Faulted, Limited, end_within}
use Rattle.rv_model.specs.declared.answer.Public.{Public}
use Rattle.elf_load.specs.Loads.{Loads}
use Rattle.demo_program.specs.Demo.{demo_file}
use Rattle.demo_program.specs.declared.kind.DemoKind.{DemoKind}
use Rattle.elf_load.specs.Refusal.{Refused}
use Rattle.elf_load.specs.declared.error.ElfErr.{ElfErr}
use Rattle.gold.specs.declared.instances.Witness.{Witness}
use Rattle.gold.specs.declared.shapes.Form.TheVariants.{Plain, Two}
use Rattle.gold.specs.declared.shapes.Profile.{Profile}
use Rattle.gold.specs.declared.shapes.Shape.{Shape}
use Rattle.zk_layout.specs.Air.{machine_shape_of}
use Rattle.tab_file.specs.Format.{text as file_text}
use Rattle.tab_file.specs.declared.fault.TabKind.{TabKind}
use Rattle.tab_file.specs.Reading.{TabReads, TabFails}
use Rattle.pil_ast.specs.Term.{Line, published, Namespace}
use Rattle.pil_ast.specs.Columns.{Columns}
use Rattle.pil_ast.specs.Value.{value_of_place}
use Rattle.pil_ast.specs.Shape.{air_shape}
use Rattle.pil_ast.specs.Holds.{AllHold}
use Rattle.pil_text.specs.Text.{Reads as TextReads, Fails}
use Rattle.pil_text.specs.declared.error.PilErr.{PilErr}
use Rattle.wit_columns.specs.Values.{values_of}
use Rattle.row_check.specs.declared.broken.Broken.{Broken}
use Rattle.row_check.specs.Breaks.{IsFirstBroken}
use Rattle.pil_print.specs.Printed.{printed}
use Rattle.machine_text.specs.Machine.{machine}
use Rattle.machine_columns.specs.Values.{values_of as machine_values}
use Rattle.machine_columns.specs.Accepted.{AreAccepted, public_of}
use Rattle.run_tables.specs.Sequential.{sequential_witness}
use Rattle.zk_words.specs.Words.{Command, Run, Witness as MakeWitness, Check, Pil, Machine, Demo, Reads}
use Rattle.zk_words.specs.Lines.{line_of}
use Rattle.zk_words.specs.declared.status.Which.{Which}
use Rattle.zk_words.specs.declared.status.Which.TheVariants as files
use Rattle.zk_words.specs.declared.status.Status.{Status}
use Rattle.zk_words.specs.declared.status.Status.TheVariants as statuses

-- the bytes behind each name, if it has a file
abbrev pub Contents : Type 0
Contents = List ℕ → Option (List ℕ)

-- what every file holds is bytes
abbrev pub AreBytes : Contents → Type 0
AreBytes contents = (name : List ℕ) (file : List ℕ) → contents name ≡ Some file → (i : ℕ) → slice_index file i < 256

-- a file that a command creates
pub record NewFile : Type 0 where
  pub name : List ℕ
  pub bytes : List ℕ

pub record Outcome : Type 0 where
  -- the names that the command asks for, in order
  pub names : List Asked
  -- none where the last of the names has no file: then the host can only fail
  pub status : Option Status
  -- the file that the command creates, if it creates one: its name is the last of the names then
  pub file : Option NewFile
  pub report : List ℕ

abbrev pub unanswered : List Asked → Outcome
unanswered names = record { names = names; status = None; file = None; report = [] }

-- a report, and no file is created
abbrev pub reporting : List Asked → Status → List ℕ → Outcome
reporting names status report = record { names = names; status = Some status; file = None; report = report }

-- a refusal is reported by its line
abbrev pub refused : List Asked → Status → Outcome
refused names status = reporting names status (line_of status)

-- the last of the names is a file's, which has at most so many bytes; what they come to
abbrev pub WithFile : List Asked → Option (List ℕ) → ℕ → Which → (List ℕ → Outcome → Type 0) → Outcome → Type 0
WithFile names None limit which On o = o ≡ unanswered names
WithFile names (Some bytes) limit which On o = MatchBool (nat_le (length bytes) limit) (On bytes o) (o ≡ refused names (statuses.TooLarge which))

-- the file is loaded as an image, with no input yet, and what that comes to; or it is refused
abbrev pub WithImage : List Asked → List ℕ → (Img → Outcome → Type 0) → Outcome → Type 0
WithImage names file On o = ((image : Img) × Loads file [] image × On image o) ⊎ ((e : ElfErr) × Refused file e × (o ≡ refused names (statuses.BadElf e)))

abbrev pub with_input : Img → List ℕ → Img
with_input image input = record image { input = input }

abbrev pub program_names : List ℕ → List ℕ → List Asked
program_names elf input = Opened elf ∷ Opened input ∷ []

-- the ELF file is loaded with the input, and what that comes to; or one of the two isn't had
abbrev pub WithProgram : Contents → List ℕ → List ℕ → (Img → Outcome → Type 0) → Outcome → Type 0
WithProgram contents elf input On o =
    WithFile (Opened elf ∷ []) (contents elf) (2 ^ 26) files.Elf
    (λ file. WithImage (Opened elf ∷ []) file
    (λ image. WithFile (program_names elf input) (contents input) (2 ^ 24 - 8) files.Input
    (λ bytes. On (with_input image bytes))))
    o

-- what is published, in the lines of a report
abbrev pub public_text : Public → List ℕ
public_text public = codes "exit " ++ decimal public.exit ++ codes "\noutput " ++ encode_lower public.output ++ codes "\n"

-- the report of a run that halts
abbrev pub run_report : ℕ → Public → List ℕ
run_report n public = codes "steps " ++ decimal n ++ codes "\n" ++ public_text public

abbrev pub of_run : List Asked → ℕ → End → Outcome
of_run names limit (Halted n public) = reporting names statuses.Done (run_report n public)
of_run names limit (Faulted fault) = refused names (statuses.RunFault fault)
of_run names limit Limited = refused names (statuses.StepLimit limit)

-- `run ELF INPUT STEPS`
unfoldable pub IsRunOutcome : Contents → List ℕ → List ℕ → ℕ → Outcome → Type 0
IsRunOutcome contents elf input steps o = WithProgram contents elf input (λ image o. o ≡ of_run (program_names elf input) steps (end_within image steps)) o

-- the tables are written, and the report of the run follows
abbrev pub of_made : List Asked → List ℕ → Witness → ℕ → Public → Outcome
of_made names tables witness n public = record {
  names = names ++ Created tables ∷ [];
  status = Some statuses.Done;
  file = Some (record { name = tables; bytes = file_text (machine_shape_of Two) witness });
  report = run_report n public;
}

-- the tables of a run that halts are the sequential ones; of any other run no file is created
abbrev pub of_making : List Asked → List ℕ → Img → ℕ → End → Outcome
of_making names tables image limit (Halted n public) = of_made names tables (sequential_witness image n public) n public
of_making names tables image limit (Faulted fault) = refused names (statuses.RunFault fault)
of_making names tables image limit Limited = refused names (statuses.StepLimit limit)

-- `witness ELF INPUT TABLES STEPS WORKERS`
unfoldable pub IsWitnessOutcome : Contents → List ℕ → List ℕ → List ℕ → ℕ → Outcome → Type 0
IsWitnessOutcome contents elf input tables steps o =
    WithProgram contents elf input (λ image o. o ≡ of_making (program_names elf input) tables image steps (end_within image steps)) o

-- the text reads as namespaces, and what they come to; or it is refused
abbrev pub WithText : List Asked → List ℕ → (List Namespace → Outcome → Type 0) → Outcome → Type 0
WithText names text On o = ((ns : List Namespace) × TextReads text ns × On ns o) ⊎ ((e : PilErr) × Fails text e × (o ≡ refused names (statuses.BadPil e)))

-- the file reads as tables of the shape, and what they come to; or it is refused
abbrev pub WithTables : List Asked → Shape → List ℕ → (Witness → Outcome → Type 0) → Outcome → Type 0
WithTables names shape file On o = ((witness : Witness) × TabReads file shape witness × On witness o) ⊎ ((kind : TabKind) × (at : ℕ) × TabFails file shape kind at × (o ≡ refused names (statuses.BadTables (record { kind = kind; at = at }))))

-- the shape of a text's tables: an air for each namespace
abbrev pub shape_of : List Namespace → Shape
shape_of ns = record { airs = map air_shape ns; form = Plain }

-- the line that reports a public, and none for any other item
abbrev pub public_line : Columns → Line → List ℕ
public_line c (published name s k r) = name ++ codes " " ++ decimal (value_of_place c (Some (record { space = s; column = k; row = r }))) ++ codes "\n"
public_line c _ = []

-- the report of a text whose lines all hold: the publics follow in order of the text
abbrev pub pil_report : List Namespace → Columns → List ℕ
pil_report ns c = codes "accepted\n" ++ flat_map (λ n. flat_map (public_line c) n.items) ns

-- each line of the text holds, or one is the first broken one
abbrev pub OfLines : List Asked → List Namespace → Columns → Outcome → Type 0
OfLines names ns c o = (AllHold ns c × (o ≡ reporting names statuses.Done (pil_report ns c))) ⊎ ((b : Broken) × IsFirstBroken ns c b × (o ≡ refused names (statuses.Broken b)))

-- what the bytes of the table file come to, under a text that reads as these namespaces
abbrev pub OfTables : List Asked → List Namespace → List ℕ → Outcome → Type 0
OfTables names ns file o = WithTables names (shape_of ns) file (λ witness. OfLines names ns (values_of (shape_of ns) witness)) o

-- `pil PILFILE TABLES`
unfoldable pub IsPilOutcome : Contents → List ℕ → List ℕ → Outcome → Type 0
IsPilOutcome contents pil tables o =
    WithFile (Opened pil ∷ []) (contents pil) (2 ^ 20) files.Pil
    (λ text. WithText (Opened pil ∷ []) text
    (λ ns. WithFile (Opened pil ∷ Opened tables ∷ []) (contents tables) (2 ^ 48) files.Tables
    (OfTables (Opened pil ∷ Opened tables ∷ []) ns)))
    o

-- the report of tables that are accepted
abbrev pub check_report : Public → List ℕ
check_report public = codes "accepted\n" ++ public_text public

-- the tables are accepted for the image, or one line of the machine's text is the first broken one
abbrev pub OfVerdict : List Asked → Img → Witness → Outcome → Type 0
OfVerdict names image witness o =
    (AreAccepted image witness × (o ≡ reporting names statuses.Done (check_report (public_of image witness))))
    ⊎ ((b : Broken) × IsFirstBroken (machine witness.profile) (machine_values image witness) b × (o ≡ refused names (statuses.Broken b)))

-- what the bytes of the table file come to for the image
abbrev pub OfMachineTables : List Asked → Img → List ℕ → Outcome → Type 0
OfMachineTables names image file o = WithTables names (machine_shape_of Two) file (OfVerdict names image) o

abbrev pub check_names : List ℕ → List ℕ → List ℕ → List Asked
check_names elf input tables = Opened elf ∷ Opened input ∷ Opened tables ∷ []

-- `check ELF INPUT TABLES`
unfoldable pub IsCheckOutcome : Contents → List ℕ → List ℕ → List ℕ → Outcome → Type 0
IsCheckOutcome contents elf input tables o =
    WithProgram contents elf input
    (λ image. WithFile (check_names elf input tables) (contents tables) (2 ^ 48) files.Tables
    (OfMachineTables (check_names elf input tables) image))
    o

-- `machine`, `machine wide`
abbrev pub IsMachineOutcome : List Asked → Profile → Outcome → Type 0
IsMachineOutcome names profile o = o ≡ reporting names statuses.Done (printed (machine profile))

-- how many tables there are of each air, in a line of a report
abbrev pub instances_text : Witness → List ℕ
instances_text witness = codes "instances" ++ flat_map (λ air. codes " " ++ decimal (count_by (λ t. t.air == air) witness.tables)) (range_with_len 0 7) ++ codes "\n"

-- the report of a demo program: of its run, of its tables, and that they are accepted
abbrev pub demo_report : ℕ → Public → Witness → List ℕ
demo_report n public witness = run_report n public ++ instances_text witness ++ codes "accepted\n"

-- `demo NUMBER KIND SIZE`: the program's file is loaded without input, its run halts, and the tables of the run are accepted
pub record IsDemoOutcome (names : List Asked) (number : ℕ) (kind : DemoKind) (size : ℕ) (o : Outcome) : Type 0 where
  pub image : Img
  pub loads : Loads (demo_file number kind size) [] image
  pub steps : ℕ
  pub public : Public
  pub halts : end_within image 4294967295 ≡ Halted steps public
  pub accepted : AreAccepted image (sequential_witness image steps public)
  pub is : o ≡ reporting names statuses.Done (demo_report steps public (sequential_witness image steps public))

-- what a command comes to
abbrev pub IsOutcomeOf : Contents → Command → Outcome → Type 0
IsOutcomeOf contents (Run elf input steps) o = IsRunOutcome contents elf input steps o
IsOutcomeOf contents (MakeWitness elf input tables steps workers) o = IsWitnessOutcome contents elf input tables steps o
IsOutcomeOf contents (Check elf input tables) o = IsCheckOutcome contents elf input tables o
IsOutcomeOf contents (Pil text tables) o = IsPilOutcome contents text tables o
IsOutcomeOf contents (Machine profile) o = IsMachineOutcome [] profile o
IsOutcomeOf contents (Demo number kind size) o = IsDemoOutcome [] number kind size o

-- what the words come to: they read as a command, or as none
abbrev pub IsOutcome : Contents → List (List ℕ) → Outcome → Type 0
IsOutcome contents words o =
    ((command : Command) × Reads words command × IsOutcomeOf contents command o)
    ⊎ (((command : Command) → Reads words command → ⊥) × (o ≡ refused [] statuses.BadWords))
