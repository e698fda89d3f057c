-- The values of the machine's constant columns (docs/CONSTRAINTS.md).
use Rattle.std.specs.Prelude.{ℕ, ◌+◌, ◌-◌, ◌*◌, ◌/◌, ◌%◌, ◌==◌, ◌&&◌, nat_lt, bit_and, max, Bool, not, List, [], ◌∷◌, length, slice_index, Option, None, Some, if◌then◌else◌}
use Rattle.std.specs.List.{slice_get}
use Rattle.fixed_cols.specs.declared.sizes.Sizes.{Sizes}
use Rattle.rv_model.specs.Image.{Img}
use Rattle.rv_model.specs.declared.machine.TheConstants.{EXIT_REGISTER, OUTPUT_INDEX, OUTPUT_WORDS}
use Rattle.step_rows.specs.declared.key.TheConstants.{REGISTERS}
use Rattle.zk_layout.specs.Air.{air_number, rows_in}
use Rattle.zk_layout.specs.Namespaces.{namespace_number}
use Rattle.zk_layout.specs.declared.air.Air.TheVariants as airs
use Rattle.zk_layout.specs.declared.namespace.Namespace.{Namespace}
use Rattle.zk_layout.specs.declared.namespace.Namespace.TheVariants.{Bit, Range16, BinTab, ShiftTab, Rom, Init, Main, Mem, Out, Align, Binary, Shift, Arith}
use Rattle.step_rows.specs.Words.{low, high, one_if}
use Rattle.step_rows.specs.declared.rom_row.RomRow.{RomRow}
use Rattle.step_rows.specs.Rom.{cells, rom_rows}
use Rattle.step_rows.specs.Initial.{initial_doublewords}
use Rattle.step_rows.specs.declared.doubleword.Doubleword.{Doubleword}
use Rattle.step_rows.specs.ShiftRow.{table_row}

-- ---- the rows of tables that are the same for every program; past their end all cells are 0

-- a number of one bit or of 16
abbrev pub numbered : ℕ → List ℕ
numbered r = r ∷ []

-- two bytes and their bitwise and
abbrev pub byte_pair : ℕ → List ℕ
byte_pair r = r / 256 ∷ r % 256 ∷ bit_and (r / 256) (r % 256) ∷ []

-- the six shifts by 64 amounts
abbrev pub shift_amount : ℕ → List ℕ
shift_amount r = if nat_lt r 384 then table_row (r / 64) (r % 64) else []

-- ---- the rows of the program's tables: row number m of all instances

abbrev pub instruction : Option RomRow → List ℕ
instruction None = []
instruction (Some row) = 1 ∷ cells row

abbrev pub doubleword : Option Doubleword → List ℕ
doubleword None = []
doubleword (Some d) = 1 ∷ d.number ∷ low d.value ∷ high d.value ∷ []

-- ---- the constants of Main and Mem: instance i of n, row r of m

abbrev pub is_last : ℕ → ℕ → ℕ
is_last r m = one_if (r + 1 == m)

abbrev pub is_first : ℕ → ℕ → ℕ
is_first i r = one_if (i == 0 && r == 0)

-- the last row of an instance that has a next one, and the first row of one that has a previous one
abbrev pub leaves : ℕ → ℕ → ℕ → ℕ → ℕ
leaves i n r m = one_if (r + 1 == m && nat_lt (i + 1) n)

abbrev pub enters : ℕ → ℕ → ℕ
enters i r = one_if (not (i == 0) && r == 0)

-- STEP, INST, LAST, L0, CLAST, CFIRST, LEND, ENTRY
abbrev pub of_main : ℕ → ℕ → ℕ → ℕ → ℕ → List ℕ
of_main entry i n r m =
    (i * m + r) ∷ i ∷ is_last r m ∷ is_first i r ∷ leaves i n r m ∷ enters i r ∷ one_if (r + 1 == m && i + 1 == n) ∷ (if i == 0 && r == 0 then entry else 0) ∷ []

-- INST, LAST, L0, CLAST, CFIRST
abbrev pub of_mem : ℕ → ℕ → ℕ → ℕ → List ℕ
of_mem i n r m = i ∷ is_last r m ∷ is_first i r ∷ leaves i n r m ∷ enters i r ∷ []

-- SEL and KEY: the register that a halted run publishes, and the doublewords of the output window
abbrev pub of_out : ℕ → List ℕ
of_out r = if r == 0 then 1 ∷ (REGISTERS + EXIT_REGISTER) ∷ [] else if nat_lt r (OUTPUT_WORDS + 1) then 1 ∷ (OUTPUT_INDEX + r - 1) ∷ [] else []

-- ---- all of them

-- how many instances of 1,024 rows some rows need, at least one
abbrev pub instances_for : ℕ → ℕ
instances_for rows = max 1 ((rows + 1023) / 1024)

-- what the constants are made of: the first pc, the rows of Rom and Init, and how many tables there are
pub record Fixed : Type 0 where
  pub entry : ℕ
  pub rom : List RomRow
  pub initial : List Doubleword
  pub sizes : Sizes

abbrev pub fixed_of : Img → Sizes → Fixed
fixed_of image sizes = record { entry = image.entry; rom = rom_rows image; initial = initial_doublewords image; sizes = sizes }

-- how many instances a namespace has: an air as many as there are tables of it
abbrev pub instances_in : Fixed → Namespace → ℕ
instances_in f Bit = 1
instances_in f Range16 = 1
instances_in f BinTab = 1
instances_in f ShiftTab = 1
instances_in f Rom = instances_for (length f.rom)
instances_in f Init = instances_for (length f.initial)
instances_in f Main = slice_index f.sizes.counts (air_number airs.Main)
instances_in f Mem = slice_index f.sizes.counts (air_number airs.Mem)
instances_in f Out = slice_index f.sizes.counts (air_number airs.Out)
instances_in f Align = slice_index f.sizes.counts (air_number airs.Align)
instances_in f Binary = slice_index f.sizes.counts (air_number airs.Binary)
instances_in f Shift = slice_index f.sizes.counts (air_number airs.Shift)
instances_in f Arith = slice_index f.sizes.counts (air_number airs.Arith)

-- the constants of a namespace at row r of instance i, in order of its columns; what isn't listed is 0
abbrev pub constants_in : Fixed → Namespace → ℕ → ℕ → List ℕ
constants_in f Bit i r = numbered r
constants_in f Range16 i r = numbered r
constants_in f BinTab i r = byte_pair r
constants_in f ShiftTab i r = shift_amount r
constants_in f Rom i r = instruction (slice_get f.rom (1024 * i + r))
constants_in f Init i r = doubleword (slice_get f.initial (1024 * i + r))
constants_in f Main i r = of_main f.entry i (slice_index f.sizes.counts (air_number airs.Main)) r (rows_in f.sizes.profile airs.Main)
constants_in f Mem i r = of_mem i (slice_index f.sizes.counts (air_number airs.Mem)) r (rows_in f.sizes.profile airs.Mem)
constants_in f Out i r = of_out r
constants_in f Align i r = []
constants_in f Binary i r = []
constants_in f Shift i r = []
constants_in f Arith i r = []

-- the value of a constant column
abbrev pub constant_in : Fixed → Namespace → ℕ → ℕ → ℕ → ℕ
constant_in f space i k r = slice_index (constants_in f space i r) k

-- ---- of an image and tables of these sizes
abbrev pub instances_of : Img → Sizes → Namespace → ℕ
instances_of image sizes = instances_in (fixed_of image sizes)

abbrev pub constants : Img → Sizes → Namespace → ℕ → ℕ → List ℕ
constants image sizes = constants_in (fixed_of image sizes)

unfoldable pub constant : Img → Sizes → Namespace → ℕ → ℕ → ℕ → ℕ
constant image sizes = constant_in (fixed_of image sizes)
