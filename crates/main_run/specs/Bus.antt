-- Second: the accesses of line 20. Each read has the last value written, and who wrote it is known.
use Rattle.std.specs.Prelude.{ℕ, ◌+◌, ◌*◌, ◌<◌, ◌≡◌, ◌≢◌, true, false, List, map, Contains}
use Rattle.pil_ast.specs.Term.{Namespace}
use Rattle.pil_ast.specs.Columns.{Columns}
use Rattle.pil_ast.specs.Holds.{all_sent}
use Rattle.machine_text.specs.Main
use Rattle.rv_model.specs.Image.{Img}
use Rattle.step_rows.specs.Initial.{initial_doublewords}
use Rattle.step_rows.specs.declared.doubleword.Doubleword.{Doubleword}
use Rattle.step_rows.specs.declared.key.TheConstants.{REGISTERS}
use Rattle.air_main.specs.Law.{at_row}
use Rattle.air_mem.specs.Access.{Access, IsReadLastWrite}
use Rattle.air_mem.specs.Constants.{InitConstants, OutConstants}
use Rattle.air_mem.specs.Laws.{HasMem, MemHolds}
use Rattle.air_mem.specs.Lists.{initial_write, final_read, read_access, all_accesses}
use Rattle.main_run.specs.Chain.{MainStands, IsPlace}

-- what row number j, which is row r of instance i, reads and writes: rs1, rs2, the old doubleword, the new one, and rd
abbrev pub first_read : List Namespace → Columns → ℕ → ℕ → ℕ → Access
first_read ns c j i r = record { key = REGISTERS + at_row ns c i r Main.rs1; time = 8 * j + 1; write = false; lo = at_row ns c i r Main.alo; hi = at_row ns c i r Main.ahi }

abbrev pub second_read : List Namespace → Columns → ℕ → ℕ → ℕ → Access
second_read ns c j i r = record { key = REGISTERS + at_row ns c i r Main.rs2; time = 8 * j + 2; write = false; lo = at_row ns c i r Main.slo; hi = at_row ns c i r Main.shi }

abbrev pub old_read : List Namespace → Columns → ℕ → ℕ → ℕ → Access
old_read ns c j i r = record { key = at_row ns c i r Main.w; time = 8 * j + 3; write = false; lo = at_row ns c i r Main.olo; hi = at_row ns c i r Main.ohi }

abbrev pub memory_write : List Namespace → Columns → ℕ → ℕ → ℕ → Access
memory_write ns c j i r = record { key = at_row ns c i r Main.w; time = 8 * j + 4; write = true; lo = at_row ns c i r Main.mlo; hi = at_row ns c i r Main.mhi }

abbrev pub register_write : List Namespace → Columns → ℕ → ℕ → ℕ → Access
register_write ns c j i r = record { key = REGISTERS + at_row ns c i r Main.rd; time = 8 * j + 5; write = true; lo = at_row ns c i r Main.vlo; hi = at_row ns c i r Main.vhi }

-- a write is that of an initial doubleword or of a selected row
pub data IsWrite (ns : List Namespace) (c : Columns) (image : Img) (a : Access) : Type 0 where
  initial : (d : Doubleword) → Contains (initial_doublewords image) d → a ≡ initial_write d → IsWrite ns c image a
  stored : (j i r : ℕ) → IsPlace c j i r → at_row ns c i r Main.sel ≢ 0 → at_row ns c i r Main.st ≡ 1 → a ≡ memory_write ns c j i r → IsWrite ns c image a
  put : (j i r : ℕ) → IsPlace c j i r → at_row ns c i r Main.sel ≢ 0 → at_row ns c i r Main.wr ≡ 1 → a ≡ register_write ns c j i r → IsWrite ns c image a

-- The accesses are read-last-write, no two differ at one key and time, each write is known, and there stand: the initial writes,
-- the final reads, and what each selected row reads and writes.
pub record IsBus (ns : List Namespace) (c : Columns) (image : Img) (xs : List Access) : Type 0 where
  pub right : IsReadLastWrite xs
  pub distinct : (a b : Access) → Contains xs a → Contains xs b → a.key ≡ b.key → a.time ≡ b.time → (a.lo ≡ b.lo) × (a.hi ≡ b.hi)
  pub writes : (a : Access) → Contains xs a → a.write ≡ true → IsWrite ns c image a
  pub starts : (d : Doubleword) → Contains (initial_doublewords image) d → Contains xs (initial_write d)
  pub ends : (k : ℕ) → k < 33 → Contains xs (final_read c k)
  pub first : (j i r : ℕ) → IsPlace c j i r → at_row ns c i r Main.sel ≢ 0 → Contains xs (first_read ns c j i r)
  pub second : (j i r : ℕ) → IsPlace c j i r → at_row ns c i r Main.sel ≢ 0 → Contains xs (second_read ns c j i r)
  pub old : (j i r : ℕ) → IsPlace c j i r → at_row ns c i r Main.sel ≢ 0 → at_row ns c i r Main.ms ≢ 0 → Contains xs (old_read ns c j i r)
  pub memory : (j i r : ℕ) → IsPlace c j i r → at_row ns c i r Main.sel ≢ 0 → at_row ns c i r Main.st ≡ 1 → Contains xs (memory_write ns c j i r)
  pub register : (j i r : ℕ) → IsPlace c j i r → at_row ns c i r Main.sel ≢ 0 → at_row ns c i r Main.wr ≡ 1 → Contains xs (register_write ns c j i r)

-- what Main, Init and Out send on line 20
abbrev pub accesses : List Namespace → Columns → Img → List Access
accesses ns c image = all_accesses (map read_access (all_sent ns c Main.accesses)) (initial_doublewords image) c

-- Main and Mem stand in the text and their lines hold, line 20 among them; Init and Out have their constants.
pub record BusSupposed (ns : List Namespace) (c : Columns) (n : ℕ) (image : Img) : Type 0 where
  pub stands : MainStands ns c n image
  pub mem : HasMem ns c
  pub mem_holds : MemHolds ns c
  pub init : InitConstants c (initial_doublewords image)
  pub out : OutConstants c

-- Lines 20 to 37: the registers and w are in range by the look-ups alone, so that Mem's laws apply before any value is known.
abbrev pub RunBusLaw : Type 0
RunBusLaw = (ns : List Namespace) (c : Columns) (n : ℕ) (image : Img) → BusSupposed ns c n image → IsBus ns c image (accesses ns c image)
