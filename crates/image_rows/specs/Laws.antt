-- What Rom's rows and the doublewords of initial memory are, by what each image says at each address.
use Rattle.std.specs.Prelude.{◌≡◌, ◌≢◌, ℕ, ◌*◌, ◌%◌, ◌^◌, ◌<◌, List, Option, Some, All, AllPairs, Contains}
use Rattle.rv_word.specs.declared.instr.Instr.{Instr}
use Rattle.rv_word.specs.declared.instr.Instr.TheVariants.{Ebreak}
use Rattle.rv_model.specs.Image.{Img, fetch, initial_word}
use Rattle.rv_model.specs.Code.{instr_of}
use Rattle.rv_model.specs.declared.machine.TheConstants.{MEMORY_END, MEMORY_WORDS}
use Rattle.step_rows.specs.declared.doubleword.Doubleword.{Doubleword}
use Rattle.step_rows.specs.declared.rom_row.RomRow.{RomRow}
use Rattle.step_rows.specs.Rom.{rom_row}

-- the row is that of an executable word, which is an instruction other than EBREAK
pub record IsRowOf (image : Img) (row : RomRow) : Type 0 where
  pub instr : Instr
  pub below : row.pc < MEMORY_END
  pub at : instr_of (fetch image row.pc) ≡ Some instr
  pub no_break : instr ≢ Ebreak
  pub is : row ≡ rom_row row.pc instr

-- one row for each such word, in order of pc
pub record IsRom (image : Img) (rows : List RomRow) : Type 0 where
  pub ascending : AllPairs (λ a b. a.pc < b.pc) rows
  pub each : All (IsRowOf image) rows
  pub every : (pc : ℕ) (i : Instr) → instr_of (fetch image pc) ≡ Some i → i ≢ Ebreak → Contains rows (rom_row pc i)

-- the doubleword is one of memory when a run starts, and isn't 0
pub record IsInitial (image : Img) (d : Doubleword) : Type 0 where
  pub below : d.number < MEMORY_WORDS
  pub value : d.value ≡ initial_word image d.number
  pub some : d.value ≢ 0

-- each such doubleword, in order of their numbers
pub record AreInitial (image : Img) (ds : List Doubleword) : Type 0 where
  pub ascending : AllPairs (λ a b. a.number < b.number) ds
  pub each : All (IsInitial image) ds
  pub every : (k : ℕ) → k < MEMORY_WORDS → initial_word image k ≢ 0 → Contains ds (record { number = k; value = initial_word image k })
