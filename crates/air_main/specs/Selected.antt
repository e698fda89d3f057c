-- What Rom's row tells of a selected row of Main, whatever it reads.
use Rattle.std.specs.Prelude.{ℕ, ◌<◌, ◌^◌, ◌≡◌, ◌≢◌, ◌⊎◌, List}
use Rattle.pil_ast.specs.Term.{Namespace}
use Rattle.pil_ast.specs.Columns.{Columns}
use Rattle.machine_text.specs.Main
use Rattle.rv_model.specs.Image.{Img}
use Rattle.air_main.specs.Law.{HasMain, Meets, IsRomPc, at_row}

-- Its flags are bits, its pc is one of Rom's, its registers and its doubleword are numbers of registers and doublewords, a
-- store accesses memory, and a halt writes nothing. The high limb of its second operand is one where that of rs2 is.
pub record IsSelected (ns : List Namespace) (c : Columns) (i r : ℕ) : Type 0 where
  pub sel : at_row ns c i r Main.sel ≡ 1
  pub pc : IsRomPc c (at_row ns c i r Main.pc)
  pub rs1 : at_row ns c i r Main.rs1 < 32
  pub rs2 : at_row ns c i r Main.rs2 < 32
  pub rd : at_row ns c i r Main.rd < 32
  pub wr : (at_row ns c i r Main.wr ≡ 0) ⊎ (at_row ns c i r Main.wr ≡ 1)
  pub st : (at_row ns c i r Main.st ≡ 0) ⊎ (at_row ns c i r Main.st ≡ 1)
  pub halt : (at_row ns c i r Main.halt ≡ 0) ⊎ (at_row ns c i r Main.halt ≡ 1)
  pub stores : at_row ns c i r Main.st ≡ 1 → at_row ns c i r Main.ms ≢ 0
  pub writes_none : at_row ns c i r Main.halt ≡ 1 → (at_row ns c i r Main.wr ≡ 0) × (at_row ns c i r Main.st ≡ 0)
  pub w_below : at_row ns c i r Main.ms ≢ 0 → at_row ns c i r Main.w < 2 ^ 29
  pub b_high : at_row ns c i r Main.shi < 2 ^ 32 → at_row ns c i r Main.bhi < 2 ^ 32

-- Lines 1, 8 and 15 to 17.
abbrev pub SelectedLaw : Type 0
SelectedLaw = (ns : List Namespace) (c : Columns) (n : ℕ) (image : Img) (i r : ℕ) → HasMain ns c n image → Meets ns c i r → at_row ns c i r Main.sel ≢ 0 → IsSelected ns c i r
