-- First: the rows of all instances of Main, one after the other. A selected row leads to the next until one halts.
use Rattle.std.specs.Prelude.{ℕ, suc, ◌+◌, ◌*◌, ◌^◌, ◌<◌, ◌≤◌, ◌≡◌, ◌≢◌, ◌⊎◌, List}
use Rattle.pil_ast.specs.Term.{Namespace, item_at}
use Rattle.pil_ast.specs.Columns.{Columns}
use Rattle.pil_ast.specs.Holds.{Holds}
use Rattle.machine_text.specs.Main
use Rattle.rv_model.specs.Image.{Img}
use Rattle.air_main.specs.Constants.{MainConstants}
use Rattle.air_main.specs.Law.{HasMain, IsRomPc, at_row}

-- row r of instance i is row number j
pub record IsPlace (c : Columns) (j i r : ℕ) : Type 0 where
  pub is_instance : i < c.instances Main.here
  pub is_row : r < c.rows Main.here
  pub is_number : j ≡ i * c.rows Main.here + r

-- Main with n rows stands in the text with its constants, at least one instance and at most 2^32 rows, and its lines hold
pub record MainStands (ns : List Namespace) (c : Columns) (n : ℕ) (image : Img) : Type 0 where
  pub has : HasMain ns c n image
  pub constants : MainConstants image n c
  pub some : 0 < c.instances Main.here
  pub few : c.instances Main.here * c.rows Main.here ≤ 2 ^ 32
  pub entry_below : image.entry < 2 ^ 32
  pub holds : (k : ℕ) → Holds ns c (item_at Main.items k)

-- row number j + 1, which is selected and has the pc to which row r of instance i goes, one of Rom's
pub record GoesOn (ns : List Namespace) (c : Columns) (j i r : ℕ) : Type 0 where
  pub instance : ℕ
  pub row : ℕ
  pub place : IsPlace c (suc j) instance row
  pub selected : at_row ns c instance row Main.sel ≢ 0
  pub pc : at_row ns c instance row Main.pc ≡ at_row ns c i r Main.nx
  pub known : IsRomPc c (at_row ns c i r Main.nx)

-- A selected row that doesn't halt has a next row, in its instance or the next.
abbrev pub ChainLaw : Type 0
ChainLaw =
    (ns : List Namespace) (c : Columns) (n : ℕ) (image : Img) → MainStands ns c n image
    → (j i r : ℕ) → IsPlace c j i r → at_row ns c i r Main.sel ≢ 0 → at_row ns c i r Main.halt ≢ 1 → GoesOn ns c j i r

-- After a row that halts, or isn't selected, no row is selected.
abbrev pub RestLaw : Type 0
RestLaw =
    (ns : List Namespace) (c : Columns) (n : ℕ) (image : Img) → MainStands ns c n image
    → (j i r : ℕ) → IsPlace c j i r → (at_row ns c i r Main.sel ≡ 0) ⊎ (at_row ns c i r Main.halt ≡ 1) → (k a b : ℕ) → j < k → IsPlace c k a b → at_row ns c a b Main.sel ≡ 0
