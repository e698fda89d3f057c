-- The machine's namespaces, and how many rows Main has.
use Rattle.std.specs.Prelude.{ℕ, List, [], ◌∷◌, codes}
use Rattle.pil_ast.specs.Term.{Namespace}
use Rattle.gold.specs.declared.shapes.Profile.{Profile}
use Rattle.gold.specs.declared.shapes.Profile.TheVariants.{Small, Wide}
use Rattle.machine_text.specs.Bit
use Rattle.machine_text.specs.Range16
use Rattle.machine_text.specs.BinTab
use Rattle.machine_text.specs.ShiftTab
use Rattle.machine_text.specs.Rom
use Rattle.machine_text.specs.Init
use Rattle.machine_text.specs.Main
use Rattle.machine_text.specs.Mem
use Rattle.machine_text.specs.Out
use Rattle.machine_text.specs.Align
use Rattle.machine_text.specs.Binary
use Rattle.machine_text.specs.Shift
use Rattle.machine_text.specs.Arith

abbrev pub main_rows : Profile → ℕ
main_rows Small = 4096
main_rows Wide = 16384

-- as they stand in the text
abbrev pub main_digits : Profile → List ℕ
main_digits Small = codes "4096"
main_digits Wide = codes "16384"

-- the namespaces in the order of their numbers, 0 to 12
abbrev pub machine : Profile → List Namespace
machine p =
    Bit.space ∷ Range16.space ∷ BinTab.space ∷ ShiftTab.space ∷ Rom.space ∷ Init.space ∷
    Main.space (main_rows p) ∷ Mem.space ∷ Out.space ∷
    Align.space ∷ Binary.space ∷ Shift.space ∷ Arith.space ∷ []
