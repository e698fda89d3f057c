-- The instruction at a pc, and what an image keeps of the instructions that its file holds.
use Rattle.std.specs.Prelude.{◌≡◌, ℕ, ◌+◌, ◌*◌, List, All, Option, Some, None}
use Rattle.std.specs.List.{slice_get}
use Rattle.rv_word.specs.declared.instr.Instr.{Instr}
use Rattle.rv_word.specs.Is.{decoded}
use Rattle.rv_model.specs.Image.{Img, IsLoadable, fetch}
use Rattle.rv_model.specs.declared.code.Part.{Part}

-- the instruction of a word that was fetched
abbrev pub instr_of : Option ℕ → Option Instr
instr_of None = None
instr_of (Some word) = decoded word

-- the k-th instruction, where there is one, is that of the address start + 4 * k
abbrev pub AreInstructions : Img → ℕ → List (Option Instr) → Type 0
AreInstructions image start instrs = (k : ℕ) (i : Instr) → slice_get instrs k ≡ Some (Some i) → instr_of (fetch image (start + 4 * k)) ≡ Some i

abbrev pub IsPart : Img → Part → Type 0
IsPart image part = AreInstructions image part.start part.instrs.items

-- what each image keeps: it may be run, and what was decoded are its instructions
pub record IsImage (image : Img) (parts : List Part) : Type 0 where
  pub loadable : IsLoadable image
  pub decoded : All (IsPart image) parts
