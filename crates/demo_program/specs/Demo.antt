-- The file of a demo program.
use Rattle.std.specs.Prelude.{◌≢◌, ◌≤◌, ℕ, List, map}
use Rattle.rv_word.specs.Encoding.{encoding}
use Rattle.rv_word.specs.Is.{Is}
use Rattle.rv_word.specs.declared.instr.Instr.{Instr}
use Rattle.rv_word.specs.declared.instr.Instr.TheVariants.{Fence}
use Rattle.demo_program.specs.declared.kind.DemoKind.{DemoKind}
use Rattle.demo_program.specs.Program.{instructions}
use Rattle.demo_program.specs.Tiny.{tiny}

-- the words of a list of instructions
abbrev pub words_of : List Instr → List ℕ
words_of is = map encoding is

unfoldable pub demo_file : ℕ → DemoKind → ℕ → List ℕ
demo_file number kind size = tiny (words_of (instructions number kind size))

-- how many instructions a program may draw
abbrev pub IsSize : ℕ → Type 0
IsSize size = (1 ≤ size) × (size ≤ 100000)

-- the instruction's encoding is its word, and the only one
abbrev pub HasWord : Instr → Type 0
HasWord i = Is (encoding i) i × (i ≢ Fence)
