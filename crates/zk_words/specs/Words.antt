-- Which words read as which command, with its file names (docs/COMMANDS.md).
use Rattle.std.specs.Prelude.{◌≡◌, ℕ, ◌+◌, ◌<◌, ◌≤◌, ◌^◌, List, [], ◌∷◌, codes, decimal, map, string_bytes, String, Option, Some, IfSome, option_map}
use Rattle.std.specs.declared.alloc.Global.{Global}
use Rattle.zk_words.specs.declared.command.Command as Parsed
use Rattle.zk_words.specs.declared.command.Command.TheVariants as parsed
use Rattle.gold.specs.declared.shapes.Profile.{Profile}
use Rattle.gold.specs.declared.shapes.Profile.TheVariants.{Small, Wide}
use Rattle.zk_words.specs.declared.command.TheConstants.{MOST_WORKERS}
use Rattle.demo_program.specs.declared.kind.DemoKind.{DemoKind}
use Rattle.demo_program.specs.declared.kind.DemoKind.TheVariants.{Alu, Mul, Mem}

-- the bytes of each word
abbrev pub texts : List (String Global) → List (List ℕ)
texts words = map string_bytes words

-- the text is this number, in decimal without a sign or a leading zero, and it lies in the range
abbrev pub IsNumber : ℕ → ℕ → List ℕ → ℕ → Type 0
IsNumber least end text n = (text ≡ decimal n) × (least ≤ n) × (n < end)

-- the word of a kind of demo program
abbrev pub kind_word : DemoKind → List ℕ
kind_word Alu = codes "alu"
kind_word Mul = codes "mul"
kind_word Mem = codes "mem"

-- a command with the names of its files
pub data Command : Type 0 where
  Run : List ℕ → List ℕ → ℕ → Command
  Witness : List ℕ → List ℕ → List ℕ → ℕ → ℕ → Command
  Check : List ℕ → List ℕ → List ℕ → Command
  Pil : List ℕ → List ℕ → Command
  Machine : Profile → Command
  Demo : ℕ → DemoKind → ℕ → Command

-- the command that an answer of the program is: the texts that it points to
abbrev pub asked : Parsed.Command → Command
asked (parsed.Run elf input steps) = Run elf.now input.now steps
asked (parsed.Witness elf input tables steps workers) = Witness elf.now input.now tables.now steps workers
asked (parsed.Check elf input tables) = Check elf.now input.now tables.now
asked (parsed.Pil text tables) = Pil text.now tables.now
asked (parsed.Machine profile) = Machine profile
asked (parsed.Demo number kind size) = Demo number kind size

-- the words read as the command
abbrev pub Reads : List (List ℕ) → Command → Type 0
Reads words (Run elf input steps) = (text : List ℕ) × (words ≡ codes "run" ∷ elf ∷ input ∷ text ∷ []) × IsNumber 1 (2 ^ 32) text steps
Reads words (Witness elf input tables steps workers) =
    (text : List ℕ) × (number : List ℕ) × (words ≡ codes "witness" ∷ elf ∷ input ∷ tables ∷ text ∷ number ∷ [])
    × IsNumber 1 (2 ^ 32) text steps × IsNumber 0 (MOST_WORKERS + 1) number workers
Reads words (Check elf input tables) = words ≡ codes "check" ∷ elf ∷ input ∷ tables ∷ []
Reads words (Pil text tables) = words ≡ codes "pil" ∷ text ∷ tables ∷ []
Reads words (Machine Small) = words ≡ codes "machine" ∷ []
Reads words (Machine Wide) = words ≡ codes "machine" ∷ codes "wide" ∷ []
Reads words (Demo number kind size) =
    (text : List ℕ) × (last : List ℕ) × (words ≡ codes "demo" ∷ text ∷ kind_word kind ∷ last ∷ []) × IsNumber 0 (2 ^ 64) text number × IsNumber 1 100001 last size

-- what is answered of words: the command that they read as, if they read as one
pub record IsAnswer (words : List (List ℕ)) (answer : Option Parsed.Command) : Type 0 where
  pub found : IfSome answer (λ c. Reads words (asked c))
  pub only : (c : Command) → Reads words c → option_map asked answer ≡ Some c
