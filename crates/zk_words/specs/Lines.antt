-- The code of each status, and the line that reports a refusal (docs/COMMANDS.md).
use Rattle.std.specs.Prelude.{ℕ, List, [], ◌∷◌, ◌++◌, codes, decimal, flat_map}
use Rattle.elf_load.specs.declared.error.ElfErr.{ElfErr}
use Rattle.elf_load.specs.declared.error.ElfErr.TheVariants as elf
use Rattle.rv_model.specs.declared.answer.RunFault.{RunFault}
use Rattle.rv_model.specs.declared.answer.RunFault.TheVariants as faults
use Rattle.pil_text.specs.declared.error.PilErr.{PilErr}
use Rattle.pil_text.specs.declared.error.PilKind.{PilKind}
use Rattle.pil_text.specs.declared.error.PilKind.TheVariants as pil
use Rattle.tab_file.specs.declared.fault.TabErr.{TabErr}
use Rattle.tab_file.specs.declared.fault.TabKind.{TabKind}
use Rattle.tab_file.specs.declared.fault.TabKind.TheVariants as tab
use Rattle.row_check.specs.declared.broken.Broken.{Broken}
use Rattle.row_check.specs.declared.broken.Broken.TheVariants as breaks
use Rattle.zk_words.specs.declared.status.Which.{Which}
use Rattle.zk_words.specs.declared.status.Which.TheVariants as files
use Rattle.zk_words.specs.declared.status.Status.{Status}
use Rattle.zk_words.specs.declared.status.Status.TheVariants.{Done, Broken as Breaks, BadWords, BadElf, RunFault as Faulted, StepLimit, BadTables, BadPil, TooLarge, HostFault, NoMemory}

abbrev pub code_of : Status → ℕ
code_of Done = 0
code_of (Breaks b) = 1
code_of BadWords = 2
code_of (BadElf e) = 3
code_of (Faulted f) = 4
code_of (StepLimit n) = 5
code_of (BadTables e) = 6
code_of (BadPil e) = 7
code_of (TooLarge w) = 8
code_of HostFault = 9
code_of NoMemory = 10

-- numbers in decimal, each behind a space
abbrev pub numbers : List ℕ → List ℕ
numbers ns = flat_map (λ n. codes " " ++ decimal n) ns

-- a refusal's name and its numbers
abbrev pub elf_text : ElfErr → List ℕ
elf_text (elf.Short n) = codes "Short" ++ numbers (n ∷ [])
elf_text elf.BadMagic = codes "BadMagic"
elf_text elf.NotElf64Le = codes "NotElf64Le"
elf_text (elf.NotExec n) = codes "NotExec" ++ numbers (n ∷ [])
elf_text (elf.NotRiscv n) = codes "NotRiscv" ++ numbers (n ∷ [])
elf_text (elf.BadPhdrs i) = codes "BadPhdrs" ++ numbers (i ∷ [])
elf_text (elf.NotStatic i) = codes "NotStatic" ++ numbers (i ∷ [])
elf_text (elf.FilePart i) = codes "FilePart" ++ numbers (i ∷ [])
elf_text (elf.OutOfRange i) = codes "OutOfRange" ++ numbers (i ∷ [])
elf_text (elf.Overlap i j) = codes "Overlap" ++ numbers (i ∷ j ∷ [])
elf_text (elf.WindowClash i) = codes "WindowClash" ++ numbers (i ∷ [])
elf_text (elf.TooMuchData n) = codes "TooMuchData" ++ numbers (n ∷ [])
elf_text (elf.EntryOutside n) = codes "EntryOutside" ++ numbers (n ∷ [])
elf_text elf.NoMemory = codes "NoMemory"

abbrev pub fault_text : RunFault → List ℕ
fault_text (faults.BadPc pc) = codes "BadPc" ++ numbers (pc ∷ [])
fault_text (faults.Illegal pc word) = codes "Illegal" ++ numbers (pc ∷ word ∷ [])
fault_text (faults.Break pc) = codes "Break" ++ numbers (pc ∷ [])
fault_text (faults.BadCall pc number) = codes "BadCall" ++ numbers (pc ∷ number ∷ [])
fault_text (faults.Misaligned pc address) = codes "Misaligned" ++ numbers (pc ∷ address ∷ [])
fault_text (faults.BadAddress pc address) = codes "BadAddress" ++ numbers (pc ∷ address ∷ [])
fault_text (faults.BadTarget pc target) = codes "BadTarget" ++ numbers (pc ∷ target ∷ [])

abbrev pub file_text : Which → List ℕ
file_text files.Elf = codes "elf"
file_text files.Input = codes "input"
file_text files.Pil = codes "pil"
file_text files.Tables = codes "tables"

abbrev pub tab_text : TabKind → List ℕ
tab_text tab.Short = codes "Short"
tab_text tab.BadMagic = codes "BadMagic"
tab_text tab.BadVersion = codes "BadVersion"
tab_text tab.BadProfile = codes "BadProfile"
tab_text tab.BadAir = codes "BadAir"
tab_text tab.NoMain = codes "NoMain"
tab_text tab.NotOneOut = codes "NotOneOut"
tab_text tab.TooMany = codes "TooMany"
tab_text tab.BadOrder = codes "BadOrder"
tab_text tab.BadShape = codes "BadShape"
tab_text tab.NotCanonical = codes "NotCanonical"
tab_text tab.Trailing = codes "Trailing"
tab_text tab.NoMemory = codes "NoMemory"

abbrev pub pil_text : PilKind → List ℕ
pil_text pil.BadByte = codes "BadByte"
pil_text pil.NumberTooLarge = codes "NumberTooLarge"
pil_text pil.Unexpected = codes "Unexpected"
pil_text pil.TooDeep = codes "TooDeep"
pil_text pil.Repeated = codes "Repeated"
pil_text pil.UnknownName = codes "UnknownName"
pil_text pil.BadRow = codes "BadRow"
pil_text pil.Mixed = codes "Mixed"
pil_text pil.WrongWidth = codes "WrongWidth"
pil_text pil.CyclicPol = codes "CyclicPol"
pil_text pil.DoubleMark = codes "DoubleMark"
pil_text pil.NoMemory = codes "NoMemory"

-- the numbers of a tuple, with a comma between two
abbrev pub after_first : List ℕ → List ℕ
after_first ns = flat_map (λ n. codes "," ++ decimal n) ns

abbrev pub tuple_text : List ℕ → List ℕ
tuple_text [] = []
tuple_text (n ∷ ns) = decimal n ++ after_first ns

-- which line is broken, and where or by which counts
abbrev pub broken_text : Broken → List ℕ
broken_text (breaks.At line instance row) = decimal line ++ codes " instance" ++ numbers (instance ∷ []) ++ codes " row" ++ numbers (row ∷ [])
broken_text (breaks.Counts line tuple left right) = decimal line ++ codes " tuple " ++ tuple_text tuple ++ codes " left" ++ numbers (left ∷ []) ++ codes " right" ++ numbers (right ∷ [])

-- the report line of a status, but for those that have none
abbrev pub line_of : Status → List ℕ
line_of (Breaks b) = codes "broken line " ++ broken_text b ++ codes "\n"
line_of BadWords = codes "bad words\n"
line_of (BadElf e) = codes "bad elf " ++ elf_text e ++ codes "\n"
line_of (Faulted f) = codes "run fault " ++ fault_text f ++ codes "\n"
line_of (StepLimit n) = codes "step limit " ++ decimal n ++ codes "\n"
line_of (BadTables e) = codes "bad tables " ++ tab_text e.kind ++ numbers (e.at ∷ []) ++ codes "\n"
line_of (BadPil e) = codes "bad pil " ++ pil_text e.kind ++ numbers (e.at ∷ []) ++ codes "\n"
line_of (TooLarge w) = codes "too large " ++ file_text w ++ codes "\n"
line_of Done = []
line_of HostFault = []
line_of NoMemory = []

-- whether a status has a report line
abbrev pub HasLine : Status → Type 0
HasLine Done = ⊥
HasLine HostFault = ⊥
HasLine NoMemory = ⊥
HasLine _ = Unit {0}
