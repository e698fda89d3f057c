-- What a status says to people (docs/COMMANDS.md).
use Rattle.std.specs.Prelude.{ℕ, List, ◌++◌, codes, decimal, Option, Some, None}
use Rattle.rv_model.specs.declared.answer.RunFault.{RunFault}
use Rattle.rv_model.specs.declared.answer.RunFault.TheVariants as faults
use Rattle.row_check.specs.declared.broken.Broken.{Broken}
use Rattle.row_check.specs.declared.broken.Broken.TheVariants as breaks
use Rattle.zk_words.specs.declared.status.Which.{Which}
use Rattle.zk_words.specs.declared.status.Which.TheVariants as files
use Rattle.zk_words.specs.declared.status.Status.{Status}
use Rattle.zk_words.specs.declared.status.Status.TheVariants.{Done, Broken as Breaks, BadWords, BadElf, RunFault as Faulted, StepLimit, BadTables, BadPil, TooLarge, HostFault, NoMemory}

-- what is wrong at a pc, and the number that shows it
abbrev pub at_pc : ℕ → List ℕ → ℕ → List ℕ
at_pc pc what number = codes "at pc " ++ (decimal pc ++ (what ++ decimal number))

abbrev pub fault_sentence : RunFault → List ℕ
fault_sentence (faults.BadPc pc) = codes "no executable word is at pc " ++ decimal pc
fault_sentence (faults.Illegal pc word) = at_pc pc (codes " the word is no instruction: ") word
fault_sentence (faults.Break pc) = codes "EBREAK is at pc " ++ decimal pc
fault_sentence (faults.BadCall pc number) = at_pc pc (codes " the number of the call is not 93 but ") number
fault_sentence (faults.Misaligned pc address) = at_pc pc (codes " the address is no multiple of the width of the access: ") address
fault_sentence (faults.BadAddress pc address) = at_pc pc (codes " the address is past the end of memory: ") address
fault_sentence (faults.BadTarget pc target) = at_pc pc (codes " the target is no multiple of 4: ") target

-- what is wrong with a line, and the two numbers that show it
abbrev pub of_line : ℕ → List ℕ → ℕ → List ℕ → ℕ → List ℕ
of_line line what first between second = codes "line " ++ (decimal line ++ (what ++ (decimal first ++ (between ++ decimal second))))

abbrev pub broken_sentence : Broken → List ℕ
broken_sentence (breaks.At line instance row) = of_line line (codes " does not hold in instance ") instance (codes " at row ") row
broken_sentence (breaks.Counts line tuple left right) = of_line line (codes " does not hold: the counts of a tuple are ") left (codes " on the left and on the right ") right

abbrev pub file_name : Which → List ℕ
file_name files.Elf = codes "ELF file"
file_name files.Input = codes "input"
file_name files.Pil = codes "constraint text"
file_name files.Tables = codes "table file"

-- the whole sentence, but for those that end with an error's own text
abbrev pub sentence_of : Status → Option (List ℕ)
sentence_of Done = Some (codes "the work is done")
sentence_of (Breaks b) = Some (broken_sentence b)
sentence_of BadWords = Some (codes "the commands are run ELF INPUT STEPS, witness ELF INPUT TABLES STEPS WORKERS, check ELF INPUT TABLES, pil PILFILE TABLES, machine, machine wide and demo NUMBER KIND SIZE")
sentence_of (BadElf e) = None
sentence_of (Faulted f) = Some (codes "the run faults: " ++ fault_sentence f)
sentence_of (StepLimit n) = Some (codes "the run neither halts nor faults within its limit of steps: " ++ decimal n)
sentence_of (BadTables e) = None
sentence_of (BadPil e) = None
sentence_of (TooLarge w) = Some (codes "the file is larger than its limit: " ++ file_name w)
sentence_of HostFault = Some (codes "a file could not be opened, created, read or written, or the report could not be written")
sentence_of NoMemory = Some (codes "memory ran out")
