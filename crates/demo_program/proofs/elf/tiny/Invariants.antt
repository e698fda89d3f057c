use Rattle.std.proofs.Common.{◌≡◌, ◌*◌, ◌++◌, length, take}
use Rattle.std.specs.List.{flat_map}
use Rattle.demo_program.specs.Tiny.{word, file_header, program_header}
use Rattle.demo_program.specs.Demo.{words_of}
use Rattle.demo_program.proofs.elf.tiny.Given as goal

abbrev pub invariant-loop-instruction : goal.invariant-loop-instruction
invariant-loop-instruction l = l.file.items ≡ file_header ++ program_header (4 * length l.instructions) ++ flat_map word (words_of (take l.instruction-index l.instructions))
