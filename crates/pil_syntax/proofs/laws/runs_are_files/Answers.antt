use Rattle.pil_syntax.specs.Grammar.{limits}
use Rattle.pil_syntax.proofs.SoundFiles.{file_of}
use Rattle.pil_syntax.proofs.laws.runs_are_files.Goals as goal

pub returns : goal.returns
returns c = record { file = file_of limits }
