-- The text of a line that a command found broken, for people (docs/COMMANDS.md).
use Rattle.std.specs.Prelude.{ℕ, ◌≡◌, List, Some}
use Rattle.gold.specs.declared.shapes.Profile.TheVariants.{Small}
use Rattle.pil_ast.specs.Term.{Namespace}
use Rattle.pil_text.specs.Text.{Reads as TextReads}
use Rattle.row_check.specs.declared.broken.Broken.{Broken}
use Rattle.row_check.specs.declared.broken.Broken.TheVariants as breaks
use Rattle.machine_text.specs.Machine.{machine}
use Rattle.broken_line.specs.declared.finding.LineText.{LineText}
use Rattle.broken_line.specs.Texts.{IsText}
use Rattle.zk_words.specs.Words.{Command, Check, Pil, Reads}
use Rattle.zk_words.specs.declared.status.Status.{Status}
use Rattle.zk_words.specs.declared.status.Status.TheVariants as statuses
use Rattle.zk_top.specs.Outcome.{Contents}

-- the number of the line
abbrev pub number_of : Broken → ℕ
number_of (breaks.At line instance row) = line
number_of (breaks.Counts line tuple left right) = line

-- the text of a line of what these bytes read as
pub record IsTextIn (bytes : List ℕ) (number : ℕ) (found : LineText) : Type 0 where
  pub ns : List Namespace
  pub reads : TextReads bytes ns
  pub text : IsText ns number found

-- the same of the file with this name
pub record IsTextOfFile (contents : Contents) (name : List ℕ) (number : ℕ) (found : LineText) : Type 0 where
  pub bytes : List ℕ
  pub file : contents name ≡ Some bytes
  pub text : IsTextIn bytes number found

-- the same of the constraints that the command checks. Of `check` they are those of profile Small: the profiles' texts differ
-- in Main's number of rows alone, which no line's text shows
abbrev pub IsTextFor : Contents → Command → ℕ → LineText → Type 0
IsTextFor contents (Check elf input tables) number found = IsText (machine Small) number found
IsTextFor contents (Pil text tables) number found = IsTextOfFile contents text number found
IsTextFor contents _ number found = ⊥

-- the words read as a command with constraints, the status tells a broken line, and this is its text
abbrev pub IsShown : Contents → List (List ℕ) → Status → LineText → Type 0
IsShown contents words (statuses.Broken b) found = (command : Command) × Reads words command × IsTextFor contents command (number_of b) found
IsShown contents words _ found = ⊥
