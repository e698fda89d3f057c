use Rattle.pil_syntax.specs.Grammar.{limits}
use Rattle.pil_syntax.specs.Shown.{sentences}
use Rattle.pil_syntax.proofs.SoundFiles.{file_of}
use Rattle.pil_syntax.proofs.Unique.{one_file, not_both}
use Rattle.pil_syntax.proofs.Answered.{refused, no_file, first, without_place}
use Rattle.pil_syntax.proofs.reading.read_syntax.Goals as goal

pub returns-in-Ok-clause-found : goal.returns-in-Ok-clause-found
returns-in-Ok-clause-found c = file_of limits c.args.tokens.now (sentences c.in-Ok.syntax) c.in-Ok.ensures

pub returns-in-Ok-clause-only : goal.returns-in-Ok-clause-only
returns-in-Ok-clause-only c = λ ss r. one_file limits c.args.tokens.now (sentences c.in-Ok.syntax) ss (file_of limits c.args.tokens.now (sentences c.in-Ok.syntax) c.in-Ok.ensures) r

pub returns-in-Ok-clause-first : goal.returns-in-Ok-clause-first
returns-in-Ok-clause-first c = λ e r. not_both limits c.args.tokens.now c.args.end (sentences c.in-Ok.syntax) e (file_of limits c.args.tokens.now (sentences c.in-Ok.syntax) c.in-Ok.ensures) r

pub returns-in-Err-clause-refused : goal.returns-in-Err-clause-refused
returns-in-Err-clause-refused c = refused limits c.args.tokens.now c.args.end c.in-Err.error c.error_at.result c.in-Err.ensures c.error_at.ensures

pub returns-in-Err-clause-only : goal.returns-in-Err-clause-only
returns-in-Err-clause-only c = λ ss r. no_file limits c.args.tokens.now c.args.end c.in-Err.error c.error_at.result c.in-Err.ensures c.error_at.ensures ss r

pub returns-in-Err-clause-first : goal.returns-in-Err-clause-first
returns-in-Err-clause-first c = λ e r. first limits c.args.tokens.now c.args.end c.in-Err.error c.error_at.result c.in-Err.ensures c.error_at.ensures e r

pub returns-in-Err-clause-memory : goal.returns-in-Err-clause-memory
returns-in-Err-clause-memory c = without_place limits c.args.tokens.now c.args.end c.in-Err.error c.error_at.result c.in-Err.ensures c.error_at.ensures
