use Rattle.std.proofs.Common.{◌≡◌, [], map, drop}
use Rattle.pil_syntax.specs.Shown.{sentence, sentences}
use Rattle.pil_names.specs.Outline.{outline_of}
use Rattle.pil_names.specs.Gathering.{outline_with}
use Rattle.pil_names.proofs.outline.read_outline.Given as goal

abbrev pub invariant-loop-statement : goal.invariant-loop-statement
invariant-loop-statement l = outline_with l.gathered [] (map sentence (drop l.statement-index l.syntax.statements)) ≡ outline_of (sentences l.syntax)
