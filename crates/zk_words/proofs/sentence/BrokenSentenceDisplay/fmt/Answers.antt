use Rattle.std.proofs.Common.{ℕ, sym, subst}
use Rattle.std.specs.Prelude.{codes}
use Rattle.std.specs.Fmt.{HasWritten}
use Rattle.row_check.specs.declared.broken.Broken.{Broken}
use Rattle.zk_words.specs.Sentences.{of_line, broken_sentence}
use Rattle.zk_words.proofs.sentence.BrokenSentenceDisplay.fmt.Goals as goal

pub returns-in-At-clause-writes : goal.returns-in-At-clause-writes
returns-in-At-clause-writes g c = λ plain ok.
    let in_instance = codes " does not hold in instance " in
    let at_row = codes " at row " in
    subst (λ (b : Broken). HasWritten {W = g.row.W.Denot} g.W.Write.write_str_gives c.args.f.now (broken_sentence b) c.fmt.new.f) (sym c.in-At.is)
    (subst (λ (n : ℕ). HasWritten {W = g.row.W.Denot} g.W.Write.write_str_gives c.args.f.now (of_line c.in-At.line in_instance c.in-At.instance at_row n) c.fmt.new.f) c.from-in-At.ensures
    (subst (λ (n : ℕ). HasWritten {W = g.row.W.Denot} g.W.Write.write_str_gives c.args.f.now (of_line c.in-At.line in_instance n at_row c.from-in-At.result) c.fmt.new.f) c.from.ensures (c.fmt.ensures.writes plain ok)))

pub returns-in-Counts-clause-writes : goal.returns-in-Counts-clause-writes
returns-in-Counts-clause-writes g c = λ plain ok.
    subst (λ (b : Broken). HasWritten {W = g.row.W.Denot} g.W.Write.write_str_gives c.args.f.now (broken_sentence b) c.fmt-in-Counts.new.f) (sym c.in-Counts.is) (c.fmt-in-Counts.ensures.writes plain ok)
