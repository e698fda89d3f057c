use Rattle.std.proofs.Common.{ℕ, sym, subst}
use Rattle.std.specs.Prelude.{codes}
use Rattle.std.specs.Fmt.{HasWritten}
use Rattle.rv_model.specs.declared.answer.RunFault.{RunFault}
use Rattle.zk_words.specs.Sentences.{at_pc, fault_sentence}
use Rattle.zk_words.proofs.sentence.FaultSentenceDisplay.fmt.Goals as goal

pub returns-in-Illegal-clause-writes : goal.returns-in-Illegal-clause-writes
returns-in-Illegal-clause-writes g c = λ plain ok.
    subst (λ (r : RunFault). HasWritten {W = g.row.W.Denot} g.W.Write.write_str_gives c.args.f.now (fault_sentence r) c.fmt.new.f) (sym c.in-Illegal.is)
    (subst (λ (n : ℕ). HasWritten {W = g.row.W.Denot} g.W.Write.write_str_gives c.args.f.now (at_pc c.in-Illegal.pc (codes " the word is no instruction: ") n) c.fmt.new.f) c.from.ensures (c.fmt.ensures.writes plain ok))

pub returns-in-BadCall-clause-writes : goal.returns-in-BadCall-clause-writes
returns-in-BadCall-clause-writes g c = λ plain ok.
    subst (λ (r : RunFault). HasWritten {W = g.row.W.Denot} g.W.Write.write_str_gives c.args.f.now (fault_sentence r) c.fmt-in-BadCall.new.f) (sym c.in-BadCall.is) (c.fmt-in-BadCall.ensures.writes plain ok)

pub returns-in-Misaligned-clause-writes : goal.returns-in-Misaligned-clause-writes
returns-in-Misaligned-clause-writes g c = λ plain ok.
    subst (λ (r : RunFault). HasWritten {W = g.row.W.Denot} g.W.Write.write_str_gives c.args.f.now (fault_sentence r) c.fmt-in-Misaligned.new.f) (sym c.in-Misaligned.is) (c.fmt-in-Misaligned.ensures.writes plain ok)

pub returns-in-BadAddress-clause-writes : goal.returns-in-BadAddress-clause-writes
returns-in-BadAddress-clause-writes g c = λ plain ok.
    subst (λ (r : RunFault). HasWritten {W = g.row.W.Denot} g.W.Write.write_str_gives c.args.f.now (fault_sentence r) c.fmt-in-BadAddress.new.f) (sym c.in-BadAddress.is) (c.fmt-in-BadAddress.ensures.writes plain ok)
