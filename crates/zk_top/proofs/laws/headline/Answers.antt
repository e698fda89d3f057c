use Rattle.std.proofs.Common.{[], arith}
use Rattle.zk_top.proofs.Sentences.{witness_outcome, writes}
use Rattle.zk_top.proofs.laws.headline.Goals as goal

pub returns : goal.returns
returns c =
    record {
      witness = λ contents elf input tables steps workers image n public o given below few le runs is.
          writes (λ file. c.one_answer.ensures.one_image file []) (λ file. c.one_answer.ensures.not_both file []) contents elf input tables steps n image public o (c.run_law.ensures image steps) given le runs
          (witness_outcome c.one_command.ensures.one contents elf input tables steps workers o (omega (arith, runs.some, le)) below few is);
      check = c.check_headline.ensures.check;
      among = c.check_headline.ensures.among;
      carried = c.check_headline.ensures.carried;
    }
