use Rattle.std.proofs.Common.{◌≡◌}
use Rattle.mem_rows.proofs.Run.{sequence, is_step, told, old_is}
use Rattle.mem_rows.proofs.laws.accesses_law.Goals as goal

pub returns : goal.returns
returns c = λ image n public loads few runs.
    sequence image n public (record {
      few = few;
      steps = record {
        each = λ j lt. record {
          one = (c.record_law.ensures.reads image j).1;
          two = (c.record_law.ensures.reads image j).2;
          old = old_is image j;
          acts = (c.bounds_law.ensures.records image loads j (is_step image n public runs j lt)).mem;
          rd = c.instruction_law.ensures.rd image j;
          registers = c.state_law.ensures.registers image j;
        };
        on = λ j lt. c.state_law.ensures.after image j (is_step image n public runs j lt);
      };
      records = λ j lt. c.bounds_law.ensures.records image loads j (is_step image n public runs j lt);
      one = c.instruction_law.ensures.rs1 image;
      two = c.instruction_law.ensures.rs2 image;
      states = c.bounds_law.ensures.states image loads;
      told = told image n public runs;
    })
