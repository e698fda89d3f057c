use Rattle.run_lines.proofs.Whole.{run_holds}
use Rattle.run_lines.proofs.laws.run_holds.Goals as goal

pub returns : goal.returns
returns c =
    run_holds (record {
      stands = c.machine_stands.ensures;
      steps = record {
        reads = c.record_law.ensures.reads;
        accesses = c.record_law.ensures.accesses;
        writes = c.record_law.ensures.writes;
        rs1 = c.instruction_law.ensures.rs1;
        rs2 = c.instruction_law.ensures.rs2;
        rd = c.instruction_law.ensures.rd;
        zero = c.state_law.ensures.zero;
        bounds = c.bounds_law.ensures.records;
      };
      main = record { filled = c.main_rows.ensures.filled; sends = c.main_rows.ensures.sends };
      airs = record {
        binary = c.binary_laws.ensures.complete;
        binary_filled = c.binary_laws.ensures.filled;
        shift = c.shift_laws.ensures.complete;
        shift_filled = c.shift_laws.ensures.filled;
        arith = c.arith_laws.ensures.complete;
        arith_filled = c.arith_laws.ensures.filled;
        align = c.align_laws.ensures.complete;
        align_filled = c.align_laws.ensures.filled;
      };
      mem = record { filled = c.memory_rows.ensures.filled; bus = c.memory_bus.ensures.filled; out = c.memory_rows.ensures.out; sequence = c.accesses_law.ensures };
    })
