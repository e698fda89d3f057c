use Rattle.run_tables.specs.Sequential.{sequential_witness}
use Rattle.run_accepted.proofs.Below.{Laws}
use Rattle.run_accepted.proofs.Accept.{accepted}
use Rattle.run_accepted.proofs.Published.{published_by}
use Rattle.run_accepted.proofs.SmallRun.{rows_small}
use Rattle.run_accepted.proofs.laws.completeness.Goals as goal

pub returns : goal.returns
returns c =
    let laws : Laws = record {
      holds = c.run_holds.ensures;
      columns = record { is_machine = c.columns_laws.ensures.machine; tables = c.columns_laws.ensures.tables; public = c.publics_laws.ensures.same };
      stands = c.machine_stands.ensures;
      steps = record {
        rows = c.main_rows.ensures.steps;
        here = c.instruction_law.ensures.here;
        executes = c.execution_law.ensures.executes;
        bounds = c.bounds_law.ensures.records;
        rom = c.rom_law.ensures;
      };
      sequence = c.accesses_law.ensures;
    } in
    record {
      accepted = λ image n public loadable few run. accepted laws image n public loadable few run (rows_small laws image n public loadable few run);
      public = λ image n public loadable few run. (
          let h = accepted laws image n public loadable few run (rows_small laws image n public loadable few run) in
          published_by c.machine_laws.ensures.machine laws.columns image (sequential_witness image n public) n public loadable run h.0 h.1);
    }
