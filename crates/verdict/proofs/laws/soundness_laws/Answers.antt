use Rattle.verdict.proofs.Sound.{runs, are_steps, nothing_wraps}
use Rattle.verdict.proofs.laws.soundness_laws.Goals as goal

pub returns-clause-headline : goal.returns-clause-headline
returns-clause-headline c =
    runs (record {
      columns = c.columns_laws.ensures.machine;
      tables = c.columns_laws.ensures.tables;
      public = c.publics_laws.ensures.same;
      machine = c.machine_laws.ensures.machine;
      rows = c.machine_laws.ensures.rows;
      exact = c.machine_laws.ensures.exact;
    })

pub returns-clause-rows : goal.returns-clause-rows
returns-clause-rows c =
    are_steps (record {
      columns = c.columns_laws.ensures.machine;
      tables = c.columns_laws.ensures.tables;
      public = c.publics_laws.ensures.same;
      machine = c.machine_laws.ensures.machine;
      rows = c.machine_laws.ensures.rows;
      exact = c.machine_laws.ensures.exact;
    })

pub returns-clause-no_wrap : goal.returns-clause-no_wrap
returns-clause-no_wrap c =
    nothing_wraps (record {
      columns = c.columns_laws.ensures.machine;
      tables = c.columns_laws.ensures.tables;
      public = c.publics_laws.ensures.same;
      machine = c.machine_laws.ensures.machine;
      rows = c.machine_laws.ensures.rows;
      exact = c.machine_laws.ensures.exact;
    })
