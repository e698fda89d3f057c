use Rattle.machine_columns.proofs.Machine.{fitting, machine_of}
use Rattle.machine_columns.proofs.Tables.{table_value}
use Rattle.machine_columns.proofs.Machine.{few_constant}
use Rattle.machine_columns.proofs.laws.columns_laws.Goals as goal

pub returns-clause-fits : goal.returns-clause-fits
returns-clause-fits c = fitting

pub returns-clause-machine : goal.returns-clause-machine
returns-clause-machine c =
    machine_of (record {
      words = c.words_law.ensures.words;
      entry = c.words_law.ensures.entry;
      found = c.decoding_law.ensures.found;
      range = c.decoding_law.ensures.range;
      rom = c.rom_law.ensures;
      initial = c.initial_law.ensures;
    })

pub returns-clause-tables : goal.returns-clause-tables
returns-clause-tables c = table_value (record { airs = c.airs_by_number.ensures; spaces = c.namespaces_by_number.ensures })

pub returns-clause-few : goal.returns-clause-few
returns-clause-few c = few_constant
