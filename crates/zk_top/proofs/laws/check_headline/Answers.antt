use Rattle.std.proofs.Common.{[]}
use Rattle.machine_columns.specs.Accepted.{public_of}
use Rattle.zk_top.specs.Outcome.{check_names}
use Rattle.zk_top.proofs.Sentences.{check_outcome, on_tables, judges, done_tables, program_loadable}
use Rattle.zk_top.proofs.laws.check_headline.Goals as goal

pub returns : goal.returns
returns c =
    record {
      check = λ contents elf input tables file image o given there is.
          judges c.one_verdict.ensures.not_both c.one_verdict.ensures.one c.one_text.ensures.witness c.reads_or_fails.ensures.not_both (check_names elf input tables) image file o
          (on_tables (λ file. c.one_answer.ensures.one_image file []) (λ file. c.one_answer.ensures.not_both file []) contents elf input tables file image o given there (check_outcome c.one_command.ensures.one contents elf input tables o is));
      among = λ contents elf input image n public bytes given few runs. c.completeness.ensures.accepted image n public (program_loadable c.loaded_is_loadable.ensures c.input_apart.ensures contents elf input image bytes given) few runs;
      carried = λ contents elf input tables file image o bytes given there is done.
          let on = on_tables (λ file. c.one_answer.ensures.one_image file []) (λ file. c.one_answer.ensures.not_both file []) contents elf input tables file image o given there (check_outcome c.one_command.ensures.one contents elf input tables o is) in
          let told = done_tables c.one_verdict.ensures.not_both c.one_verdict.ensures.one c.one_text.ensures.witness c.reads_or_fails.ensures.not_both (check_names elf input tables) image file o on done in
          let runs = c.soundness_laws.ensures.headline image told.0 (program_loadable c.loaded_is_loadable.ensures c.input_apart.ensures contents elf input image bytes given) told.1.shaped told.2 in
          record { witness = told.0; reads = told.1; public = public_of image told.0; runs = runs.runs; most = runs.most; report = told.3 };
    }
