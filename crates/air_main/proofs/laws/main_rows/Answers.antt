use Rattle.air_main.proofs.Decoded.{ranges_of}
use Rattle.air_main.proofs.Runs.{run_has_rows}
use Rattle.air_main.proofs.Filled.{main_filled, run_sends}
use Rattle.air_main.proofs.laws.main_rows.Goals as goal

pub returns-clause-steps : goal.returns-clause-steps
returns-clause-steps c = run_has_rows c.bounds_law.ensures.records

pub returns-clause-filled : goal.returns-clause-filled
returns-clause-filled c = main_filled (ranges_of c.decoding_law.ensures.found c.decoding_law.ensures.range) c.bounds_law.ensures.records

pub returns-clause-sends : goal.returns-clause-sends
returns-clause-sends c = run_sends (ranges_of c.decoding_law.ensures.found c.decoding_law.ensures.range) c.bounds_law.ensures.records
