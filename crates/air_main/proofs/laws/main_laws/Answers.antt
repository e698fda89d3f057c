use Rattle.std.proofs.Common.{refl}
use Rattle.gold.specs.declared.shapes.Profile.TheVariants.{Small, Wide}
use Rattle.air_main.proofs.Decoded.{ranges_of}
use Rattle.air_main.proofs.RowLaw.{row_law}
use Rattle.air_main.proofs.Exact.{main_exact}
use Rattle.air_main.proofs.Chain.{follows_law, ends_law}
use Rattle.air_main.proofs.Told.{selected_law}
use Rattle.air_main.proofs.Complete.{main_complete, main_padding, main_sends}
use Rattle.air_main.proofs.laws.main_laws.Goals as goal

pub returns-clause-row : goal.returns-clause-row
returns-clause-row c = row_law (ranges_of c.decoding_law.ensures.found c.decoding_law.ensures.range)

pub returns-clause-selected : goal.returns-clause-selected
returns-clause-selected c = selected_law (ranges_of c.decoding_law.ensures.found c.decoding_law.ensures.range)

pub returns-clause-exact : goal.returns-clause-exact
returns-clause-exact c = main_exact (ranges_of c.decoding_law.ensures.found c.decoding_law.ensures.range)

pub returns-clause-complete : goal.returns-clause-complete
returns-clause-complete c = main_complete (ranges_of c.decoding_law.ensures.found c.decoding_law.ensures.range)

pub returns-clause-padding : goal.returns-clause-padding
returns-clause-padding c = main_padding (ranges_of c.decoding_law.ensures.found c.decoding_law.ensures.range)

pub returns-clause-follows : goal.returns-clause-follows
returns-clause-follows c = follows_law (ranges_of c.decoding_law.ensures.found c.decoding_law.ensures.range)

pub returns-clause-ends : goal.returns-clause-ends
returns-clause-ends c = ends_law (ranges_of c.decoding_law.ensures.found c.decoding_law.ensures.range)

pub returns-clause-sends : goal.returns-clause-sends
returns-clause-sends c = main_sends (ranges_of c.decoding_law.ensures.found c.decoding_law.ensures.range)

pub returns-clause-profiles : goal.returns-clause-profiles
returns-clause-profiles c Small = refl
returns-clause-profiles c Wide = refl
