use Rattle.main_run.proofs.Headline.{headline_law}
use Rattle.main_run.proofs.laws.headline_laws.Goals as goal

pub returns : goal.returns
returns c = record { headline = headline_law (record { row = c.main_laws.ensures.row; follows = c.main_laws.ensures.follows; ends = c.main_laws.ensures.ends; selected = c.main_laws.ensures.selected }) (record { words = c.words_law.ensures.words; entry = c.words_law.ensures.entry; initial = c.initial_law.ensures }) }
