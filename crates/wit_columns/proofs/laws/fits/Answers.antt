use Rattle.wit_columns.proofs.Fitting.{fitting}
use Rattle.wit_columns.proofs.laws.fits.Goals as goal

pub returns : goal.returns
returns c = fitting
