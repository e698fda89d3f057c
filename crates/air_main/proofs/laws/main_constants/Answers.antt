use Rattle.air_main.proofs.Constants.{rom_constants_law, main_constants_law}
use Rattle.air_main.proofs.laws.main_constants.Goals as goal

pub returns-clause-rom : goal.returns-clause-rom
returns-clause-rom c = rom_constants_law

pub returns-clause-main : goal.returns-clause-main
returns-clause-main c = main_constants_law
