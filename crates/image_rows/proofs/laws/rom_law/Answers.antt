use Rattle.image_rows.proofs.RomRows.{is_rom}
use Rattle.image_rows.proofs.laws.rom_law.Goals as goal

pub returns : goal.returns
returns c = is_rom
