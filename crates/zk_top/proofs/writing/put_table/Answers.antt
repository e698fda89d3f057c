use Rattle.std.proofs.Common.{◌++◌}
use Rattle.tab_file.specs.Pieces.{table_text}
use Rattle.zk_top.proofs.Pieces.{no_front}
use Rattle.zk_top.proofs.writing.put_table.Goals as goal

pub returns-in_default-clause-front : goal.returns-in_default-clause-front
returns-in_default-clause-front g c = λ told. no_front (g.H.Host.world c.args.host.now) c.args.slot.number (c.args.piece.now.items ++ table_text c.args.table.now)
