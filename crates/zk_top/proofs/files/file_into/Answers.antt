use Rattle.zk_top.proofs.ReadOut.{is_asked, read_into}
use Rattle.zk_top.proofs.files.file_into.Goals as goal

pub returns-in-Ok-read_into-clause-read : goal.returns-in-Ok-read_into-clause-read
returns-in-Ok-read_into-clause-read g c = λ told.
    read_into _ _ _ c.args.name.now c.in-Ok.slot.number c.args.limit (g.H.Host.world c.args.host.now) (g.H.Host.world c.open.new.self) (g.H.Host.world c.read_into.new.host) (c.in-Ok.ensures.ok told) (c.in-Ok.ensures.told told) c.in-Ok-read_into.ensures.all

pub returns-in-Err-NoMemory-read_into-clause-not_read : goal.returns-in-Err-NoMemory-read_into-clause-not_read
returns-in-Err-NoMemory-read_into-clause-not_read g c = λ told.
    is_asked c.args.name.now c.in-Ok.slot.number (g.H.Host.world c.args.host.now) (g.H.Host.world c.open.new.self) (g.H.Host.world c.read_into.new.host) (c.in-Ok.ensures.ok told) (c.in-Err-NoMemory-read_into.ensures.front (c.in-Ok.ensures.told told))
