use Rattle.host_io.specs.declared.sink.Kept.{Kept}
use Rattle.host_io.proofs.Loops.{kept_all}
use Rattle.host_io.proofs.reading.read_all.Goals as goal

pub returns-clause-fits : goal.returns-clause-fits
returns-clause-fits g c = (kept_all (λ (k : Kept). k.bytes.items) c.new-kept.result c.read_into.new.sink c.args.max _ _ _ c.args.slot.number c.new-kept.ensures c.in_ok-read_into.ensures.all).0

pub returns-clause-all : goal.returns-clause-all
returns-clause-all g c = (kept_all (λ (k : Kept). k.bytes.items) c.new-kept.result c.read_into.new.sink c.args.max _ _ _ c.args.slot.number c.new-kept.ensures c.in_ok-read_into.ensures.all).1

pub returns-clause-taken : goal.returns-clause-taken
returns-clause-taken g c = (kept_all (λ (k : Kept). k.bytes.items) c.new-kept.result c.read_into.new.sink c.args.max _ _ _ c.args.slot.number c.new-kept.ensures c.in_ok-read_into.ensures.all).2
