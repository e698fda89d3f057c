use Rattle.mem_rows.proofs.Begun.{written}
use Rattle.mem_rows.proofs.accesses.Accesses.write.Goals as goal

pub returns-in_ok-put : goal.returns-in_ok-put
returns-in_ok-put c = written c.args.image.now _ _ c.args.k _ c.requires.below c.word-value.ensures c.if-value-ne0.true (c.has_none.ensures.0 c.if-has_none.true) c.requires.part c.in_ok-put.ensures
