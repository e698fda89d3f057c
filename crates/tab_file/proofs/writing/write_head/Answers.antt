use Rattle.tab_file.proofs.Heights.{counts_small}
use Rattle.tab_file.proofs.writing.write_head.Goals as goal

pub put_header-requires : goal.put_header-requires
put_header-requires c = counts_small c.args.witness.now c.requires
