use Rattle.std.proofs.Common.{sym}
use Rattle.pil_lines.proofs.Lined.{item_at-here}
use Rattle.pil_lines.proofs.places.item_in.Goals as goal

pub returns : goal.returns
returns c = sym (item_at-here c.args.items.now c.args.item c.index-items-item.result c.requires c.index-items-item.is)
