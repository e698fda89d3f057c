use Rattle.std.proofs.Common.{◌≡◌, ◌∙◌}
use Rattle.tab_file.proofs.Feeding.{known_counts}
use Rattle.tab_file.proofs.pieces.TabReader.counts.Goals as goal

pub returns-in-Some : goal.returns-in-Some
returns-in-Some c shape fed s =
    let k = known_counts c.args.self.now shape fed s c.in-Some.is in
    (k.0, c.counts.ensures ∙ k.1)

pub returns-in-None : goal.returns-in-None
returns-in-None c shape fed s = known_counts c.args.self.now shape fed s c.in-None.is
