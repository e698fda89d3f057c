use Rattle.tab_file.proofs.Feeding.{known}
use Rattle.tab_file.proofs.pieces.TabReader.profile.Goals as goal

pub returns : goal.returns
returns c shape fed s = (known c.args.self.now shape fed s).profile_is
