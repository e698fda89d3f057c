use Rattle.std.proofs.Common.{◌≡◌, ℕ, List, arith, subst, sym, Some}
use Rattle.tab_file.specs.Stands.{GoesOn}
use Rattle.tab_file.proofs.Readers.{feeds_body}
use Rattle.tab_file.proofs.pieces.TabReader.take.Goals as goal

pub returns-in-Some-clause-feeds : goal.returns-in-Some-clause-feeds
returns-in-Some-clause-feeds c shape fed same s =
    let r = c.args.self.now in
    let here = subst (λ b. GoesOn r.profile b r.header.items shape fed) c.in-Some.is s in
    feeds_body r.profile c.in-Some.body c.take.new.self r.header.items shape fed c.args.piece.now c.args.tables.now c.take.new.tables c.take.result here (λ i. omega (arith, c.type_inv.piece i)) c.requires.empty c.take.ensures.waits c.take.ensures.counts c.take.ensures.takes
