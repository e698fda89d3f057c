use Rattle.std.proofs.Common.{◌≤◌, arith}
use Rattle.image_rows.proofs.Zero.{doublewords_same}
use Rattle.image_rows.proofs.initial.Found.add_span.Goals as goal

pub add_to-requires-clause-found : goal.add_to-requires-clause-found
add_to-requires-clause-found c =
    let e = c.max-self.ensures in
    doublewords_same c.args.image.now c.args.self.now.doublewords.items c.args.self.now.below c.max-self.result (omega (arith, e)) c.requires.found (λ k low high. c.requires.zero k low (omega (arith, e)))
