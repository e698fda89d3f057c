use Rattle.std.proofs.Common.{map, rules}
use Rattle.pil_syntax.specs.Grammar.{limits}
use Rattle.pil_syntax.specs.Shown.{tuple}
use Rattle.pil_syntax.specs.Tree.{bus}
use Rattle.pil_syntax.proofs.Stepping.{bus_waits}
use Rattle.pil_syntax.proofs.line.bus.Goals as goal

pub returns-clause-ends : goal.returns-clause-ends
returns-clause-ends c = λ d.
    let ls = map tuple c.args.left in
    let rs = map tuple c.in_ok-right.right in
    let h = c.in_ok-right.ensures.right d ls in
    let w = bus_waits limits d ls rs c.in_ok-right.rest.now c.in_ok-right.ensures.ends in
    let e = c.in_ok-rest.ensures.ends d (bus ls rs) in
    search rules

pub returns-in_err-rest-clause-ends : goal.returns-in_err-rest-clause-ends
returns-in_err-rest-clause-ends c = λ d.
    let ls = map tuple c.args.left in
    let rs = map tuple c.in_ok-right.right in
    let h = c.in_ok-right.ensures.right d ls in
    let w = bus_waits limits d ls rs c.in_ok-right.rest.now c.in_ok-right.ensures.ends in
    let e = c.in_err-rest.ensures.ends d (bus ls rs) in
    search rules
