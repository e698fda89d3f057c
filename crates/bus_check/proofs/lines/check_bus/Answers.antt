use Rattle.std.proofs.Common.{◌<◌, ◌-◌, length, sym, subst, arith, IfOk, MatchOption}
use Rattle.pil_ast.specs.Tree.{namespaces, line}
use Rattle.pil_ast.specs.Term.{Line}
use Rattle.pil_ast.specs.Holds.{Holds, lines}
use Rattle.pil_laws.proofs.Lines.{item-found, item-there}
use Rattle.row_check.specs.Breaks.{IsBreakOf}
use Rattle.bus_check.proofs.InText.{line-bus}
use Rattle.bus_check.proofs.lines.check_bus.Goals as goal

pub check_alone-requires-clause-bus : goal.check_alone-requires-clause-bus
check_alone-requires-clause-bus g c =
    line-bus (namespaces c.args.pil.now) (c.args.line - 1) (line c.in-Some.item.now) c.requires.sound (sym c.in-Some.ensures) c.requires.bus

pub returns-in-Some : goal.returns-in-Some
returns-in-Some g c =
    let P : Line → Type 0 = λ l. IfOk c.check_alone.result (λ found. MatchOption found (Holds (namespaces c.args.pil.now) (g.C.Columns.values c.args.columns.now) l) (λ broken. IsBreakOf (namespaces c.args.pil.now) (g.C.Columns.values c.args.columns.now) l c.args.line broken)) in
    subst P (sym (item-found (lines (namespaces c.args.pil.now)) (c.args.line - 1) (line c.in-Some.item.now) (sym c.in-Some.ensures))) c.check_alone.ensures

pub returns-in-None : goal.returns-in-None
returns-in-None g c =
    let fits : c.args.line - 1 < length (lines (namespaces c.args.pil.now)) = omega (arith, c.requires.first, c.requires.inside) in
    absurd (item-there (lines (namespaces c.args.pil.now)) (c.args.line - 1) fits (sym c.in-None.ensures))
