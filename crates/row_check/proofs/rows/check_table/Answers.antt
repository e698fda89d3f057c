use Rattle.std.proofs.Common.{◌<◌, ◌-◌, length, sym, subst, arith, IfOk, MatchOption}
use Rattle.pil_ast.specs.Tree.{namespaces, line}
use Rattle.pil_ast.specs.Term.{Line}
use Rattle.pil_ast.specs.Holds.{lines}
use Rattle.pil_laws.proofs.Lines.{item-found, item-there}
use Rattle.row_check.specs.Breaks.{HoldsIn, IsBreakIn, space_of}
use Rattle.row_check.proofs.Lines.{line-identity}
use Rattle.row_check.proofs.rows.check_table.Goals as goal

pub check_item_in-requires-clause-identity : goal.check_item_in-requires-clause-identity
check_item_in-requires-clause-identity g c = line-identity (namespaces c.args.pil.now) (c.args.line - 1) (line c.in-Some.item.now) c.requires.sound (sym c.in-Some.ensures) c.requires.identity

pub check_item_in-requires-clause-instance : goal.check_item_in-requires-clause-instance
check_item_in-requires-clause-instance g c =
    subst (λ (l : Line). c.args.instance < (g.C.Columns.values c.args.columns.now).instances (space_of l)) (item-found (lines (namespaces c.args.pil.now)) (c.args.line - 1) (line c.in-Some.item.now) (sym c.in-Some.ensures)) c.requires.instance

pub returns-in-Some : goal.returns-in-Some
returns-in-Some g c =
    let P : Line → Type 0 = λ l. IfOk c.check_item_in.result (λ found. MatchOption found (HoldsIn (namespaces c.args.pil.now) (g.C.Columns.values c.args.columns.now) c.args.instance l) (λ broken. IsBreakIn (namespaces c.args.pil.now) (g.C.Columns.values c.args.columns.now) c.args.instance l c.args.line broken)) in
    subst P (sym (item-found (lines (namespaces c.args.pil.now)) (c.args.line - 1) (line c.in-Some.item.now) (sym c.in-Some.ensures))) c.check_item_in.ensures

pub returns-in-None : goal.returns-in-None
returns-in-None g c =
    let fits : c.args.line - 1 < length (lines (namespaces c.args.pil.now)) = omega (arith, c.requires.first, c.requires.inside) in
    absurd (item-there (lines (namespaces c.args.pil.now)) (c.args.line - 1) fits (sym c.in-None.ensures))
