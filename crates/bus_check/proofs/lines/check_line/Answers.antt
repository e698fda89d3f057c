use Rattle.std.proofs.Common.{◌-◌, refl, sym, subst, IfOk, MatchOption}
use Rattle.std.proofs.lemmas.Bool.{true≢false}
use Rattle.pil_ast.specs.Tree.{namespaces, line}
use Rattle.pil_ast.specs.Term.{Line}
use Rattle.pil_ast.specs.Holds.{Holds, lines}
use Rattle.pil_laws.proofs.Lines.{item-found}
use Rattle.row_check.specs.Breaks.{IsBreakOf}
use Rattle.bus_check.proofs.InText.{line-bus, line-identity, line-other}
use Rattle.bus_check.proofs.lines.check_line.Goals as goal

pub check_identity-requires-clause-identity : goal.check_identity-requires-clause-identity
check_identity-requires-clause-identity g c = line-identity (namespaces c.args.pil.now) (c.args.line - 1) (line c.args.item.now) c.requires.sound c.requires.there (c.if-is_identity.ensures.0 refl)

pub check_item-requires-clause-bus : goal.check_item-requires-clause-bus
check_item-requires-clause-bus g c =
    line-bus (namespaces c.args.pil.now) (c.args.line - 1) (line c.args.item.now) c.requires.sound c.requires.there
    (line-other (namespaces c.args.pil.now) (c.args.line - 1) (line c.args.item.now) c.requires.sound c.requires.there (λ is. true≢false (sym (c.if-is_identity.ensures.1 is))))

pub returns-then-is_identity-clause-found : goal.returns-then-is_identity-clause-found
returns-then-is_identity-clause-found g c =
    let ns = namespaces c.args.pil.now in
    let d = g.C.Columns.values c.args.columns.now in
    subst (λ (l : Line). MatchOption c.check_identity.result (Holds ns d l) (λ broken. IsBreakOf ns d l c.args.line broken)) (sym (item-found (lines ns) (c.args.line - 1) (line c.args.item.now) c.requires.there)) c.check_identity.ensures.found

pub returns-else-is_identity-clause-found : goal.returns-else-is_identity-clause-found
returns-else-is_identity-clause-found g c =
    let ns = namespaces c.args.pil.now in
    let d = g.C.Columns.values c.args.columns.now in
    subst (λ (l : Line). IfOk c.check_item.result (λ found. MatchOption found (Holds ns d l) (λ broken. IsBreakOf ns d l c.args.line broken))) (sym (item-found (lines ns) (c.args.line - 1) (line c.args.item.now) c.requires.there)) c.check_item.ensures.found
