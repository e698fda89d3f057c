use Rattle.std.proofs.Common.{◌<◌, false, length, sym, subst}
use Rattle.std.proofs.lemmas.Result.{IfOk-weaker}
use Rattle.pil_ast.specs.Term.{item_at, space_at}
use Rattle.pil_ast.specs.Sound.{IsInter}
use Rattle.pil_ast.specs.Tree.{term, namespaces}
use Rattle.pil_program.specs.Program.{IsReady}
use Rattle.pil_program.proofs.Inters.{over-here, ready-here, names-inters, program-kept}
use Rattle.pil_program.proofs.compiling.Program.place.Goals as goal

pub place-requires-clause-over : goal.place-requires-clause-over
place-requires-clause-over c = over-here (namespaces c.args.pil.now) c.args.space (term c.args.expr.now) c.requires.term c.requires.unnamed

pub place-requires-clause-ready : goal.place-requires-clause-ready
place-requires-clause-ready c =
    let ns = namespaces c.args.pil.now in
    let x = c.args.self.now in
    subst (λ here. IsReady ns c.args.space x.nodes false here c.as_slice-2.result.now (term c.args.expr.now)) (sym c.as_slice.ensures)
    (subst (λ next. IsReady ns c.args.space x.nodes false x.here next (term c.args.expr.now)) (sym c.as_slice-2.ensures)
    (ready-here ns c.args.space x.nodes (λ k. (k < length (space_at ns c.args.space).items) × IsInter (item_at (space_at ns c.args.space).items k)) x.here x.next (term c.args.expr.now) c.requires.program.inters c.requires.program.long.0 c.requires.program.long.1 c.requires.term
    (names-inters ns c.args.space (term c.args.expr.now) c.requires.term)))

pub returns-clause-program : goal.returns-clause-program
returns-clause-program c =
    let ns = namespaces c.args.pil.now in
    IfOk-weaker c.place.result _ _ (λ k h. program-kept ns c.args.space c.args.self.now.nodes c.place.new.nodes c.args.self.now.here c.args.self.now.next h.keeps c.requires.program) c.place.ensures
