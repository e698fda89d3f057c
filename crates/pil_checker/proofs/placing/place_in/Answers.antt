use Rattle.std.proofs.Common.{◌≡◌, ◌<◌, Some, length, set, slice_get, sym, subst, arith}
use Rattle.std.proofs.lemmas.Result.{IfOk-weaker}
use Rattle.pil_ast.specs.Tree.{namespaces, term}
use Rattle.pil_program.specs.Program.{Computes}
use Rattle.pil_checker.specs.Programs.{IsPlacing}
use Rattle.pil_checker.proofs.Elements.{read-found, ok-both}
use Rattle.pil_checker.proofs.Grown.{placed, nodes-set}
use Rattle.pil_checker.proofs.placing.place_in.Goals as goal

pub place-requires-clause-program : goal.place-requires-clause-program
place-requires-clause-program c =
    let inside : c.args.space < length c.args.programs.now.items = let l = c.requires.space in let e = c.requires.programs.long in omega arith in
    c.requires.programs.each c.args.space c.index_mut.result.now (read-found c.args.programs.now.items c.args.space c.index_mut.result.now inside c.index_mut.ensures.value)

pub returns-clause-placing : goal.returns-clause-placing
returns-clause-placing c =
    let ns = namespaces c.args.pil.now in
    let inside : c.args.space < length c.args.programs.now.items = let l = c.requires.space in let e = c.requires.programs.long in omega arith in
    let is : slice_get c.args.programs.now.items c.args.space ≡ Some c.index_mut.result.now = read-found c.args.programs.now.items c.args.space c.index_mut.result.now inside c.index_mut.ensures.value in
    ok-both c.place.result _ _ (IsPlacing ns c.args.programs.now.items (set c.args.programs.now.items c.args.space c.place.new.self))
    (λ k places program. placed ns c.args.programs.now.items c.args.space c.index_mut.result.now c.place.new.self c.requires.programs is places.keeps program) c.place.ensures.places c.place.ensures.program

pub returns-clause-computes : goal.returns-clause-computes
returns-clause-computes c =
    let ns = namespaces c.args.pil.now in
    let inside : c.args.space < length c.args.programs.now.items = let l = c.requires.space in let e = c.requires.programs.long in omega arith in
    IfOk-weaker c.place.result _ _ (λ k places. subst (λ nodes. Computes ns c.args.space nodes 0 (term c.args.expr.now) k) (sym (nodes-set c.args.programs.now.items c.args.space c.place.new.self inside)) places.computes) c.place.ensures.places
