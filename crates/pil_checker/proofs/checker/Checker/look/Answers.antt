use Rattle.std.proofs.Common.{◌≡◌, ◌<◌, Some, length, get_or, slice_get, sym, ◌∙◌, ap, subst, arith}
use Rattle.std.proofs.lemmas.Result.{IfOk-weaker}
use Rattle.std.proofs.lemmas.Option.{slice_get-get_or}
use Rattle.pil_ast.specs.Tree.{namespaces}
use Rattle.pil_ast.specs.Term.{item_at}
use Rattle.pil_ast.specs.Holds.{lines}
use Rattle.instance_pass.specs.Checks.{IsCheckIn}
use Rattle.instance_pass.specs.Passes.{AreChecksOf}
use Rattle.pil_checker.specs.Programs.{nodes_at}
use Rattle.pil_checker.proofs.Added.{check-inside, part-inside}
use Rattle.pil_checker.proofs.Looked.{program-nodes, program-steps, moved-found, lent-back, moved-parts, ok-more}
use Rattle.pil_checker.proofs.checker.Checker.look.Goals as goal

pub pass-requires-clause-program : goal.pass-requires-clause-program
pass-requires-clause-program g c =
    let ns = namespaces c.args.pil.now in
    let s = c.args.space in
    let l : s < length ns = subst (λ n. s < n) c.requires.fits.spaces c.requires.space in
    program-steps ns c.args.self.now.plan.programs.items s c.index.result.now c.as_slice.result.now _ c.requires.built.planned.programs l c.index.ensures c.as_slice.ensures (c.requires.fits.width s l)

pub pass-requires-clause-checks : goal.pass-requires-clause-checks
pass-requires-clause-checks g c = λ k check is.
    let ns = namespaces c.args.pil.now in
    let plan = c.args.self.now.plan in
    let h = c.requires.built in
    subst (λ m. IsCheckIn (length c.deref-2.result.now) c.args.space m check) (sym (ap length c.deref_mut-2.ensures.value))
    (subst (λ m. IsCheckIn m c.args.space (length c.args.self.now.blocks.items) check) (sym (ap length c.deref-2.ensures.value))
    (check-inside ns (nodes_at plan.programs.items) (length plan.tables.items) (length c.args.self.now.blocks.items) c.args.space check (item_at (lines ns) k) (h.planned.checks k check (ap (λ xs. slice_get xs k) (sym c.deref.ensures.value) ∙ is)) (h.room c.args.space)))

pub pass-requires-clause-parts : goal.pass-requires-clause-parts
pass-requires-clause-parts g c = λ k d l.
    let ns = namespaces c.args.pil.now in
    let plan = c.args.self.now.plan in
    let h = c.requires.built in
    let p = get_or c.deref_mut.result.now k d in
    let is : slice_get plan.parts.items k ≡ Some p = ap (λ xs. slice_get xs k) (sym c.deref_mut.ensures.value) ∙ slice_get-get_or c.deref_mut.result.now k d l in
    let w = h.planned.known k p is in
    part-inside ns (nodes_at plan.programs.items) (length c.deref_mut-2.result.now) c.args.space p w.0 w.1 (let r = h.room c.args.space in let e = ap length c.deref_mut-2.ensures.value in omega arith)

pub pass-requires-clause-room : goal.pass-requires-clause-room
pass-requires-clause-room g c =
    let ns = namespaces c.args.pil.now in
    let s = c.args.space in
    let l : s < length ns = subst (λ n. s < n) c.requires.fits.spaces c.requires.space in
    let e = ap length (program-nodes ns c.args.self.now.plan.programs.items s c.index.result.now c.as_slice.result.now c.requires.built.planned.programs l c.index.ensures c.as_slice.ensures) in
    let r = c.requires.built.room s in
    let f = ap length c.deref_mut-2.ensures.value in
    omega arith

pub returns-clause-found : goal.returns-clause-found
returns-clause-found g c =
    let ns = namespaces c.args.pil.now in
    let d = g.C.Columns.values c.args.columns.now in
    let s = c.args.space in
    let plan = c.args.self.now.plan in
    let l : s < length ns = subst (λ n. s < n) c.requires.fits.spaces c.requires.space in
    let are : AreChecksOf ns (nodes_at plan.programs.items) (length plan.tables.items) plan.checks.items = record { long = c.requires.built.planned.checks_long; each = c.requires.built.planned.checks } in
    IfOk-weaker c.pass.result _ _
    (λ found h. moved-found ns d s c.args.instance found (nodes_at plan.programs.items) c.as_slice.result.now plan.checks.items c.deref.result.now plan.tables.items c.deref-2.result.now _ c.limit-limit.result (d.rows s) c.rows.result
    (program-nodes ns plan.programs.items s c.index.result.now c.as_slice.result.now c.requires.built.planned.programs l c.index.ensures c.as_slice.ensures) c.deref.ensures.value c.deref-2.ensures.value c.limit-limit.ensures (c.rows.ensures ∙ sym (c.requires.fits.rows s l)) are h) c.pass.ensures.found

pub returns-clause-parts : goal.returns-clause-parts
returns-clause-parts g c =
    let ns = namespaces c.args.pil.now in
    let d = g.C.Columns.values c.args.columns.now in
    let s = c.args.space in
    let plan = c.args.self.now.plan in
    let l : s < length ns = subst (λ n. s < n) c.requires.fits.spaces c.requires.space in
    ok-more c.pass.result _ _
    (λ h. moved-parts ns d s c.args.instance (d.rows s) c.rows.result (nodes_at plan.programs.items s) c.as_slice.result.now plan.parts.items c.deref_mut.result.now _ c.pass.new.parts (c.rows.ensures ∙ sym (c.requires.fits.rows s l))
    (program-nodes ns plan.programs.items s c.index.result.now c.as_slice.result.now c.requires.built.planned.programs l c.index.ensures c.as_slice.ensures) c.deref_mut.ensures.value
    (λ long. lent-back plan.parts.len plan.parts.items c.pass.new.parts (long ∙ c.deref_mut.ensures.len)) h) c.pass.ensures.parts
