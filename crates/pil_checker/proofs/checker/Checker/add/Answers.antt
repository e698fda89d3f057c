use Rattle.std.proofs.Common.{ℕ, ◌<◌, Option, Some, None, length, refl, subst, MatchOption}
use Rattle.pil_ast.specs.Tree.{namespaces}
use Rattle.instance_pass.specs.declared.passes.Found.{Found}
use Rattle.pil_checker.specs.Programs.{nodes_at}
use Rattle.pil_checker.proofs.Stood.{built-added, stands-added}
use Rattle.pil_checker.proofs.checker.Checker.add.Goals as goal

low : (m n : ℕ) (found : Option Found) → MatchOption found (Unit {0}) (λ f. (f.check < m) × (f.row < n)) → MatchOption found (Unit {0}) (λ f. f.check < m)
low m n None h = tt
low m n (Some f) h = h.0

pub returns-clause-built : goal.returns-clause-built
returns-clause-built g c =
    let d = g.C.Columns.values c.args.columns.now in
    let k0 = c.args.self.now in
    let s = c.args.space in
    let e = c.in_ok-found.ensures in
    built-added (namespaces c.args.pil.now) k0 c.look.new.self c.note.new.self s c.args.instance c.in_ok-found.found e.same c.note.ensures.plan c.note.ensures.counts c.note.ensures.found d (d.rows s) (nodes_at k0.plan.programs.items s)
    c.requires.built (e.parts d (record { rows = refl; values = λ k r l l'. refl })) c.note.ensures.room (low _ (d.rows s) c.in_ok-found.found e.inside)

pub returns-clause-stands : goal.returns-clause-stands
returns-clause-stands g c = λ cs stands same.
    let ns = namespaces c.args.pil.now in
    let d = g.C.Columns.values c.args.columns.now in
    let s = c.args.space in
    let e = c.in_ok-found.ensures in
    let l : s < length ns = subst (λ n. s < n) c.requires.fits.spaces c.requires.space in
    stands-added ns c.args.self.now c.look.new.self c.note.new.self s c.args.instance c.in_ok-found.found e.same c.note.ensures.plan c.note.ensures.counts c.note.ensures.found d cs
    c.requires.built c.requires.next l same.rows stands (e.found cs same stands.tabled) (e.parts cs same)
