use Rattle.std.proofs.Common.{◌≡◌, ◌+◌, ◌∷◌, [], length, length-append, sym, ◌∙◌, ap, subst, arith}
use Rattle.pil_ast.specs.Tree.{namespaces, line}
use Rattle.pil_ast.specs.Term.{item_at}
use Rattle.pil_ast.specs.Holds.{lines}
use Rattle.pil_laws.proofs.Lines.{item-found}
use Rattle.instance_pass.specs.Checks.{IsCheckOf, IsTabled}
use Rattle.pil_checker.specs.Programs.{nodes_at}
use Rattle.pil_checker.specs.Plans.{IsSpanOf}
use Rattle.pil_checker.proofs.Elements.{more-found}
use Rattle.pil_checker.proofs.Given.{apart-more}
use Rattle.pil_checker.proofs.Grown.{grows-both}
use Rattle.pil_checker.proofs.Lined.{known-grown, check-kept, tabled-kept, span-kept}
use Rattle.pil_checker.proofs.plans.Plan.push_item.Goals as goal

pub place_span-requires-clause-known : goal.place_span-requires-clause-known
place_span-requires-clause-known g c = known-grown (namespaces c.args.pil.now) c.args.self.now.programs.items c.place_check.new.programs.items c.args.self.now.parts.items c.in_ok-check.ensures.placing.grows c.requires.planned.known

pub returns-clause-planned : goal.returns-clause-planned
returns-clause-planned g c =
    let ns = namespaces c.args.pil.now in
    let h = c.requires.planned in
    let p0 = c.args.self.now.programs.items in
    let p1 = c.place_check.new.programs.items in
    let p2 = c.place_span.new.programs.items in
    let checks = c.args.self.now.checks.items in
    let spans = c.args.self.now.spans.items in
    let tables = c.place_check.new.tables.items in
    let parts = c.place_span.new.parts.items in
    let f = c.in_ok-check.ensures in
    let e = c.in_ok-span.ensures in
    let both = grows-both ns p0 p1 p2 f.placing.grows e.placing.grows in
    let at : item_at (lines ns) (length checks) ≡ line c.args.item.now = item-found (lines ns) (length checks) (line c.args.item.now) c.requires.next in
    let at' : item_at (lines ns) (length spans) ≡ line c.args.item.now = ap (item_at (lines ns)) h.spans_long ∙ at in
    record {
      programs = e.placing.programs;
      checks_long = ap length c.in_ok-push.ensures.items ∙ length-append checks (c.in_ok-check.check ∷ []);
      checks = more-found (λ k check. IsCheckOf ns (nodes_at p2) (length tables) check (item_at (lines ns) k)) checks c.push.new.self.items c.in_ok-check.check c.in_ok-push.ensures.items
          (λ k check is. check-kept ns p0 p2 (length c.args.self.now.tables.items) (length tables) check (item_at (lines ns) k) both f.tables.longer (h.checks k check is))
          (subst (IsCheckOf ns (nodes_at p2) (length tables) c.in_ok-check.check) (sym at) (check-kept ns p1 p2 (length tables) (length tables) c.in_ok-check.check (line c.args.item.now) e.placing.grows (omega arith) f.check));
      spans_long = ap length c.in_ok-push-2.ensures.items ∙ length-append spans (c.in_ok-span.span ∷ []) ∙ ap (λ n. n + 1) h.spans_long;
      spans = more-found (λ k x. IsSpanOf ns (nodes_at p2) parts x (item_at (lines ns) k)) spans c.push-2.new.self.items c.in_ok-span.span c.in_ok-push-2.ensures.items
          (λ k x is. span-kept ns p0 p2 c.args.self.now.parts.items parts x (item_at (lines ns) k) both e.extends (h.spans k x is))
          (subst (IsSpanOf ns (nodes_at p2) parts c.in_ok-span.span) (sym at') e.span);
      apart = apart-more spans c.push-2.new.self.items c.in_ok-span.span (length c.args.self.now.parts.items) (length parts) c.in_ok-push-2.ensures.items h.apart e.within.0 e.extends.longer e.within.1;
      known = e.known;
    }

pub returns-clause-tabled : goal.returns-clause-tabled
returns-clause-tabled g c =
    let ns = namespaces c.args.pil.now in
    let d = g.C.Columns.values c.args.columns.now in
    let checks = c.args.self.now.checks.items in
    let tables = c.place_check.new.tables.items in
    let f = c.in_ok-check.ensures in
    let at : item_at (lines ns) (length checks) ≡ line c.args.item.now = item-found (lines ns) (length checks) (line c.args.item.now) c.requires.next in
    more-found (λ k check. IsTabled ns d tables check (item_at (lines ns) k)) checks c.push.new.self.items c.in_ok-check.check c.in_ok-push.ensures.items
    (λ k check is. tabled-kept ns (nodes_at c.args.self.now.programs.items) d c.args.self.now.tables.items tables check (item_at (lines ns) k) f.tables (c.requires.planned.checks k check is) (c.requires.tabled k check is))
    (subst (IsTabled ns d tables c.in_ok-check.check) (sym at) f.tabled)
