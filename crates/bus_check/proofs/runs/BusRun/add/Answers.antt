use Rattle.std.proofs.Common.{ℕ, ◌≡◌, List, [], ◌∷◌, ◌++◌, Some, length, slice_get, sym, ◌∙◌, ap, subst}
use Rattle.pil_ast.specs.Tree.{namespaces}
use Rattle.pil_ast.specs.Term.{item_at}
use Rattle.pil_ast.specs.Holds.{lines}
use Rattle.bus_check.specs.declared.runs.Sides.{Sides}
use Rattle.bus_check.specs.Run.{Added, HaveSent}
use Rattle.bus_check.proofs.Run.{lent-back, sides-more}
use Rattle.bus_check.proofs.runs.BusRun.add.Goals as goal

pub returns-clause-stands : goal.returns-clause-stands
returns-clause-stands g c = λ xs stands.
    let ns = namespaces c.args.pil.now in
    let x : Added = record { columns = g.C.Columns.values c.args.columns.now; space = c.args.space; instance = c.args.instance } in
    let old : List Sides = c.deref_mut.result.now in
    let same : old ≡ c.args.self.now.sides.items = c.deref_mut.ensures.value in
    let more = c.in_ok-take_lines.ensures.takes in
    let back = lent-back c.args.self.now.sides.len c.args.self.now.sides.items c.take_lines.new.sides (more.long ∙ c.deref_mut.ensures.len) in
    record {
      long = ap length back ∙ c.in_ok-take_lines.ensures.takes.long ∙ ap length same ∙ stands.long;
      each = subst (λ (ss : List Sides). (k : ℕ) (s : Sides) → slice_get ss k ≡ Some s → HaveSent ns (xs ++ x ∷ []) (item_at (lines ns) k) s) (sym back)
          (sides-more ns xs x old c.take_lines.new.sides
          (subst (λ (ss : List Sides). (k : ℕ) (s : Sides) → slice_get ss k ≡ Some s → HaveSent ns xs (item_at (lines ns) k) s) (sym same) stands.each) more);
    }
