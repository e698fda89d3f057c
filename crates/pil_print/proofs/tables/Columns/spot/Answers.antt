use Rattle.std.proofs.Common.{ℕ, ◌≡◌, ◌-◌, List, length, get_or, map, Bor, ap, sym, ◌∙◌, arith, subst}
use Rattle.pil_ast.specs.declared.tree.Item.{Item}
use Rattle.pil_ast.specs.Tree.{line}
use Rattle.pil_print.proofs.Starts.{first-some, spot-at, length-firsts}
use Rattle.std.proofs.lemmas.List.{length-map}
use Rattle.pil_print.proofs.tables.Columns.spot.Goals as goal

pub last_up_to-at-requires-clause-some : goal.last_up_to-at-requires-clause-some
last_up_to-at-requires-clause-some c = (first-some c.as_slice.result.now (map (λ (i : Bor Item). line i.now) c.args.self.now.items) c.args.column (c.as_slice.ensures ∙ c.requires.table) c.requires.within).0

pub last_up_to-at-requires-clause-first : goal.last_up_to-at-requires-clause-first
last_up_to-at-requires-clause-first c = (first-some c.as_slice.result.now (map (λ (i : Bor Item). line i.now) c.args.self.now.items) c.args.column (c.as_slice.ensures ∙ c.requires.table) c.requires.within).1

pub bounds-as_slice-at : goal.bounds-as_slice-at
bounds-as_slice-at c =
    let ls = map (λ (i : Bor Item). line i.now) c.args.self.now.items in
    omega (arith, c.last_up_to-at.ensures.within, ap length (c.as_slice.ensures ∙ c.requires.table), length-firsts 0 (map (λ (i : Bor Item). line i.now) c.args.self.now.items), length-map c.args.self.now.items (λ (i : Bor Item). line i.now), ap length c.as_slice-2.ensures)

pub returns-clause-item : goal.returns-clause-item
returns-clause-item c =
    (spot-at (λ (i : Bor Item). line i.now) c.args.self.now.items c.as_slice.result.now c.args.column c.last_up_to-at.result c.index-as_slice-at.result (c.as_slice.ensures ∙ c.requires.table)
    c.last_up_to-at.ensures.within c.last_up_to-at.ensures.low c.last_up_to-at.ensures.high c.requires.within
    (subst (λ xs. c.index-as_slice-at.result ≡ get_or xs c.last_up_to-at.result c.index-as_slice-at.result) c.as_slice-2.ensures c.index-as_slice-at.is)).0

pub returns-clause-index : goal.returns-clause-index
returns-clause-index c =
    ap (λ (s : List ℕ). c.args.column - get_or s c.last_up_to-at.result 0) (c.as_slice-3.ensures ∙ sym c.as_slice.ensures)
    ∙ (spot-at (λ (i : Bor Item). line i.now) c.args.self.now.items c.as_slice.result.now c.args.column c.last_up_to-at.result c.index-as_slice-at.result (c.as_slice.ensures ∙ c.requires.table)
    c.last_up_to-at.ensures.within c.last_up_to-at.ensures.low c.last_up_to-at.ensures.high c.requires.within
    (subst (λ xs. c.index-as_slice-at.result ≡ get_or xs c.last_up_to-at.result c.index-as_slice-at.result) c.as_slice-2.ensures c.index-as_slice-at.is)).1
