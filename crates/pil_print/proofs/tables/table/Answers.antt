use Rattle.std.proofs.Common.{◌≡◌, ◌<◌, List, ◌++◌, map, filter, sum_by, Bor, ap, sym, ◌∙◌, subst}
use Rattle.pil_ast.specs.declared.tree.Item.{Item}
use Rattle.pil_ast.specs.Tree.{line}
use Rattle.pil_ast.specs.Term.{Line, columns_of}
use Rattle.pil_print.specs.Statements.{is_constant, is_commit, declared}
use Rattle.pil_print.specs.Tables.{firsts_from}
use Rattle.pil_print.proofs.Starts.{table-few}
use Rattle.pil_print.proofs.tables.table.Goals as goal

pub first_columns-requires : goal.first_columns-requires
first_columns-requires c =
    let ls = map line c.args.items.now in
    let whole : map (λ (i : Bor Item). line i.now) c.add_commits.new.found ≡ declared (map line c.args.items.now)
    = c.in_ok-add_commits.ensures ∙ ap (λ (s : List Line). s ++ filter is_commit (map line c.args.items.now)) (c.in_ok-add_constants.ensures ∙ ap (λ (s : List (Bor Item)). map (λ (i : Bor Item). line i.now) s ++ filter is_constant (map line c.args.items.now)) c.new-declared.ensures) in
    subst (λ xs. sum_by (λ (i : Bor Item). columns_of (line i.now)) xs < 4294967296) (sym c.as_slice.ensures) (table-few (λ (i : Bor Item). line i.now) c.add_commits.new.found ls whole c.requires)

pub returns : goal.returns
returns c =
    let whole : map (λ (i : Bor Item). line i.now) c.add_commits.new.found ≡ declared (map line c.args.items.now)
    = c.in_ok-add_commits.ensures ∙ ap (λ (s : List Line). s ++ filter is_commit (map line c.args.items.now)) (c.in_ok-add_constants.ensures ∙ ap (λ (s : List (Bor Item)). map (λ (i : Bor Item). line i.now) s ++ filter is_constant (map line c.args.items.now)) c.new-declared.ensures) in
    record {
      items = whole;
      firsts = c.in_ok-firsts.ensures ∙ ap (λ (s : List (Bor Item)). firsts_from 0 (map (λ (i : Bor Item). line i.now) s)) c.as_slice.ensures ∙ ap (firsts_from 0) whole;
    }
