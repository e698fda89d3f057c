use Rattle.std.proofs.Common.{◌≡◌, ◌∙◌, ap, subst}
use Rattle.gold.specs.declared.shapes.Shape.{Shape}
use Rattle.pil_ast.specs.Columns.{Columns}
use Rattle.pil_ast.specs.Tree.{namespaces}
use Rattle.wit_columns.specs.Values.{values_of}
use Rattle.zk_top.specs.Outcome.{shape_of, OfLines}
use Rattle.zk_top.specs.Parts.{Comes, IsOnlyTables, IsTablesRefusal}
use Rattle.zk_top.proofs.FileTables.{refusal_comes, tables_come}
use Rattle.zk_top.proofs.Constraints.{same_shape}
use Rattle.zk_top.proofs.checking.report_of_tables.Goals as goal

pub returns-in-Err-clause-comes : goal.returns-in-Err-clause-comes
returns-in-Err-clause-comes c =
    let ns = namespaces c.args.pil.now in
    let shape : c.in-Ok.shape ≡ shape_of ns = same_shape c.in-Ok.shape ns c.in-Ok.ensures.0 c.in-Ok.ensures.1 in
    refusal_comes (shape_of ns) c.args.file.items (λ names witness. OfLines names ns (values_of (shape_of ns) witness)) c.in-Err.status (subst (λ (s : Shape). IsTablesRefusal c.args.file.items s c.in-Err.status) shape c.in-Err.ensures.refused)

pub returns-clause-comes : goal.returns-clause-comes
returns-clause-comes c =
    let ns = namespaces c.args.pil.now in
    let witness = c.in-Ok-tables_of.witness in
    let columns = c.in-Ok-new.columns in
    let result = c.verdict.result in
    let shape : c.in-Ok.shape ≡ shape_of ns = same_shape c.in-Ok.shape ns c.in-Ok.ensures.0 c.in-Ok.ensures.1 in
    let values : values_of columns.shape columns.witness ≡ values_of (shape_of ns) c.in-Ok-tables_of.witness = c.in-Ok-new.ensures.values ∙ ap (λ (s : Shape). values_of s witness) shape in
    let only : IsOnlyTables c.args.file.items (shape_of ns) c.in-Ok-tables_of.witness = subst (λ (s : Shape). IsOnlyTables c.args.file.items s witness) shape c.in-Ok-tables_of.ensures.only in
    tables_come (shape_of ns) c.args.file.items (λ names w. OfLines names ns (values_of (shape_of ns) w)) witness result only (subst (λ (v : Columns). Comes (λ names. OfLines names ns v) result) values c.verdict.ensures.comes)
