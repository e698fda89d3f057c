use Rattle.std.proofs.Common.{ℕ, ◌≡◌, map, length, slice_get, Some}
use Rattle.pil_ast.specs.Tree.{namespace}
use Rattle.pil_ast.specs.Term.{space_at}
use Rattle.pil_print.specs.declared.tables.Columns.{Columns}
use Rattle.pil_print.specs.Statements.{declared}
use Rattle.pil_print.specs.Tables.{IsTable}
use Rattle.pil_print.proofs.tables.tables.Given as goal

abbrev pub invariant-loop-space : goal.invariant-loop-space
invariant-loop-space l =
    record {
      long : length l.tables ≡ l.space-index;
      each : (s : ℕ) (c : Columns) → slice_get l.tables s ≡ Some c → IsTable (declared (space_at (map namespace l.spaces) s).items) c;
    }
