-- What is kept of a text while it is printed: where its names are found.
use Rattle.std.specs.Prelude.{ℕ, ◌+◌, ◌≡◌, List, [], ◌∷◌, map, length, Some, slice_get}
use Rattle.pil_ast.specs.Term as ast
use Rattle.pil_ast.specs.Tree.{line, namespace}
use Rattle.pil_print.specs.Statements.{declared, published}
use Rattle.pil_print.specs.declared.tables.Columns.{Columns}
use Rattle.pil_print.specs.declared.tables.Names.{Names}

-- the number of the first column of each item, where those before have n columns
abbrev pub firsts_from : ℕ → List ast.Line → List ℕ
firsts_from n [] = []
firsts_from n (l ∷ ls) = n ∷ firsts_from (n + ast.columns_of l) ls

-- a table of the items that declare columns
pub record IsTable (ls : List ast.Line) (c : Columns) : Type 0 where
  pub items : map (λ i. line i.now) c.items ≡ ls
  pub firsts : c.firsts ≡ firsts_from 0 ls

-- the text that is printed
abbrev pub text_names : Names → List ast.Namespace
text_names names = map namespace names.spaces.now

pub record IsNames (names : Names) : Type 0 where
  pub spaces : length names.columns ≡ length (text_names names)
  pub columns : (s : ℕ) (c : Columns) → slice_get names.columns s ≡ Some c → IsTable (declared (ast.space_at (text_names names) s).items) c
  pub publics : map (λ i. line i.now) names.publics ≡ published (text_names names)
