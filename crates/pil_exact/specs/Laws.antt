-- What the kit rests on.
use Rattle.std.specs.Prelude.{List}
use Rattle.pil_ast.specs.Term.{Term, Line}
use Rattle.pil_ast.specs.Value.{Cells, value}
use Rattle.pil_exact.specs.Exact.{exact, IsMod}

-- An expression's value is its whole number modulo p.
abbrev pub ValueLaw : Type 0
ValueLaw = (items : List Line) (x : Cells) (e : Term) → IsMod (value items x e) (exact items x e)
