-- What an expression's value is to one who reads columns, publics and the values of intermediates.
use Rattle.std.specs.Prelude.{ℕ, ◌<◌, ◌≡◌, cond, List, length, All, slice_index, slice_get}
use Rattle.pil_ast.specs.declared.tree.Place.{Place}
use Rattle.pil_ast.specs.declared.reader.Position.{Position}
use Rattle.pil_ast.specs.declared.reader.Reader.{Reader}
use Rattle.pil_ast.specs.Term.{Term}
use Rattle.pil_ast.specs.Columns.{Columns}
use Rattle.pil_ast.specs.Value.{value_by, value_of_place}
use Rattle.pil_ast.specs.Sound.{Each}

-- a public's place is in range
abbrev pub IsPlaceIn : Columns → Place → Type 0
IsPlaceIn c a = (a.space < c.spaces) × (a.column < c.width a.space) × (a.row < c.rows a.space)

-- both rows of a position are in range
pub record IsPosition (c : Columns) (x : Position) : Type 0 where
  pub space : x.space < c.spaces
  pub instance : x.instance < c.instances x.space
  pub row : x.row < c.rows x.space
  pub after : x.after < c.rows x.space

-- what a reader reads is in range
pub record IsReader (c : Columns) (x : Reader) : Type 0 where
  pub position : IsPosition c x.position
  pub as_long : length x.next.now ≡ length x.here.now
  pub publics : All (IsPlaceIn c) x.publics.now

-- a term over the namespace s, with its first `count` items and m publics
abbrev pub IsReadable : Columns → ℕ → ℕ → ℕ → Term → Type 0
IsReadable c s count m e = Each (λ n. Unit {0}) (λ n k b. (n ≡ s) × (k < c.width n)) (λ n k b. k < count) (λ k. k < m) e

-- the value of a term that is read
abbrev pub read_value : Columns → Position → List ℕ → List ℕ → List Place → Term → ℕ
read_value c x here next places e =
    value_by
    (λ s k b. c.at s x.instance k (cond b x.after x.row))
    (λ s k b. slice_index (cond b next here) k)
    (λ k. value_of_place c (slice_get places k))
    e

-- the position at the row that a mark means
abbrev pub moved_on : Position → Position
moved_on x = record x { row = x.after }
