-- Columns of the machine's text that are held whole.
use Rattle.std.specs.Prelude.{ℕ, ◌+◌, ◌<◌, ◌≤◌, ◌≡◌, ◌*◌, ◌^◌, ◌==◌, if◌then◌else◌, List, [], length, slice_index, slice_index_or, All}
use Rattle.gold.specs.Field.{AreCanonical}
use Rattle.gold.specs.declared.shapes.Profile.{Profile}
use Rattle.pil_ast.specs.Term.{Namespace, space_at, width}
use Rattle.pil_ast.specs.Columns.{Columns}
use Rattle.machine_text.specs.Machine.{machine}

-- these are all columns of an instance of a namespace, and their values are in the field
pub record AreWhole (n : Namespace) (columns : List (List ℕ)) : Type 0 where
  pub wide : length columns ≡ width n.items
  pub high : All (λ c. length c ≡ n.rows) columns
  pub canonical : AreCanonical columns

-- the value at row r of the column k
abbrev pub cell_of : List (List ℕ) → ℕ → ℕ → ℕ
cell_of columns k r = slice_index (slice_index_or columns k []) r

-- the columns of one instance of a namespace of the text in this profile
pub record Framed : Type 0 where
  pub profile : Profile
  pub space : ℕ
  pub instance : ℕ
  pub columns : List (List ℕ)

-- the instance's columns are whole
pub record IsFramed (f : Framed) : Type 0 where
  pub space : f.space < 13
  pub instance : f.instance + 1 < 2 ^ 32
  pub columns : AreWhole (space_at (machine f.profile) f.space) f.columns

-- Values of a text's columns that are at this instance the frame's. Instances before it have the same values; no other
-- namespace has an instance.
abbrev pub values_of_frame : Framed → Columns
values_of_frame f = record {
  spaces = 13;
  instances = λ s. if s == f.space then f.instance + 1 else 0;
  width = λ s. width (space_at (machine f.profile) s).items;
  rows = λ s. (space_at (machine f.profile) s).rows;
  at = λ s i k r. cell_of f.columns k r;
}

-- the columns of the instances of the first namespaces, by namespace and instance
pub record Held : Type 0 where
  pub profile : Profile
  pub spaces : List (List (List (List ℕ)))

-- the columns of an instance
abbrev pub columns_at : Held → ℕ → ℕ → List (List ℕ)
columns_at h s i = slice_index_or (slice_index_or h.spaces s []) i []

-- each instance's columns are whole
pub record IsHeld (h : Held) : Type 0 where
  pub spaces : length h.spaces ≤ 13
  pub few : (s : ℕ) → length (slice_index_or h.spaces s []) < 2 ^ 32
  pub columns : (s i : ℕ) → i < length (slice_index_or h.spaces s []) → AreWhole (space_at (machine h.profile) s) (columns_at h s i)

-- the values of a text's columns; namespaces of which none are held have no instance
abbrev pub values_of_held : Held → Columns
values_of_held h = record {
  spaces = 13;
  instances = λ s. length (slice_index_or h.spaces s []);
  width = λ s. width (space_at (machine h.profile) s).items;
  rows = λ s. (space_at (machine h.profile) s).rows;
  at = λ s i k r. cell_of (columns_at h s i) k r;
}

-- so many instances of so many rows each are not too many
pub record AreFew (n rows : ℕ) : Type 0 where
  pub instances : n ≤ 2 ^ 22
  pub in_all : n * rows ≤ 2 ^ 44
