-- The constants of the machine's namespaces as whole columns.
use Rattle.std.specs.Prelude.{ℕ, ◌++◌, List, map}
use Rattle.std.specs.List.{range_with_len}
use Rattle.gold.specs.declared.instances.Table.{Table}
use Rattle.gold.specs.declared.shapes.Profile.{Profile}
use Rattle.zk_layout.specs.Namespaces.{namespace_at}
use Rattle.pil_ast.specs.Term.{space_at}
use Rattle.fixed_cols.specs.Constants.{Fixed, constant_in, instances_in}
use Rattle.machine_text.specs.Machine.{machine}
use Rattle.machine_columns.specs.Values.{constants_per}
use Rattle.whole_columns.specs.Whole.{Framed, Held}

-- the constant column k of instance i of the namespace s, in so many rows
abbrev pub constant_column : Fixed → ℕ → ℕ → ℕ → ℕ → List ℕ
constant_column f s i rows k = map (λ r. constant_in f (namespace_at s) i k r) (range_with_len 0 rows)

-- all constant columns of the instance
abbrev pub constants_at : Fixed → ℕ → ℕ → ℕ → List (List ℕ)
constants_at f s i rows = map (constant_column f s i rows) (range_with_len 0 (constants_per (namespace_at s)))

-- the rows of an instance of the namespace s
abbrev pub rows_at : Profile → ℕ → ℕ
rows_at profile s = (space_at (machine profile) s).rows

-- the constant columns of all instances of the namespace, of so many rows each
abbrev pub instances_with : Fixed → ℕ → ℕ → List (List (List ℕ))
instances_with f s rows = map (λ i. constants_at f s i rows) (range_with_len 0 (instances_in f (namespace_at s)))

abbrev pub instances_at : Fixed → Profile → ℕ → List (List (List ℕ))
instances_at f profile s = instances_with f s (rows_at profile s)

-- the first six namespaces, which have constants alone
abbrev pub held_of : Fixed → Profile → Held
held_of f profile = record { profile = profile; spaces = map (instances_at f profile) (range_with_len 0 6) }

-- the instance of the namespace s to which a table belongs: its constants, and the table's columns
abbrev pub framed_of : Fixed → Profile → ℕ → Table → Framed
framed_of f profile s t = record { profile = profile; space = s; instance = t.instance; columns = constants_at f s t.instance (rows_at profile s) ++ t.columns }
