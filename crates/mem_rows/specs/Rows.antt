-- The rows of Mem and Out (docs/WITNESS.md, "Mem" and "Out").
use Rattle.std.specs.Prelude.{ℕ, ◌+◌, ◌-◌, ◌*◌, ◌/◌, ◌%◌, ◌^◌, ◌==◌, Bool, List, [], ◌∷◌, ◌++◌, map, length, replicate, Option, Some, None, if◌then◌else◌}
use Rattle.std.specs.List.{range_with_len}
use Rattle.gold.specs.declared.instances.Table.{Table}
use Rattle.zk_layout.specs.Air.{columns_per}
use Rattle.zk_layout.specs.declared.air.Air.TheVariants.{Mem, Out}
use Rattle.rv_model.specs.Image.{Img}
use Rattle.rv_model.specs.declared.answer.Public.{Public}
use Rattle.rv_model.specs.declared.machine.TheConstants.{OUTPUT_WORDS}
use Rattle.planner.specs.Jobs.{instances}
use Rattle.run_rows.specs.Tables.{table_of}
use Rattle.step_rows.specs.Words.{low, high, one_if}
use Rattle.mem_rows.specs.Accesses.{accesses, output_word}
use Rattle.mem_rows.specs.Order.{in_order}
use Rattle.mem_rows.specs.declared.access.Access.{Access}

-- the distance to the row before, less 1: of the times at the same key, else of the keys
abbrev pub gap : Access → Access → ℕ
gap p a = if a.key == p.key then a.time - p.time - 1 else a.key - p.key - 1

-- sel, key, time, wr, lo, hi: the access
abbrev pub own : Access → List ℕ
own a = 1 ∷ a.key ∷ a.time ∷ one_if a.write ∷ low a.value ∷ high a.value ∷ []

-- same, g[0], g[1], g[2]: whether the key is that of the row before, and the limbs of the gap
abbrev pub step_from : Access → Access → List ℕ
step_from p a = one_if (a.key == p.key) ∷ gap p a % 65536 ∷ gap p a / 65536 % 65536 ∷ gap p a / 2 ^ 32 ∷ []

-- psel, pkey, ptime, plo, phi: the row before
abbrev pub before : Access → List ℕ
before p = 1 ∷ p.key ∷ p.time ∷ low p.value ∷ high p.value ∷ []

-- a row, by the access before it and its own; the first row has none before it, and a row of padding none of its own
abbrev pub row : Option Access → Option Access → List ℕ
row None None = replicate 15 0
row None (Some a) = own a ++ replicate 9 0
row (Some p) None = replicate 10 0 ++ before p
row (Some p) (Some a) = own a ++ step_from p a ++ before p

-- the rows of accesses behind one, and the first row of padding, which has the last of them before it; all further rows of
-- padding are zeros
abbrev pub rows_behind : Option Access → List Access → List (List ℕ)
rows_behind p [] = row p None ∷ []
rows_behind p (a ∷ xs) = row p (Some a) ∷ rows_behind (Some a) xs

-- instance i of Mem, and all its instances, over accesses in order
abbrev pub mem_table : List Access → ℕ → Table
mem_table xs i = table_of Mem (columns_per Mem) i (rows_behind None xs)

abbrev pub mem_tables_of : List Access → List Table
mem_tables_of xs = map (mem_table xs) (range_with_len 0 (instances Mem (length xs)))

-- the Mem tables of a run of n steps that publishes this
abbrev pub mem_tables : Img → ℕ → Public → List Table
mem_tables image n public = mem_tables_of (in_order (accesses image n public))

-- the final values: x10, and the doublewords of the output window
abbrev pub final_values : Public → List ℕ
final_values public = public.exit ∷ map (output_word public) (range_with_len 0 OUTPUT_WORDS)

-- the instance of Out: lo, hi
abbrev pub out_table : Public → Table
out_table public = table_of Out (columns_per Out) 0 (map (λ v. low v ∷ high v ∷ []) (final_values public))
