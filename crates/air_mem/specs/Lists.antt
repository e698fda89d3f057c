-- The lists of the memory bus that are over Mem, Init and Out, and the accesses that Init and Out send.
use Rattle.std.specs.Prelude.{ℕ, ◌<◌, ◌≤◌, ◌^◌, ◌==◌, true, false, List, [], ◌∷◌, ◌++◌, map}
use Rattle.std.specs.List.{range_with_len}
use Rattle.pil_ast.specs.Term.{Tuples}
use Rattle.pil_ast.specs.Columns.{Columns}
use Rattle.machine_text.specs.Init
use Rattle.machine_text.specs.Out
use Rattle.air_mem.specs.Access.{Access}
use Rattle.step_rows.specs.Words.{low, high}
use Rattle.step_rows.specs.declared.doubleword.Doubleword.{Doubleword}
use Rattle.air_mem.specs.Constants.{out_key}

-- an initial write, at time 0
abbrev pub initial_write : Doubleword → Access
initial_write d = record { key = d.number; time = 0; write = true; lo = low d.value; hi = high d.value }

-- a final read, at time 2^35
abbrev pub final_read : Columns → ℕ → Access
final_read c r = record { key = out_key r; time = 34359738368; write = false; lo = c.at 8 0 2 r; hi = c.at 8 0 3 r }

abbrev pub final_reads : Columns → List Access
final_reads c = map (final_read c) (range_with_len 0 33)

-- line 20's left side, where Main's lists are `ls`
abbrev pub bus_lists : List Tuples → List Tuples
bus_lists ls = ls ++ Init.writes ∷ Out.reads ∷ []

-- what Main, Init and Out send, where Main sends `ms`
abbrev pub all_accesses : List Access → List Doubleword → Columns → List Access
all_accesses ms ds c = ms ++ (map initial_write ds ++ final_reads c)

-- a tuple of the memory bus as an access
abbrev pub read_access : List ℕ → Access
read_access (k ∷ t ∷ w ∷ l ∷ h ∷ []) = record { key = k; time = t; write = w == 1; lo = l; hi = h }
read_access _ = record { key = 0; time = 0; write = false; lo = 0; hi = 0 }

-- it has five numbers, the third of them 0 or 1, and is in reach
abbrev pub IsShaped : List ℕ → Type 0
IsShaped (k ∷ t ∷ w ∷ l ∷ h ∷ []) = (k < 2 ^ 30) × (t ≤ 2 ^ 35) × (w ≤ 1)
IsShaped _ = ⊥
