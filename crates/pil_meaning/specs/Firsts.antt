-- The number of the first column of each item that declares columns.
use Rattle.std.specs.Prelude.{ℕ, ◌<◌, ◌+◌, ◌^◌, List, [], map, length, slice_index_or, sum_by, Option, Some, None}
use Rattle.std.specs.List.{range_with_len}
use Rattle.pil_syntax.specs.declared.tree.ColumnKind.TheVariants.{Constant, Commit}
use Rattle.pil_names.specs.Outline.{Draft, column, Outline, draft_at}
use Rattle.pil_meaning.specs.Meaning.{constant_columns, committed_columns, start_of_kind}

-- a, b or none: for constant columns, for committed ones, for another item
abbrev pub first_of : ℕ → ℕ → Draft → Option ℕ
first_of a b (column Constant d) = Some a
first_of a b (column Commit d) = Some b
first_of a b _ = None

abbrev pub first_at : List Draft → ℕ → Option ℕ
first_at ds k = first_of (start_of_kind Constant ds k) (start_of_kind Commit ds k) (draft_at ds k)

abbrev pub firsts_of_items : List Draft → List (Option ℕ)
firsts_of_items ds = map (first_at ds) (range_with_len 0 (length ds))

abbrev pub firsts_of : Outline → List (List (Option ℕ))
firsts_of o = map (λ h. firsts_of_items h.items) o.homes

-- what a list of them has for the item k of the namespace s
abbrev pub first_in : List (List (Option ℕ)) → ℕ → ℕ → Option ℕ
first_in fs s k = slice_index_or (slice_index_or fs s []) k None

-- the numbers of the columns of these items have 32 bits
abbrev pub FewColumns : List Draft → Type 0
FewColumns ds = sum_by constant_columns ds + sum_by committed_columns ds < 2 ^ 32
