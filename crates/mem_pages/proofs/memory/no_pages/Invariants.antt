use Rattle.std.proofs.Common.{◌≡◌, ℕ, length, slice_index_or, None}
use Rattle.mem_pages.proofs.memory.no_pages.Given as goal

abbrev pub invariant-loop : goal.invariant-loop
invariant-loop l = (length l.pages.items ≡ l.counter) × ((k : ℕ) → slice_index_or l.pages.items k None ≡ None)
