-- The addresses of segments, and which of them meet.
use Rattle.std.specs.Prelude.{◌≡◌, ◌&&◌, true, Bool, nat_lt, ℕ, ◌+◌, ◌<◌, ◌≤◌, List, Contains, slice_index_or, length}
use Rattle.elf_load.specs.Header.{has_memory}
use Rattle.elf_load.specs.declared.header.ProgramHeader.{ProgramHeader}
use Rattle.elf_load.specs.declared.overlap.Extent.{Extent}

-- the extent of the segment of the header with this index
abbrev pub extent : ProgramHeader → ℕ → Extent
extent h i = record { start = h.p_vaddr; end = h.p_vaddr + h.p_memsz; index = i }

-- each of the first n headers that has a segment with memory has its extent there
abbrev pub HasExtents : List ProgramHeader → ℕ → List Extent → Type 0
HasExtents hs n es = (i : ℕ) (d : ProgramHeader) → i < n → has_memory (slice_index_or hs i d) ≡ true → Contains es (extent (slice_index_or hs i d) i)

-- the extent that begins no earlier begins before the other one ends
abbrev pub Meets : Extent → Extent → Type 0
Meets e f = f.start < e.end

-- two extents that meet are of headers from the n-th on
abbrev pub NoneMeets : List Extent → ℕ → Type 0
NoneMeets es n = (k l : ℕ) (d : Extent) → k < l → l < length es → Meets (slice_index_or es k d) (slice_index_or es l d) → (n ≤ (slice_index_or es k d).index) × (n ≤ (slice_index_or es l d).index)

-- there is a next extent, and it meets the k-th
abbrev pub MeetsNext : List Extent → ℕ → Type 0
MeetsNext es k = (k + 1 < length es) × ((d : Extent) → Meets (slice_index_or es k d) (slice_index_or es (k + 1) d))
