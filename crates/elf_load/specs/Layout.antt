-- Sharing an address as tests that compute; segments that lie where they may, and in order.
use Rattle.std.specs.Prelude.{◌≡◌, ◌&&◌, ◌||◌, false, true, Bool, nat_lt, ℕ, ◌+◌, ◌<◌, ◌≤◌, List, filter, slice_index_or, length}
use Rattle.std.specs.List.Sorted.{IsPermutation, IsNonDecreasingBy}
use Rattle.rv_model.specs.declared.machine.TheConstants.{INPUT_START, INPUT_LEN, OUTPUT_START, OUTPUT_LEN}
use Rattle.elf_load.specs.Header.{has_memory, is_load, lacks_bytes, is_out_of_range}
use Rattle.elf_load.specs.declared.header.ProgramHeader.{ProgramHeader}

-- n bytes from a on and m bytes from b on share an address
abbrev pub meets : ℕ → ℕ → ℕ → ℕ → Bool
meets a n b m = nat_lt 0 n && nat_lt 0 m && nat_lt a (b + m) && nat_lt b (a + n)

-- two segments share an address
abbrev pub overlaps : ProgramHeader → ProgramHeader → Bool
overlaps g h = is_load g && is_load h && meets g.p_vaddr g.p_memsz h.p_vaddr h.p_memsz

-- a segment has an address of a window
abbrev pub is_in_window : ProgramHeader → Bool
is_in_window h =
    is_load h && (meets h.p_vaddr h.p_memsz INPUT_START INPUT_LEN || meets h.p_vaddr h.p_memsz OUTPUT_START OUTPUT_LEN)

-- a segment with memory that passes the tests of a header by itself, in a file of that length
pub record IsPlaced (size : ℕ) (h : ProgramHeader) : Type 0 where
  pub memory : has_memory h ≡ true
  pub whole : lacks_bytes size h ≡ false
  pub below : is_out_of_range h ≡ false
  pub outside : is_in_window h ≡ false

-- the first segment ends at or before the start of the second
abbrev pub EndsBefore : ProgramHeader → ProgramHeader → Type 0
EndsBefore g h = g.p_vaddr + g.p_memsz ≤ h.p_vaddr

-- the headers of the segments with memory, in ascending order of address
pub record Ascends (hs sorted : List ProgramHeader) : Type 0 where
  pub same : IsPermutation (filter has_memory hs) sorted
  pub up : IsNonDecreasingBy (λ h. h.p_vaddr) sorted

-- no later header, below the n-th, has a segment that overlaps that of the i-th
abbrev pub HasNoPartner : List ProgramHeader → ℕ → ℕ → Type 0
HasNoPartner hs i n = (j : ℕ) (d : ProgramHeader) → i < j → j < n → overlaps (slice_index_or hs i d) (slice_index_or hs j d) ≡ false

-- the j-th header is the first after the i-th whose segment overlaps that of the i-th
pub record IsPartner (hs : List ProgramHeader) (i j : ℕ) : Type 0 where
  pub after : i < j
  pub within : j < length hs
  pub overlap : (d : ProgramHeader) → overlaps (slice_index_or hs i d) (slice_index_or hs j d) ≡ true
  pub first : HasNoPartner hs i j

-- none of the first n headers has a partner
abbrev pub NoneOverlaps : List ProgramHeader → ℕ → Type 0
NoneOverlaps hs n = (i : ℕ) → i < n → HasNoPartner hs i (length hs)
