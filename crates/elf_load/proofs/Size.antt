-- The number of bytes that a refusal names.
use Rattle.std.proofs.Common.{◌≡◌, ℕ, ◌+◌, ◌-◌, ◌<◌, ◌≤◌, ◌^◌, inl, inr, List, true, ◌||◌, nat_lt, length, get_or, filter, min, All, sym, ap, subst, arith}
use Rattle.std.proofs.Math.Nat.{mul-le-mul_right}
use Rattle.std.proofs.lemmas.Bool.{cases_Bool, and_from, ltb-false}
use Rattle.std.proofs.lemmas.List.{get_or-drop}
use Rattle.std.proofs.lemmas.List.Elements.{All-filter, filter_passes}
use Rattle.std.proofs.lemmas.List.Sums.{sum-map, sum_by-le, length-filter, count_by-le-length}
use Rattle.elf_load.specs.File.{u16_at, e_phnum, header, headers_of}
use Rattle.elf_load.specs.Header.{is_load, lacks_bytes}
use Rattle.elf_load.specs.Refusal.{Refused, data_size}
use Rattle.elf_load.specs.declared.header.ProgramHeader.{ProgramHeader}
use Rattle.elf_load.specs.declared.error.ElfErr.TheVariants.{FilePart, TooMuchData}
use Rattle.elf_load.proofs.Headers.{length_headers, header_is}

few_headers : (file : List ℕ) → ((i : ℕ) → get_or file i 0 < 256) → e_phnum file < 2 ^ 16
unfolding u16_at
few_headers file bytes = omega (arith, get_or-drop 56 file 0 0, get_or-drop 56 file 1 0, bytes 56, bytes 57)

-- a segment whose bytes are in the file has no more of them than the file
in_file : (size : ℕ) (h : ProgramHeader) → is_load h ≡ true → (lacks_bytes size h ≡ true → ⊥) → h.p_filesz ≤ size
in_file size h load whole =
    elim (cases_Bool (nat_lt size (h.p_offset + h.p_filesz))) [
      | inl past ↦ absurd (whole (and_from (is_load h) (nat_lt size (h.p_offset + h.p_filesz) || nat_lt h.p_memsz h.p_filesz) load (ap (λ b. b || nat_lt h.p_memsz h.p_filesz) past)))
      | inr inside ↦ let within : h.p_offset + h.p_filesz ≤ size = ltb-false size (h.p_offset + h.p_filesz) inside in omega arith
    ]

-- of a file of fewer than 2^48 bytes it is the sum itself
pub exact_size : (file : List ℕ) (n : ℕ) → ((i : ℕ) → get_or file i 0 < 256) → length file < 2 ^ 48 → Refused file (TooMuchData n) → n ≡ data_size (headers_of file)
exact_size file n bytes short r =
    let P : ProgramHeader → Type 0 = λ h. is_load h ≡ true → h.p_filesz ≤ length file in
    let each : All P (headers_of file) = λ i d l.
    let inside : i < e_phnum file = omega (arith, length_headers file) in
    subst P (sym (header_is file i d inside)) (λ load. in_file (length file) (header file i) load (λ e. r.first (FilePart i) (inl (omega arith)) (inside, e))) in
    let kept = All-filter is_load P (headers_of file) each in
    let loads = filter_passes is_load (headers_of file) in
    let bounded = sum_by-le (λ h. h.p_filesz) (length file) (filter is_load (headers_of file)) (λ i d l. kept i d l (loads i d l)) in
    let count : length (filter is_load (headers_of file)) ≤ 2 ^ 16 - 1 = omega (arith, length-filter is_load (headers_of file), count_by-le-length is_load (headers_of file), length_headers file, few_headers file bytes) in
    let most = mul-le-mul_right (length file) count in
    let sum = sum-map (λ h. h.p_filesz) (filter is_load (headers_of file)) in
    let is : n ≡ min (data_size (headers_of file)) (2 ^ 64 - 1) = r.fails.0 in
    omega (arith, bounded, most, sum)
