-- The first two headers whose segments overlap.
use Rattle.std.proofs.Common.{◌≡◌, ℕ, ◌<◌, inl, inr, List, Bool, length, false, true, get_or, refl, ap, sym, ◌∙◌, subst, arith}
use Rattle.elf_load.specs.File.{e_phnum, header, headers_of}
use Rattle.elf_load.specs.Layout.{overlaps, HasNoPartner, IsPartner, NoneOverlaps}
use Rattle.elf_load.specs.Refusal.{Fails, Refused}
use Rattle.elf_load.specs.Progress.{PassesFirst}
use Rattle.elf_load.specs.declared.header.ProgramHeader.{ProgramHeader}
use Rattle.elf_load.specs.declared.error.ElfErr.TheVariants.{Overlap}
use Rattle.elf_load.proofs.Headers.{length_headers, header_is, overlaps_at, overlap_at}
use Rattle.elf_load.proofs.Order.{refused_at, passes_more}

-- a test of two headers of the list is one of the headers with these indices
at_indices : (file : List ℕ) (hs : List ProgramHeader) (i j : ℕ) (d : ProgramHeader) (b : Bool) → hs ≡ headers_of file → i < e_phnum file → j < e_phnum file → overlaps (get_or hs i d) (get_or hs j d) ≡ b → overlaps (header file i) (header file j) ≡ b
at_indices file hs i j d b all p q e =
    let first : get_or hs i d ≡ header file i = ap (λ xs. get_or xs i d) all ∙ header_is file i d p in
    let second : get_or hs j d ≡ header file j = ap (λ xs. get_or xs j d) all ∙ header_is file j d q in
    subst (λ h. overlaps (header file i) h ≡ b) second (subst (λ g. overlaps g (get_or hs j d) ≡ b) first e)

long : (file : List ℕ) (hs : List ProgramHeader) → hs ≡ headers_of file → length hs ≡ e_phnum file
long file hs all = ap (λ xs. length xs) all ∙ length_headers file

-- a header with no partner below the n-th overlaps none of those
no_overlap : (file : List ℕ) (hs : List ProgramHeader) (i n : ℕ) → hs ≡ headers_of file → HasNoPartner hs i n → (j : ℕ) → j < n → Fails file (Overlap i j) → ⊥
no_overlap file hs i n all none j less f =
    let no : overlaps (header file i) (header file j) ≡ false = at_indices file hs i j (header file i) false all (omega (arith, f.0, f.1)) f.1 (none j (header file i) f.0 less) in
    let yes : overlaps (header file i) (header file j) ≡ true = overlaps_at (header file i) (header file j) f.2 f.3 f.4 in
    cc

pub no_partner_passes : (file : List ℕ) (hs : List ProgramHeader) → hs ≡ headers_of file → PassesFirst 9 file → NoneOverlaps hs (length hs) → PassesFirst 10 file
no_partner_passes file hs all passed none =
    passes_more file 9 passed (λ i j f. let size = long file hs all in no_overlap file hs i (length hs) all (none i (omega (arith, f.0, f.1, size))) j (omega (arith, f.1, size)) f)

pub partner_refused : (file : List ℕ) (hs : List ProgramHeader) (i j : ℕ) → hs ≡ headers_of file → PassesFirst 9 file → NoneOverlaps hs i → IsPartner hs i j → Refused file (Overlap i j)
partner_refused file hs i j all passed none partner =
    let size = long file hs all in
    let inside : j < e_phnum file = omega (arith, size, partner.within) in
    let yes = at_indices file hs i j (header file i) true all (omega (arith, inside, partner.after)) inside (partner.overlap (header file i)) in
    let a = overlap_at (header file i) (header file j) yes in
    refused_at file 9 (Overlap i j) passed refl (partner.after, inside, a.0, a.1, a.2)
    (λ k l less f. elim less [
      | inl before ↦ no_overlap file hs k (length hs) all (none k before) l (omega (arith, f.1, size)) f
      | inr same ↦ no_overlap file hs k j all (subst (λ m. HasNoPartner hs m j) (sym same.0) partner.first) l same.1 f
    ])
