-- Rom's rows, by what the image says at each pc.
use Rattle.std.proofs.Common.{◌≡◌, ◌==◌, ◌&&◌, ◌+◌, ◌*◌, ◌/◌, ◌%◌, ◌^◌, ◌<◌, ◌≤◌, ℕ, suc, Bool, true, false, cond, List, [], ◌∷◌, length, get_or, Option, None, Some, refl, ap, sym, ◌∙◌, subst, arith}
use Rattle.std.specs.Prelude.{find, Contains, All, AllPairs, IsSome}
use Rattle.std.specs.Option.{option_map}
use Rattle.std.proofs.lemmas.Bool.{false≢true}
use Rattle.std.proofs.lemmas.Bool.Decides.{nat_tests}
use Rattle.rv_word.specs.declared.instr.Instr.{Instr}
use Rattle.rv_word.specs.declared.instr.Instr.TheVariants.{Lui, Auipc, Jal, Jalr, Branch, Load, Store, OpImm, Op, Fence, Ecall, Ebreak}
use Rattle.rv_model.specs.Image.{Img, Seg, IsSegment, IsLoadable, runs_at, word_in, fetch}
use Rattle.rv_model.specs.Code.{instr_of}
use Rattle.rv_model.specs.declared.machine.TheConstants.{MEMORY_END}
use Rattle.step_rows.specs.declared.rom_row.RomRow.{RomRow}
use Rattle.step_rows.specs.Rom.{words, rom_row, row_unless_break, row_at, rom_rows}
use Rattle.image_rows.specs.Laws.{IsRowOf, IsRom}
use Rattle.image_rows.proofs.Below.{each_below, contains_below, pairs_below, length_below}
use Rattle.image_rows.proofs.Words.{many_words}

record IsRowAt (pc : ℕ) (o : Option Instr) (row : RomRow) : Type 0 where
  instr : Instr
  at : o ≡ Some instr
  no_break : instr ≡ Ebreak → ⊥
  is : row ≡ rom_row pc instr

given : (pc : ℕ) (i : Instr) (row : RomRow) → Some (rom_row pc i) ≡ Some row → (i ≡ Ebreak → ⊥) → IsRowAt pc (Some i) row
given pc i row e ne = let same : row ≡ rom_row pc i = cc in record { instr = i; at = refl; no_break = ne; is = same }

row_of : (pc : ℕ) (o : Option Instr) (row : RomRow) → row_unless_break pc o ≡ Some row → IsRowAt pc o row
row_of pc None row e = absurd cc
row_of pc (Some (Lui rd imm)) row e = given pc (Lui rd imm) row e (λ b. cc)
row_of pc (Some (Auipc rd imm)) row e = given pc (Auipc rd imm) row e (λ b. cc)
row_of pc (Some (Jal rd imm)) row e = given pc (Jal rd imm) row e (λ b. cc)
row_of pc (Some (Jalr rd rs1 imm)) row e = given pc (Jalr rd rs1 imm) row e (λ b. cc)
row_of pc (Some (Branch c rs1 rs2 imm)) row e = given pc (Branch c rs1 rs2 imm) row e (λ b. cc)
row_of pc (Some (Load k rd rs1 imm)) row e = given pc (Load k rd rs1 imm) row e (λ b. cc)
row_of pc (Some (Store k rs1 rs2 imm)) row e = given pc (Store k rs1 rs2 imm) row e (λ b. cc)
row_of pc (Some (OpImm o rd rs1 imm uw)) row e = given pc (OpImm o rd rs1 imm uw) row e (λ b. cc)
row_of pc (Some (Op o rd rs1 rs2 uw)) row e = given pc (Op o rd rs1 rs2 uw) row e (λ b. cc)
row_of pc (Some Fence) row e = given pc Fence row e (λ b. cc)
row_of pc (Some Ecall) row e = given pc Ecall row e (λ b. cc)
row_of pc (Some Ebreak) row e = absurd cc

has_row : (pc : ℕ) (i : Instr) → (i ≡ Ebreak → ⊥) → row_unless_break pc (Some i) ≡ Some (rom_row pc i)
has_row pc (Lui rd imm) ne = refl
has_row pc (Auipc rd imm) ne = refl
has_row pc (Jal rd imm) ne = refl
has_row pc (Jalr rd rs1 imm) ne = refl
has_row pc (Branch c rs1 rs2 imm) ne = refl
has_row pc (Load k rd rs1 imm) ne = refl
has_row pc (Store k rs1 rs2 imm) ne = refl
has_row pc (OpImm o rd rs1 imm uw) ne = refl
has_row pc (Op o rd rs1 rs2 uw) ne = refl
has_row pc Fence ne = refl
has_row pc Ecall ne = refl
has_row pc Ebreak ne = absurd (ne refl)

own_pc : (pc : ℕ) (i : Instr) → (rom_row pc i).pc ≡ pc
own_pc pc (Lui rd imm) = refl
own_pc pc (Auipc rd imm) = refl
own_pc pc (Jal rd imm) = refl
own_pc pc (Jalr rd rs1 imm) = refl
own_pc pc (Branch c rs1 rs2 imm) = refl
own_pc pc (Load k rd rs1 imm) = refl
own_pc pc (Store k rs1 rs2 imm) = refl
own_pc pc (OpImm o rd rs1 imm uw) = refl
own_pc pc (Op o rd rs1 rs2 uw) = refl
own_pc pc Fence = refl
own_pc pc Ecall = refl
own_pc pc Ebreak = refl

-- ---- a word that is fetched lies in memory
ends : (s : Seg) (a : ℕ) → runs_at a s ≡ true → a + 4 ≤ s.start + s.len
ends s a e = grind (arith, nat_tests)

in_segments : (pc w : ℕ) (segments : List Seg) → All IsSegment segments → option_map (λ s. word_in s pc) (find (runs_at pc) segments) ≡ Some w → pc < MEMORY_END
in_segments pc w [] all e = absurd cc
in_segments pc w (s ∷ ss) all e =
    let rest = in_segments pc w ss (λ j d lt. all (suc j) d (omega arith)) in
    let found : (b : Bool) → runs_at pc s ≡ b → option_map (λ s. word_in s pc) (cond b (Some s) (find (runs_at pc) ss)) ≡ Some w → pc < MEMORY_END =
    λ b. elim b as (λ v. runs_at pc s ≡ v → option_map (λ s. word_in s pc) (cond v (Some s) (find (runs_at pc) ss)) ≡ Some w → pc < MEMORY_END) [
      | true ↦ λ at h. let end = ends s pc at in let top = (all 0 s (omega arith)).below in omega arith
      | false ↦ λ at h. rest h
    ] in
    found (runs_at pc s) refl e

fetched_in : (image : Img) (pc w : ℕ) → IsLoadable image → fetch image pc ≡ Some w → (pc % 4 ≡ 0) × (pc < MEMORY_END)
unfolding fetch
fetched_in image pc w loadable e =
    let aligned : (b : Bool) → (pc % 4 == 0) ≡ b → cond b (option_map (λ s. word_in s pc) (find (runs_at pc) image.segments)) None ≡ Some w → (pc % 4 ≡ 0) × (pc < MEMORY_END) =
    λ b. elim b as (λ v. (pc % 4 == 0) ≡ v → cond v (option_map (λ s. word_in s pc) (find (runs_at pc) image.segments)) None ≡ Some w → (pc % 4 ≡ 0) × (pc < MEMORY_END)) [
      | true ↦ λ at h. (grind (arith, nat_tests), in_segments pc w image.segments loadable.segments h)
      | false ↦ λ at h. absurd cc
    ] in
    aligned (pc % 4 == 0) refl e

in_memory : (image : Img) (pc : ℕ) (i : Instr) → IsLoadable image → instr_of (fetch image pc) ≡ Some i → (pc % 4 ≡ 0) × (pc < MEMORY_END)
in_memory image pc i loadable e =
    let by : (o : Option ℕ) → fetch image pc ≡ o → instr_of o ≡ Some i → (pc % 4 ≡ 0) × (pc < MEMORY_END) =
    λ o. elim o as (λ v. fetch image pc ≡ v → instr_of v ≡ Some i → (pc % 4 ≡ 0) × (pc < MEMORY_END)) [ None ↦ λ at h. absurd cc | Some w ↦ λ at h. fetched_in image pc w loadable at ] in
    by (fetch image pc) refl e

pub entry_in : (image : Img) → IsLoadable image → image.entry < MEMORY_END
entry_in image loadable =
    let by : (o : Option ℕ) → fetch image image.entry ≡ o → IsSome o → image.entry < MEMORY_END =
    λ o. elim o as (λ v. fetch image image.entry ≡ v → IsSome v → image.entry < MEMORY_END) [ None ↦ λ at h. absurd (false≢true h) | Some w ↦ λ at h. (fetched_in image image.entry w loadable at).1 ] in
    by (fetch image image.entry) refl loadable.entry

pub few_rows : (image : Img) → length (rom_rows image) ≤ 2 ^ 30
unfolding rom_rows
few_rows image = let n = many_words in let h = length_below (λ k. row_at image (4 * k)) words in omega arith

-- ---- all rows
module _ (image : Img) (loadable : IsLoadable image) where
  row_here : (k : ℕ) (row : RomRow) → row_at image (4 * k) ≡ Some row → row.pc ≡ 4 * k
  row_here k row e = let h = row_of (4 * k) (instr_of (fetch image (4 * k))) row e in ap (λ (r : RomRow). r.pc) h.is ∙ own_pc (4 * k) h.instr

  one_row : (k : ℕ) (row : RomRow) → row_at image (4 * k) ≡ Some row → IsRowOf image row
  one_row k row e =
      let h = row_of (4 * k) (instr_of (fetch image (4 * k))) row e in
      let pc = row_here k row e in
      let at : instr_of (fetch image row.pc) ≡ Some h.instr = ap (λ n. instr_of (fetch image n)) pc ∙ h.at in
      record { instr = h.instr; below = (in_memory image row.pc h.instr loadable at).1; at = at; no_break = h.no_break; is = h.is ∙ ap (λ n. rom_row n h.instr) (sym pc) }

  row_for : (pc : ℕ) (i : Instr) → instr_of (fetch image pc) ≡ Some i → (i ≡ Ebreak → ⊥) → row_at image (4 * (pc / 4)) ≡ Some (rom_row pc i)
  row_for pc i e ne =
      let memory = in_memory image pc i loadable e in
      let is : 4 * (pc / 4) ≡ pc = omega (arith, memory.0) in
      ap (row_at image) is ∙ ap (row_unless_break pc) e ∙ has_row pc i ne

  pub is_rom : IsRom image (rom_rows image)
  unfolding rom_rows
  is_rom = let n = many_words in record {
    ascending = pairs_below (λ k. row_at image (4 * k)) (λ (r : RomRow). r.pc) (λ k. 4 * k) row_here (λ j k lt. omega arith) words;
    each = each_below (λ k. row_at image (4 * k)) (IsRowOf image) words (λ k row lt e. one_row k row e);
    every = λ pc i e ne.
        let memory = in_memory image pc i loadable e in
        contains_below (λ k. row_at image (4 * k)) words (pc / 4) (rom_row pc i) (omega (arith, memory.1)) (row_for pc i e ne);
  }

pub rows_in_memory : (image : Img) → IsLoadable image → All (λ (row : RomRow). row.pc < MEMORY_END) (rom_rows image)
rows_in_memory image loadable k d lt = ((is_rom image loadable).each k d lt).below
